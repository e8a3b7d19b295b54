-- `deliver_at` meets its contract: the message goes, and the record writer is handed as many of its eight bytes as its payload has.
use mathlib.Core.Path.{◌≡◌, refl, ap, ◌∙◌}
use lib.ListN.{length}
use Rattle.wire.specs.Frames.{max_payload}
use Rattle.node.specs.declared.slots.Slot.{Slot}
use Rattle.node.specs.Tick.{delivered}
use Rattle.node.proofs.slots.Payloads.{part_is_payload}
use Rattle.node_bytes.specs.Decoding.{slot_from}
use Rattle.node_bytes.proofs.CallingTick.{message_put}
use Rattle.node_bytes.proofs.tick.deliver_at.Goals as goal
use Rattle.node_bytes.proofs.tick.deliver_at.Goals.{After-slot_at-old}

-- the message that was read has eight bytes
eight_bytes : (c : After-slot_at-old) → (c.slot_at-old.result.message.bytes ≡ c.slot_at-old.result.message.bytes)
    × (length c.slot_at-old.result.message.bytes ≡ max_payload)
unfolding slot_from
eight_bytes c = (refl, ap (λ (y : Slot). length y.message.bytes) c.slot_at-old.ensures)

pub returns : goal.returns
returns c =
    let there = c.slot_at-old.ensures in
    let n = c.payload_length-n.result in
    let gone = c.delivered-t.ensures ∙ ap delivered there in
    let stored = message_put _ _ _ c.requires.1 _ c.put_message.ensures _ gone in
    let payload = part_is_payload c.slot_at-old.result.message _ (eight_bytes (goal.at.returns c).After-slot_at-old) _ c.payload_length-n.ensures in
    let answer = rw (payload, there) at c.write_record.ensures.answer in
    let output = rw (payload, there) at c.write_record.ensures.output in
    (stored.0, rw gone at stored.1, answer, output)
