-- `next_frame` meets its contract: each return cites the way through the definition, of the node that the bytes are.
use Rattle.std.proofs.Common.{◌≡◌, ℕ, ◌<◌, List, length, refl, sym, ap, ◌∙◌, arith}
use Rattle.wire.specs.Answers.{is_done}
use Rattle.node.specs.declared.slots.Slot.{Slot}
use Rattle.node.specs.declared.Node.{Node}
use Rattle.node.specs.Slots.{with_parts}
use Rattle.node.specs.Nodes.{as_given}
use Rattle.node.specs.NextFrame.{has_frame, given_out}
use Rattle.node.specs.Calls.{Call}
use Rattle.node.proofs.Choices.{contrary}
use Rattle.node.proofs.Answering.{was_refused, was_done, was_missed, was_found, hands_on}
use Rattle.node.proofs.slots.Finding.{no_slot, index_of, place_found, place_missed}
use Rattle.node.proofs.next_frame.Ways.{short_output, none_pending, joins, frame_given, payload_fits}
use Rattle.node_bytes.specs.Decoding.{slot_at, decode}
use Rattle.node_bytes.proofs.ByIndex.{decoded_slot, decoded_length}
use Rattle.node_bytes.proofs.Calling.{not_a_node, call_refused, call_done}
use Rattle.node_bytes.proofs.next_frame.next_frame.Goals as goal
use Rattle.node_bytes.proofs.next_frame.next_frame.Goals.{Start, In_ok-i}

-- ── the call ──
module _ (s : Start) where
  abbrev bytes : List ℕ
  bytes = s.args.bytes.now

  abbrev output : List ℕ
  output = s.args.out.now

  abbrev node : Node
  node = decode bytes

  abbrev call : Call
  call = Call.next_frame output

pub returns-then-bytes-ne-NODE_SIZE : goal.returns-then-bytes-ne-NODE_SIZE
returns-then-bytes-ne-NODE_SIZE c =
    let s = (goal.at.returns-then-bytes-ne-NODE_SIZE c).Start in
    let t = not_a_node (call s) (bytes s) as_given (output s) c.if-bytes-ne-NODE_SIZE.true in
    record { answer = t.0; output = t.1.0; leaves = t.1.1 }

pub returns-then-out-lt-NEXT_ROOM : goal.returns-then-out-lt-NEXT_ROOM
returns-then-out-lt-NEXT_ROOM c =
    let s = (goal.at.returns-then-out-lt-NEXT_ROOM c).Start in
    let t = call_refused (call s) (bytes s) as_given (output s) c.if-bytes-ne-NODE_SIZE.false
    (short_output (output s) (node s) c.if-out-lt-NEXT_ROOM.true) refl refl refl in
    record { answer = t.0; output = t.1.0; leaves = t.1.1 }

pub returns-in_err-i : goal.returns-in_err-i
returns-in_err-i c =
    let s = (goal.at.returns-in_err-i c).Start in
    let missed = was_missed _ _ c.in_err-i.ensures.value in
    let none = place_missed has_frame (node s).slots c.find_frame.ensures missed.1 in
    let t = call_refused (call s) (bytes s) as_given (output s) c.if-bytes-ne-NODE_SIZE.false
    (none_pending (output s) (node s) c.if-out-lt-NEXT_ROOM.false _ refl none) refl (hands_on _ c.from_residual.ensures.1 missed.0) refl in
    record { answer = t.0; output = t.1.0; leaves = t.1.1 }

-- ── the first slot that has one ──
here : (c : In_ok-i) → (c.in_ok-i.i ≡ index_of has_frame (decode c.before.args.bytes.now).slots)
    × (c.in_ok-i.i < length (decode c.before.args.bytes.now).slots)
here c = place_found _ _ c.before.find_frame.ensures (was_found _ _ c.in_ok-i.ensures.value)

pub slot_at-slot-requires : goal.slot_at-slot-requires
slot_at-slot-requires c = (c.if-bytes-ne-NODE_SIZE.false, omega (arith, here c, decoded_length c.args.bytes.now))

-- its identifier is never refused
pub returns-in_err-id : goal.returns-in_err-id
returns-in_err-id c =
    let s = (goal.at.returns-in_err-id c).Start in
    let h = here (goal.at.returns-in_err-id c).In_ok-i in
    let slot_of_node = c.slot_at-slot.ensures ∙ sym (decoded_slot (bytes s) c.in_ok-i.i no_slot (omega (arith, h, decoded_length (bytes s)))) in
    let said = was_refused _ _ (rw slot_of_node at c.in_err-id.ensures) in
    contrary (ap is_done (joins (output s) (node s) c.if-out-lt-NEXT_ROOM.false _ h.0 h.1 no_slot _ (rw slot_of_node at c.lowest_code-code.ensures))) said.1

pub put_pending-requires : goal.put_pending-requires
put_pending-requires c = (
  c.if-bytes-ne-NODE_SIZE.false,
  omega (arith, here (goal.at.put_pending-requires c).In_ok-i, decoded_length c.args.bytes.now),
  ap (λ (x : Slot). x.pending) c.slot_at-slot.ensures,
)

pub returns : goal.returns
unfolding given_out
returns c =
    let s = (goal.at.returns c).Start in
    let h = here (goal.at.returns c).In_ok-i in
    let room = c.if-out-lt-NEXT_ROOM.false in
    let slot_of_node = c.slot_at-slot.ensures ∙ sym (decoded_slot (bytes s) c.in_ok-i.i no_slot (omega (arith, h, decoded_length (bytes s)))) in
    let code = rw slot_of_node at c.lowest_code-code.ensures in
    let id = (was_done _ _ (rw slot_of_node at c.in_ok-id.ensures)).0 in
    let short = rw slot_of_node at c.give_payload-len.ensures.short in
    let fits = payload_fits (output s) (node s) room _ h.0 h.1 no_slot _ code short in
    let counted = rw (slot_of_node, fits) at c.give_payload-len.ensures.answer in
    let written = rw (slot_of_node, fits) at c.give_payload-len.ensures.output in
    let there = slot_at (bytes s) c.in_ok-i.i in
    let stored : with_parts there there.message c.given_out-given.result.pending ≡ c.given_out-given.result =
    rw (c.given_out-given.ensures, c.slot_at-slot.ensures) in
    let t = call_done (call s) (bytes s) as_given (output s) c.if-bytes-ne-NODE_SIZE.false
    (frame_given (output s) (node s) room _ h.0 h.1 no_slot _ code _ _ id (rw slot_of_node at c.given_out-given.ensures)) refl
    (rw counted) written c.put_pending.ensures.0
    (rw stored at c.put_pending.ensures.1) in
    record { answer = t.0; output = t.1.0; leaves = t.1.1 }
