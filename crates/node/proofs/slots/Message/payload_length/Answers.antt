-- `Message::payload_length` meets its contract: of eight bytes no more than eight are taken.
use Rattle.std.proofs.Common.{◌≡◌, length, sym, ◌∙◌, rules}
use Rattle.node.proofs.slots.Payloads.{payload_length}
use Rattle.node.proofs.slots.Message.payload_length.Goals as goal
use Rattle.node.proofs.slots.Message.payload_length.Goals.{Start}

eight_bytes : (c : Start) → length c.args.self.bytes ≡ 8
eight_bytes c = search rules

pub returns : goal.returns
returns c =
    rw c.from.ensures at c.at_most_payload.ensures ∙ sym (payload_length c.args.self (eight_bytes (goal.at.returns c).Start))
