-- `stamp` meets its contract: of the slot that is there, or of the empty one.
use mathlib.Core.Path.{sym, ◌∙◌}
use Rattle.node.specs.declared.slots.Slot.{Slot}
use Rattle.node_bytes.proofs.Lent.{is_slot_law, asked_there, asked_empty}
use Rattle.node_bytes.proofs.slots.stamp.Goals as goal

pub stamp_at-requires : goal.stamp_at-requires
stamp_at-requires c =
    let a = c.args in is_slot_law a.bytes.now a.i (sym c.is_slot.ensures ∙ c.if-is_slot.true)

pub returns-then-is_slot : goal.returns-then-is_slot
returns-then-is_slot c =
    let a = c.args in
    asked_there (λ (x : Slot). x.message.stamp) a.bytes.now a.i c.is_slot.ensures c.if-is_slot.true c.stamp_at.ensures

pub returns : goal.returns
returns c =
    let a = c.args in
    asked_empty (λ (x : Slot). x.message.stamp) a.bytes.now a.i c.is_slot.ensures c.if-is_slot.false
