-- `is_free` meets its contract: of the slot that is there, or of the empty one.
use mathlib.Core.Path.{sym, ◌∙◌}
use Rattle.node.specs.Slots.{is_free}
use Rattle.node_bytes.proofs.Lent.{is_slot_law, asked_there, asked_empty}
use Rattle.node_bytes.proofs.slots.is_free.Goals as goal

pub free_at-requires : goal.free_at-requires
free_at-requires c =
    let a = c.args in is_slot_law a.bytes.now a.i (sym c.is_slot.ensures ∙ c.if-is_slot.true)

pub returns-then-is_slot : goal.returns-then-is_slot
returns-then-is_slot c =
    let a = c.args in
    asked_there is_free a.bytes.now a.i c.is_slot.ensures c.if-is_slot.true c.free_at.ensures

pub returns : goal.returns
returns c =
    let a = c.args in asked_empty is_free a.bytes.now a.i c.is_slot.ensures c.if-is_slot.false
