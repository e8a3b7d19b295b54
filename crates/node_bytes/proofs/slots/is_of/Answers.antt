-- `is_of` meets its contract: of the slot that is there, or of the empty one.
use mathlib.Core.Path.{sym, ◌∙◌}
use Rattle.node.specs.Slots.{is_of}
use Rattle.node_bytes.proofs.Lent.{is_slot_law, asked_there, asked_empty}
use Rattle.node_bytes.proofs.slots.is_of.Goals as goal

pub of_at-requires : goal.of_at-requires
of_at-requires c =
    let a = c.args in is_slot_law a.bytes.now a.i (sym c.is_slot.ensures ∙ c.if-is_slot.true)

pub returns-then-is_slot : goal.returns-then-is_slot
returns-then-is_slot c =
    let a = c.args in
    asked_there (is_of a.stream) a.bytes.now a.i c.is_slot.ensures c.if-is_slot.true c.of_at.ensures

pub returns : goal.returns
returns c =
    let a = c.args in asked_empty (is_of a.stream) a.bytes.now a.i c.is_slot.ensures c.if-is_slot.false
