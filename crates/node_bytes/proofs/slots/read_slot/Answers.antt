-- `read_slot` meets its contract: the slot that is there, or the empty one.
use mathlib.Core.Path.{sym, ◌∙◌}
use Rattle.node_bytes.proofs.Lent.{is_slot_law, there, not_there}
use Rattle.node_bytes.proofs.slots.read_slot.Goals as goal

pub slot_at-requires : goal.slot_at-requires
slot_at-requires c =
    let a = c.args in is_slot_law a.bytes.now a.i (sym c.is_slot.ensures ∙ c.if-is_slot.true)

pub returns-then-is_slot : goal.returns-then-is_slot
returns-then-is_slot c =
    let a = c.args in
    let e = sym c.is_slot.ensures ∙ c.if-is_slot.true in
    c.slot_at.ensures ∙ sym (there a.bytes.now a.i e)

pub returns : goal.returns
returns c =
    let a = c.args in
    let e = sym c.is_slot.ensures ∙ c.if-is_slot.false in
    c.empty.ensures ∙ sym (not_there a.bytes.now a.i e)
