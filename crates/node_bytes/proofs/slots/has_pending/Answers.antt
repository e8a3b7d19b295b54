-- `has_pending` meets its contract: of the slot that is there, or of the empty one.
use mathlib.Core.Path.{sym, ◌∙◌}
use mathlib.Core.Bool.{Bool}
use Rattle.node.specs.declared.slots.Slot.{Slot}
use Rattle.node.specs.Request.{has_pending}
use Rattle.node_bytes.proofs.Lent.{is_slot_law, asked_there, asked_empty}
use Rattle.node_bytes.proofs.slots.has_pending.Goals as goal

pub pending_at-requires : goal.pending_at-requires
pending_at-requires c =
    let a = c.args in is_slot_law a.bytes.now a.i (sym c.is_slot.ensures ∙ c.if-is_slot.true)

-- what is asked of the slot
abbrev asked : Slot → Bool
asked x = has_pending x.pending

pub returns-then-is_slot : goal.returns-then-is_slot
returns-then-is_slot c =
    let a = c.args in
    asked_there asked a.bytes.now a.i c.is_slot.ensures c.if-is_slot.true c.pending_at.ensures

pub returns : goal.returns
returns c =
    let a = c.args in asked_empty asked a.bytes.now a.i c.is_slot.ensures c.if-is_slot.false
