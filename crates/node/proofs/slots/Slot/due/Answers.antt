-- `Slot::due` meets its contract: a message that is too young is not due, and for an older one the code is the definition.
use Rattle.std.proofs.Common.{◌∙◌, le-ltb}
use Rattle.node.proofs.tick.Stirring.{young_is_not_due, old_is_due}
use Rattle.node.proofs.slots.Slot.due.Goals as goal

pub returns-then-age-s : goal.returns-then-age-s
returns-then-age-s c = rw c.is_receiver.ensures (old_is_due _ _ c.if-age-s.true)

pub returns-else-age-s : goal.returns-else-age-s
returns-else-age-s c = le-ltb _ _ c.if-age-s.false ∙ young_is_not_due _ _ c.if-age-s.false
