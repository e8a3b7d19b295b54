-- `pending_at` meets its contract: the flags that the test looks at.
use Rattle.node_bytes.specs.Decoding.{slot_from}
use Rattle.node_bytes.proofs.slots.pending_at.Goals as goal

pub returns : goal.returns
unfolding slot_from
returns c = rw (c.any.ensures, c.pending_from-p.ensures)
