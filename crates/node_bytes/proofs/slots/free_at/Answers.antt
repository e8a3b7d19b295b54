-- `free_at` meets its contract: the flag that the test looks at.
use Rattle.node_bytes.specs.Decoding.{slot_from}
use Rattle.node_bytes.proofs.slots.free_at.Goals as goal

pub returns : goal.returns
unfolding slot_from
returns c = rw c.flag_at.ensures
