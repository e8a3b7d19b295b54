-- `after_at` meets its contract: the flag and the number that the test looks at.
use Rattle.node_bytes.specs.Decoding.{slot_from}
use Rattle.node_bytes.proofs.slots.after_at.Goals as goal

pub returns : goal.returns
unfolding slot_from
returns c = rw (c.flag_at.ensures, c.four_at.ensures)
