-- `confirmed_at` meets its contract: the flag at its place.
use Rattle.node_bytes.specs.Decoding.{slot_from}
use Rattle.node_bytes.proofs.slots.confirmed_at.Goals as goal

pub returns : goal.returns
unfolding slot_from
returns c = c.flag_at.ensures
