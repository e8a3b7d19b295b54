-- `deliver_delay_at` meets its contract: the number at its place.
use Rattle.node_bytes.specs.Decoding.{slot_from}
use Rattle.node_bytes.proofs.slots.deliver_delay_at.Goals as goal

pub returns : goal.returns
unfolding slot_from
returns c = c.two_at.ensures
