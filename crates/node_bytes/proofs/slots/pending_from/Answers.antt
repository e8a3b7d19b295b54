-- `pending_from` meets its contract: each flag is what stands at its place.
use Rattle.node_bytes.proofs.slots.pending_from.Goals as goal

pub returns : goal.returns
returns c = rw (c.flag_at.ensures, c.flag_at-2.ensures, c.flag_at-3.ensures)
