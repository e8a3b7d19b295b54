-- `message_from` meets its contract: each part is what stands at its place.
use Rattle.node_bytes.proofs.slots.message_from.Goals as goal

pub returns : goal.returns
returns c =
    rw (c.two_at.ensures, c.flag_at.ensures, c.flag_at-2.ensures, c.eight_at.ensures)
