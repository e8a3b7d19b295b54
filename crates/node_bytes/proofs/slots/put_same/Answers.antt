-- `put_same` meets its contract: two bytes are stored, and the node that the bytes are is the same.
use mathlib.Core.Path.{◌≡◌}
use Rattle.node_bytes.proofs.PartsStored.{anew_length, anew_decoded}
use Rattle.node_bytes.proofs.slots.put_same.Goals as goal

pub returns : goal.returns
returns c =
    let a = c.args in
    rw (c.flag.ensures, c.flag_at.ensures)
    (anew_length a.bytes.now a.i c.requires.0 c.requires.1, anew_decoded a.bytes.now a.i c.requires.0 c.requires.1)
