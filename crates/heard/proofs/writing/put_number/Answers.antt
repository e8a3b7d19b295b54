-- `put_number` meets its contract: the bytes of the number are written over a part of the output.
use mathlib.Core.Path.{sym, ◌∙◌}
use lib.Seq.{length-sets}
use Rattle.wire.specs.Delivered.{little_endian}
use Rattle.heard.proofs.Numbers.{low_bytes}
use Rattle.heard.proofs.Storing.{stored_part, length_number}
use Rattle.heard.proofs.writing.put_number.Goals as goal

pub returns : goal.returns
returns c =
    let a = c.args in
    let bytes = c.copy_from_slice.ensures.after ∙ rw c.to_le_bytes.ensures (low_bytes a.width a.n c.requires.0) in
    let all = little_endian a.width a.n in
    let stored = stored_part a.out.now c.copy_from_slice.new.self all a.at a.width bytes (sym (length_number a.width a.n)) c.requires.1 in
    (stored, rw stored (length-sets a.out.now a.at all))
