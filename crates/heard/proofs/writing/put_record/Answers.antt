-- `put_record` meets its contract: its parts are stored one behind the other (`Storing.antt`).
use native.Mathlib.Omega.{arith}
use mathlib.Core.Path.{◌≡◌, refl, ◌∙◌}
use lib.ListN.{length, length-set}
use Rattle.heard.specs.Records.{heard_of}
use Rattle.heard.proofs.Storing.{stored_part, stored_parts}
use Rattle.heard.proofs.writing.put_record.Goals as goal

pub returns : goal.returns
returns c =
    let a = c.args in
    let width = c.count_bytes-width.ensures.0 in
    let all : length c.put_number-4.new.out ≡ length a.out.now =
    c.put_number-4.ensures.1 ∙ c.put_number-3.ensures.1 ∙ c.put_number-2.ensures.1 ∙ c.put_number.ensures.1 in
    stored_part _ _ a.payload.now _ _ c.copy_from_slice.ensures.after refl (simp length-set (omega (arith, all, width, c.requires.1)))
    ∙ rw (
      c.put_number-4.ensures.0,
      c.put_number-3.ensures.0,
      c.put_number-2.ensures.0,
      c.from.ensures,
      c.number.ensures,
      c.put_number.ensures.0,
      width,
    )
    (stored_parts (heard_of a.heard) a.payload.now a.out.now c.requires.1)
