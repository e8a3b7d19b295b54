-- `text::output::Printer::place_hex` meets its contract.
use native.Mathlib.Omega.{arith}
use Rattle.text.proofs.OutputLaws.{copied}
use Rattle.text.proofs.PayloadLaws.{some_text, hex_length}
use Rattle.text.proofs.output.Printer.place_hex.Goals as goal

pub returns : goal.returns
returns c =
    let s = c.args.s.now in
    rw (some_text s c.requires.0) (copied _ _ _ _ _ (omega (arith, hex_length s)) (omega arith) c.write_hex.ensures)
