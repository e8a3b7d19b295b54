-- `text::output::Printer::put_hex` meets its contract.
use native.Mathlib.Omega.{arith}
use borrow.Author.Tests.{eqb-false}
use mathlib.Core.Path.{sym}
use Rattle.text.proofs.OutputLaws.{put_there, put_past}
use Rattle.text.proofs.PayloadLaws.{text_length}
use Rattle.text.proofs.output.Printer.put_hex.Goals as goal

pub returns-then-s : goal.returns-then-s
returns-then-s c =
    let some = eqb-false _ _ (sym c.if-is_empty.ensures) in
    let n = text_length c.args.s.now (omega (arith, some)) in
    put_there c.make_room.ensures.buffer c.make_room.ensures.at (omega (arith, n)) c.place_hex.ensures

pub returns-else-s : goal.returns-else-s
returns-else-s c =
    let n = text_length c.args.s.now (omega arith) in
    put_past c.flush.ensures.buffer (omega (arith, n)) c.flush.ensures.at
