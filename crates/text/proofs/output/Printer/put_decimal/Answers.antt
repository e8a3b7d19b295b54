-- `text::output::Printer::put_decimal` meets its contract.
use native.Mathlib.Omega.{arith}
use Rattle.text.proofs.NumberLaws.{text_at_end}
use Rattle.text.proofs.output.Printer.put_decimal.Goals as goal

pub returns : goal.returns
returns c = rw (text_at_end c.decimal-start.new.digits c.decimal-start.result c.args.n (omega arith) c.decimal-start.ensures.text) at c.put.ensures
