-- `text::output::decimal` meets its contract.
use Prim.Native.Nat.{◌-◌}
use native.Mathlib.Omega.{arith}
use Rattle.text.proofs.NumberLaws.{unwritten, digit_written, last_written}
use Rattle.text.proofs.output.decimal.Goals as goal

pub loop-rest-init : goal.loop-rest-init
loop-rest-init c = unwritten c.args.n c.args.digits.now (omega arith) (omega arith)

pub loop-rest-preserved : goal.loop-rest-preserved
loop-rest-preserved c = rw c.glyph.ensures (digit_written c.loop-rest.invariant (c.loop-rest.at - 1) (omega arith) c.loop-rest-test.true)

pub returns-clause-text : goal.returns-clause-text
returns-clause-text c = rw c.glyph-2.ensures (last_written c.loop-rest.invariant (c.loop-rest.at - 1) (omega arith) c.loop-rest-test.false)
