-- `text::numbers::decimal` meets its contract. The invariant: a number is read, and the rest of the word decides.
use native.Mathlib.Omega.{arith}
use mathlib.Core.Path.{refl, sym}
use borrow.Author.Tests.{eqb-true, eqb-false}
use Rattle.text.proofs.NumberLaws.{start, empty_is_none, digit_read, stopped, all_read}
use Rattle.text.proofs.numbers.decimal.Goals as goal

pub returns-then-is_empty-clause-value : goal.returns-then-is_empty-clause-value
returns-then-is_empty-clause-value c = empty_is_none _ _ (eqb-true _ _ (sym c.if-is_empty.ensures))

pub loop-b-init : goal.loop-b-init
loop-b-init c = start _ _ (omega (arith, eqb-false _ _ (sym c.if-is_empty.ensures)))

pub returns-in_err-value-clause-value : goal.returns-in_err-value-clause-value
returns-in_err-value-clause-value c =
    rw c.from_residual.ensures (stopped c.loop-b.invariant _ (omega arith) refl c.in_err-value.ensures)

pub loop-b-preserved : goal.loop-b-preserved
loop-b-preserved c =
    let h = c.in_ok-value.ensures in
    rw h.1 (digit_read c.loop-b.invariant _ (omega arith) refl h.0)

pub returns-clause-value : goal.returns-clause-value
returns-clause-value c = all_read c.loop-b.invariant (omega arith)
