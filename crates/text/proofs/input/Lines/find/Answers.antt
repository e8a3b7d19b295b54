-- `text::input::Lines::find` meets its contract.
use Prim.Native.Nat.{◌+◌}
use native.Mathlib.Numerals.{add-one}
use native.Mathlib.Omega.{arith}
use mathlib.Core.Path.{◌∙◌}
use borrow.Author.Tests.{ne_eqb}
use Rattle.text.proofs.LineLaws.{read_on}
use Rattle.text.proofs.input.Lines.find.Goals as goal

pub loop-reads-preserved : goal.loop-reads-preserved
loop-reads-preserved c =
    let step = c.in-Part.ensures in
    let next = read_on _ _ _ step.at_hand step.gone_on c.read.ensures.refilled c.read.ensures.over in
    record {
      came = rw (add-one c.loop-reads._reads) (c.loop-reads.self, (c.loop-reads.invariant.came, next));
      buffer = c.read.ensures.buffer ∙ c.loop-reads.invariant.buffer;
      at = rw (ne_eqb (c.loop-reads._reads + 1) 0 (λ e. omega (arith, e))) c.read.ensures.at;
    }
