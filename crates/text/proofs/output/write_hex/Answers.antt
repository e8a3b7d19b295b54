-- `text::output::write_hex` meets its contract.
use Prim.Native.Nat.{◌+◌, ◌*◌}
use native.Mathlib.Omega.{arith}
use mathlib.Core.Path.{◌≡◌}
use Rattle.text.proofs.PayloadLaws.{pair_written}
use Rattle.text.proofs.output.write_hex.Goals as goal

pub loop-i-preserved : goal.loop-i-preserved
loop-i-preserved c =
    let e : 2 * (c.loop-i.i + 1) ≡ 2 * c.loop-i.i + 2 = omega arith in
    rw e (pair_written c.args.s.now c.loop-i.i _ _ (omega arith) (omega arith) c.glyph.ensures c.glyph-in-loop-i.ensures c.loop-i.invariant)
