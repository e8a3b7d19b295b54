-- `copy` meets its contract: at the loop's turn i the first i bytes are copied.
use Rattle.std.proofs.Common.{◌≡◌}
use Rattle.wire.proofs.Copied.{copied}
use Rattle.wire.proofs.copying.copy.Given as goal

abbrev pub invariant-loop-i : goal.invariant-loop-i
invariant-loop-i l = l.out ≡ copied l.fn.out l.fn.from l.i
