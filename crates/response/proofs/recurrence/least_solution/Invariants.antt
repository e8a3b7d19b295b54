-- What the loop of `least_solution` keeps: no solution lies below w.
use Prim.Native.Nat.{◌-◌}
use Rattle.response.specs.Recurrence.{NoneBelow}
use Rattle.response.proofs.recurrence.least_solution.Given as goal

abbrev pub invariant-loop-w : goal.invariant-loop-w
invariant-loop-w l = NoneBelow l.claims l.blocking 0 l.w

abbrev pub decreases-loop-w : goal.decreases-loop-w
decreases-loop-w l = l.room - l.w
