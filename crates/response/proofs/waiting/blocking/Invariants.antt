-- What the loop of `blocking` keeps: the longest so far, or one of those that are left.
use lib.ListN.{drop}
use Prim.Native.Nat.{max}
use mathlib.Core.Path.{◌≡◌}
use Rattle.response.specs.Waiting.{blocking}
use Rattle.response.proofs.waiting.blocking.Given as goal

abbrev pub invariant-loop-j : goal.invariant-loop-j
invariant-loop-j l = max l.longest (blocking (drop l.j-index l.streams) l.s) ≡ blocking l.streams l.s
