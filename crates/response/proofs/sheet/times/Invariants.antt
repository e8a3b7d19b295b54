-- What the loop of `times` keeps: the first i streams are solved.
use Rattle.response.proofs.Solving.{SolvedTo}
use Rattle.response.proofs.sheet.times.Given as goal

abbrev pub invariant-loop-i : goal.invariant-loop-i
invariant-loop-i l = SolvedTo l.load.streams.now l.load.errors l.i l.times
