-- What the loop of `claims_of` keeps: the claims of the first k streams are gathered.
use Rattle.response.proofs.Gathering.{Gathered}
use Rattle.response.proofs.waiting.claims_of.Given as goal

abbrev pub invariant-loop-k : goal.invariant-loop-k
invariant-loop-k l = Gathered l.load.streams.now l.s l.k l.claims
