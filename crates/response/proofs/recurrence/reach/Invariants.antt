-- What the loop of `reach` keeps: the claims so far ask for no less than their parts.
use Rattle.response.proofs.Claims.{AskedFrom}
use Rattle.response.proofs.recurrence.reach.Given as goal

abbrev pub invariant-loop-claim : goal.invariant-loop-claim
invariant-loop-claim l = AskedFrom l.claims l.blocking l.w l.claim-index l.fixed l.share
