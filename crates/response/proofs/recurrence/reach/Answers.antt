-- `reach` meets its contract: what the parts come to is a lower bound of what is asked for (`Claims.antt`).
use native.Mathlib.Omega.{arith}
use Rattle.response.proofs.Claims.{asked_from_more, none_below_share}
use Rattle.response.proofs.recurrence.reach.Goals as goal

pub loop-claim-preserved : goal.loop-claim-preserved
loop-claim-preserved c = asked_from_more c.loop-claim.invariant (omega arith) c.claim-item.is c.part-part.ensures

pub returns : goal.returns
returns c = none_below_share c.loop-claim.invariant (omega arith) c.if-share-ge-WHOLE.false
