-- `claims_of` meets its contract: the claims are gathered one by one, and that of the errors is put behind them (`Gathering.antt`).
use borrow.Author.Rules.{rules}
use native.Mathlib.Omega.{arith}
use Rattle.response.proofs.Gathering.{none_gathered, one_gathered}
use Rattle.response.proofs.waiting.claims_of.Goals as goal

pub loop-k-init : goal.loop-k-init
loop-k-init c = none_gathered (search rules)

pub loop-k-preserved : goal.loop-k-preserved
loop-k-preserved c =
    let (cost, period, lead) = c.claim_of.ensures in one_gathered c.loop-k.invariant c.claim_of.result (omega arith) (omega arith) cost period lead
