-- `waiting` meets its contract: the claims make the equation (`Gathering.antt`).
use native.Mathlib.Omega.{arith}
use lib.ListN.{length-take}
use Rattle.response.specs.declared.claim.Claim.{Claim}
use Rattle.response.proofs.Gathering.{blocking_most}
use Rattle.response.proofs.waiting.waiting.Goals as goal

pub least_solution-requires : goal.least_solution-requires
least_solution-requires c =
    (omega (arith, length-take {A = Claim}), rw c.blocking.ensures (blocking_most _ _ c.args.load.legal.records), rw c.timely.ensures (omega arith))
