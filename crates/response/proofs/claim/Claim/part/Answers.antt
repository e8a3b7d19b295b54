-- `part` meets its contract: a share of the bus is no more than the claim asks for (`Claims.antt`).
use Rattle.response.proofs.Claims.{claimed_share}
use Rattle.response.proofs.claim.Claim.part.Goals as goal

pub returns : goal.returns
returns c = claimed_share c.args.self.in_range _
