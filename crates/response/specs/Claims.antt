-- A claim on the bus, as numbers alone. Only contracts of private functions cite this.
use Rattle.std.specs.Prelude.{ℕ, ◌+◌, ◌*◌, ◌≤◌}
use Rattle.response.specs.Streams.{most}
use Rattle.response.specs.Waiting.{ceiling}

pub record InRange (cost period lead : ℕ) : Type 0 where
  pub cost_most : cost ≤ most
  pub period_least : 1 ≤ period
  pub period_most : period ≤ most
  pub lead_least : 1 ≤ lead
  pub lead_most : lead ≤ most

-- a claim takes the bus for its cost, once for each of its periods that begins before the lead has passed after the waiting time
abbrev pub claimed : (cost period lead w : ℕ) → ℕ
claimed cost period lead w = ceiling (w + lead) period * cost

-- shares of the bus are counted in parts of this
abbrev pub whole : ℕ
whole = 4294967296

-- from w on a claim takes so much, and a share of the bus for as long as the waiting goes on
pub record ClaimedFrom (cost period lead w fixed share : ℕ) : Type 0 where
  pub bounds : (v : ℕ) → w ≤ v → whole * fixed + share * (v + 1) ≤ whole * claimed cost period lead v
  pub fixed_most : fixed ≤ 3000000000000
  pub share_most : share ≤ whole * most
