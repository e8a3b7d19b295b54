-- What claims the bus before a message, as numbers alone. Only contracts of private functions cite this.
use Rattle.std.specs.Prelude.{◌≡◌, ℕ, ◌+◌, ◌≤◌, Bool, cond, List, eqb, sum_by}
use Rattle.response.specs.declared.streams.StreamRecord.{StreamRecord}
use Rattle.response.specs.declared.streams.Errors.{Errors}
use Rattle.response.specs.declared.claim.Claim.{Claim}
use Rattle.response.specs.Waiting.{goes_before, interference, inaccessible}
use Rattle.response.specs.Claims.{claimed}

-- what the claims take together while a message waits for w
unfoldable pub asked : List Claim → (w : ℕ) → ℕ
asked claims w = sum_by (λ (claim : Claim). claimed claim.cost claim.period claim.lead w) claims

-- the equation with these claims
unfoldable pub solves_with : List Claim → (blocking w : ℕ) → Bool
solves_with claims blocking w = eqb w (blocking + asked claims w)

-- no solution from w on lies below r
abbrev pub NoneBelow : List Claim → (blocking w r : ℕ) → Type 0
NoneBelow claims blocking w r = (v : ℕ) → w ≤ v → v ≡ blocking + asked claims v → r ≤ v

-- the message of j, where it goes before s
abbrev pub cost_before : StreamRecord → StreamRecord → ℕ
cost_before s j = cond (goes_before j s) j.c 0

-- the claims ask for what goes before s
pub record ClaimsOf (streams : List StreamRecord) (errors : Errors) (s : StreamRecord) (claims : List Claim) : Type 0 where
  pub ask : (w : ℕ) → asked claims w ≡ interference streams s w + inaccessible errors s w
