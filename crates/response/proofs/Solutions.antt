-- Why the recurrence finds the least solution of w ≡ f w, where f never falls: it goes up from a number that no solution lies below,
-- passes none, and stops only at one.
use mathlib.Core.Path.{◌≡◌, refl}
use mathlib.Core.Bool.{Bool, true, false}
use Prim.Native.Nat.{ℕ, zero, suc, ◌≤◌, ◌<◌}
use native.Mathlib.Omega.{arith}
use lib.Dec.{eqb, ltb}
use borrow.Author.Tests.{eq-eqb, ne_eqb, ltb-true, ltb-false}
use Rattle.response.specs.Waiting.{least_from}
use Rattle.response.proofs.Least.{least_found, least_none}

module _ (f : ℕ → ℕ) where
  -- no solution lies below w
  abbrev pub Below : ℕ → Type 0
  Below w = (v : ℕ) → v ≡ f v → w ≤ v

  abbrev pub least : ℕ → ℕ
  least room = least_from 0 room (λ v. eqb v (f v))

  pub least_is : (w room : ℕ) → Below w → w ≡ f w → w < room → least room ≡ w
  least_is w room below solves less =
      least_found (λ v. eqb v (f v)) 0 room w (omega arith) (omega arith) (eq-eqb w (f w) solves)
      (λ v l h. ne_eqb v (f v) (λ e. omega (arith, below v e)))

  pub least_is_room : (w room : ℕ) → Below w → room ≤ w → least room ≡ room
  least_is_room w room below past =
      omega (arith, least_none (λ v. eqb v (f v)) 0 room (λ v l h. ne_eqb v (f v) (λ e. omega (arith, below v e))))

  module _ (mono : (w v : ℕ) → w ≤ v → f w ≤ f v) where
    pub passes_none : (w : ℕ) → Below w → Below (f w)
    passes_none w below v e = rw e (mono w v (below v e))

    -- where f does not lead up, there is a solution
    settles : (most w : ℕ) → w ≤ most → f w ≤ w → (v : ℕ) × (v ≤ w) × (v ≡ f v)
    settles zero w h down = (w, omega arith, omega arith)
    settles (suc most) w h down = by_place (ltb (f w) w) refl (λ less. settles most (f w) (omega arith) (mono (f w) w down))
      where
        by_place : (b : Bool) → ltb (f w) w ≡ b → (f w < w → (v : ℕ) × (v ≤ f w) × (v ≡ f v)) → (v : ℕ) × (v ≤ w) × (v ≡ f v)
        by_place true e lower = let (v, l, s) = lower (ltb-true (f w) w e) in (v, omega arith, s)
        by_place false e lower = (w, omega arith, omega (arith, ltb-false (f w) w e))

    pub stops_at_one : (w : ℕ) → Below w → f w ≤ w → w ≡ f w
    stops_at_one w below down =
        let (v, l, s) = settles w w (omega arith) down in
        let same : v ≡ w = omega (arith, below v s) in
        rw same at s
