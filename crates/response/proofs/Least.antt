-- The least number that passes a test.
use mathlib.Core.Path.{◌≡◌, refl}
use mathlib.Core.Bool.{Bool, true, false, cond}
use Prim.Native.Nat.{ℕ, zero, suc, ◌+◌, ◌≤◌, ◌<◌}
use native.Mathlib.Omega.{arith}
use lib.Dec.{ltb}
use borrow.Author.Tests.{ltb-true, ltb-false}
use Rattle.response.specs.Waiting.{least_from}

module _ (test : ℕ → Bool) where
  pub least_none : (first count : ℕ) → ((v : ℕ) → first ≤ v → v < first + count → test v ≡ false) → least_from first count test ≡ first + count
  unfolding least_from
  least_none first zero none = omega arith
  least_none first (suc count) none =
      rw (none first (omega arith) (omega arith))
      (omega (arith, least_none (suc first) count (λ v l h. none v (omega arith) (omega arith))))

  pub least_found : (first count w : ℕ) → first ≤ w → w < first + count → test w ≡ true → ((v : ℕ) → first ≤ v → v < w → test v ≡ false)
      → least_from first count test ≡ w
  unfolding least_from
  least_found first zero w l h found none = absurd (omega arith)
  least_found first (suc count) w l h found none =
      by_place (ltb first w) refl (λ less. least_found (suc first) count w less (omega arith) found (λ v l' h'. none v (omega arith) h'))
    where
      by_place : (b : Bool) → ltb first w ≡ b → (first < w → least_from (suc first) count test ≡ w)
          → cond (test first) first (least_from (suc first) count test) ≡ w
      by_place true e later = let less : first < w = ltb-true first w e in rw (none first (omega arith) less) (later less)
      by_place false e later = let here : first ≡ w = omega (arith, ltb-false first w e) in rw (here, found)

  -- what the least number tells
  pub record Tested (first count w : ℕ) : Type 0 where
    pub low : first ≤ w
    pub high : w ≤ first + count
    pub none_before : (v : ℕ) → first ≤ v → v < w → test v ≡ false
    pub passes : w < first + count → test w ≡ true

  pub least_tested : (first count : ℕ) → Tested first count (least_from first count test)
  unfolding least_from
  least_tested first zero = record { low = omega arith; high = omega arith; none_before = λ v l h. absurd (omega arith); passes = λ h. absurd (omega arith) }
  least_tested first (suc count) = by_test (test first) refl (least_tested (suc first) count)
    where
      by_test : (b : Bool) → test first ≡ b → Tested (suc first) count (least_from (suc first) count test)
          → Tested first (suc count) (cond b first (least_from (suc first) count test))
      by_test true e later = record { low = omega arith; high = omega arith; none_before = λ v l h. absurd (omega arith); passes = λ h. e }
      by_test false e later = record {
        low = omega (arith, later.low);
        high = omega (arith, later.high);
        none_before = λ v l h. by_place v l h (ltb first v) refl;
        passes = λ h. later.passes (omega arith);
      }
        where
          by_place : (v : ℕ) → first ≤ v → v < least_from (suc first) count test → (b : Bool) → ltb first v ≡ b → test v ≡ false
          by_place v l h true e₁ = later.none_before v (ltb-true first v e₁) h
          by_place v l h false e₁ = let here : v ≡ first = omega (arith, ltb-false first v e₁) in rw here e
