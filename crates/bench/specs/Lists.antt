-- Lists: every element, some element, one element, and those that pass a test.
use Rattle.std.specs.Prelude.{ℕ, zero, suc, Bool, true, false, cond, ◌&&◌, ◌||◌, List, [], ◌∷◌, eqb}

module _ {A : Type 0} where
  abbrev pub every : (A → Bool) → List A → Bool
  every test [] = true
  every test (x ∷ xs) = test x && every test xs

  abbrev pub any : (A → Bool) → List A → Bool
  any test [] = false
  any test (x ∷ xs) = test x || any test xs

  abbrev pub keep_only : (A → Bool) → List A → List A
  keep_only test [] = []
  keep_only test (x ∷ xs) = cond (test x) (x ∷ keep_only test xs) (keep_only test xs)

  -- the element at a place, counted from 0; past the end, the given one
  abbrev pub nth : A → ℕ → List A → A
  nth other i [] = other
  nth other zero (x ∷ xs) = x
  nth other (suc i) (x ∷ xs) = nth other i xs

  -- the same list, with the element at a place changed
  abbrev pub at : (A → A) → ℕ → List A → List A
  at change i [] = []
  at change zero (x ∷ xs) = change x ∷ xs
  at change (suc i) (x ∷ xs) = x ∷ at change i xs

-- each element with its place, counted from i
abbrev pub each : {A B : Type 0} → (ℕ → A → B) → ℕ → List A → List B
each f i [] = []
each f i (x ∷ xs) = f i x ∷ each f (suc i) xs

abbrev pub member : ℕ → List ℕ → Bool
member i l = any (eqb i) l
