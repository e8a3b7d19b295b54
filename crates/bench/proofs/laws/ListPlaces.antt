-- Places of a list: reading and changing one, and what is made of each element.
use mathlib.Core.Path.{◌≡◌, refl, ap}
use mathlib.Core.List.{List, [], ◌∷◌, map}
use Prim.Native.Nat.{ℕ, zero, suc, ◌+◌, ◌≤◌, ◌<◌}
use native.Mathlib.Nat.{le_of_suc-le-suc, not-suc-le-zero}
use native.Mathlib.Omega.{arith}
use lib.ListN.{length, get_or, set, replicate}
use Rattle.bench.specs.Lists.{nth, at, each}

module _ {A : Type 0} where
  pub nth_inside : (d e : A) (i : ℕ) (l : List A) → i < length l → get_or l i d ≡ nth e i l
  nth_inside d e i [] h = absurd (not-suc-le-zero h)
  nth_inside d e zero (x ∷ xs) h = refl
  nth_inside d e (suc i) (x ∷ xs) h = nth_inside d e i xs (le_of_suc-le-suc h)

  pub nth_past : (e : A) (i : ℕ) (l : List A) → length l ≤ i → nth e i l ≡ e
  nth_past e i [] h = refl
  nth_past e zero (x ∷ xs) h = absurd (not-suc-le-zero h)
  nth_past e (suc i) (x ∷ xs) h = nth_past e i xs (le_of_suc-le-suc h)

  -- a place whose element is not what stands past the end
  pub nth_there : (e : A) (P : A → Type 0) → (P e → ⊥) → (i : ℕ) (l : List A) → P (nth e i l) → i < length l
  nth_there e P not_past i [] p = absurd (not_past p)
  nth_there e P not_past zero (x ∷ xs) p = omega arith
  nth_there e P not_past (suc i) (x ∷ xs) p = let h = nth_there e P not_past i xs p in omega arith

  module _ (f : A → A) where
    pub at_inside : (e : A) (i : ℕ) (l : List A) → i < length l → set l i (f (nth e i l)) ≡ at f i l
    at_inside e i [] h = absurd (not-suc-le-zero h)
    at_inside e zero (x ∷ xs) h = refl
    at_inside e (suc i) (x ∷ xs) h = ap (λ (r : List A). x ∷ r) (at_inside e i xs (le_of_suc-le-suc h))

    pub at_past : (i : ℕ) (l : List A) → length l ≤ i → at f i l ≡ l
    at_past i [] h = refl
    at_past zero (x ∷ xs) h = absurd (not-suc-le-zero h)
    at_past (suc i) (x ∷ xs) h = ap (λ (r : List A). x ∷ r) (at_past i xs (le_of_suc-le-suc h))

pub all_the_same : {A B : Type 0} (z : B) (n : ℕ) (l : List A) → length l ≡ n → map (λ (x : A). z) l ≡ replicate n z
all_the_same z zero [] e = refl
all_the_same z zero (x ∷ xs) e = absurd (omega arith)
all_the_same z (suc n) [] e = absurd (omega arith)
all_the_same z (suc n) (x ∷ xs) e = ap (λ r. z ∷ r) (all_the_same z n xs (omega arith))

pub map_each : {A B C : Type 0} (f : B → C) (g : ℕ → A → B) (k : ℕ) (l : List A) → map f (each g k l) ≡ each (λ i x. f (g i x)) k l
map_each f g k [] = refl
map_each f g k (x ∷ xs) = ap (λ r. f (g k x) ∷ r) (map_each f g (suc k) xs)

-- what was made of the element at a place; p is that place, counted from k
pub nth_each : {A B : Type 0} (e : A) (f : ℕ → A → B) (p k i : ℕ) (l : List A) → k + i ≡ p → nth (f p e) i (each f k l) ≡ f p (nth e i l)
nth_each e f p k i [] h = refl
nth_each e f p k zero (x ∷ xs) h = ap (λ j. f j x) (omega arith)
nth_each e f p k (suc i) (x ∷ xs) h = nth_each e f p (suc k) i xs (omega arith)

pub length_each : {A B : Type 0} (f : ℕ → A → B) (k : ℕ) (l : List A) → length (each f k l) ≡ length l
length_each f k [] = refl
length_each f k (x ∷ xs) = ap suc (length_each f (suc k) xs)

-- a change at a place, before and after something is made of every element
pub map_at : {A B : Type 0} (h : A → B) (f : A → A) (g : B → B) → ((x : A) → h (f x) ≡ g (h x)) → (i : ℕ) (l : List A) → map h (at f i l) ≡ at g i (map h l)
map_at h f g e i [] = refl
map_at h f g e zero (x ∷ xs) = ap (λ y. y ∷ map h xs) (e x)
map_at h f g e (suc i) (x ∷ xs) = ap (λ r. h x ∷ r) (map_at h f g e i xs)
