-- A loop that goes up through a list and changes it: what it has made of the list, up to a place.
use Rattle.std.proofs.Common.{◌≡◌, ℕ, zero, suc, ◌+◌, ◌<◌, ◌≤◌, List, [], ◌∷◌, ◌++◌, map, length, get_or, take, drop, set, refl, ap, append-nil}
use Rattle.std.proofs.Common.{le_of_suc-le-suc, not-suc-le-zero, add-one, drop_of_length-le, take_all}

module _ {A : Type 0} (f : A → A) where
  abbrev pub changed : ℕ → List A → List A
  changed i l = map f (take i l) ++ drop i l

  pub all_changed : (i : ℕ) (l : List A) → length l ≤ i → changed i l ≡ map f l
  all_changed i l h = rw (take_all i l h, drop_of_length-le l {i = i} h, append-nil)

  one_changed : (i : ℕ) (l : List A) (d : A) → i < length l → set (changed i l) i (f (get_or l i d)) ≡ changed (suc i) l
  one_changed i [] d h = absurd (not-suc-le-zero h)
  one_changed zero (x ∷ xs) d h = refl
  one_changed (suc i) (x ∷ xs) d h = ap (λ (r : List A). f x ∷ r) (one_changed i xs d (le_of_suc-le-suc h))

  one_kept : (i : ℕ) (l : List A) (d : A) → i < length l → f (get_or l i d) ≡ get_or l i d → changed i l ≡ changed (suc i) l
  one_kept i [] d h e = absurd (not-suc-le-zero h)
  one_kept zero (x ∷ xs) d h e = ap (λ (y : A). y ∷ xs) (rw e)
  one_kept (suc i) (x ∷ xs) d h e = ap (λ (r : List A). f x ∷ r) (one_kept i xs d (le_of_suc-le-suc h) e)

  pub changed_not_yet : (i : ℕ) (l : List A) (d : A) → i < length l → get_or (changed i l) i d ≡ get_or l i d
  changed_not_yet i [] d h = absurd (not-suc-le-zero h)
  changed_not_yet zero (x ∷ xs) d h = refl
  changed_not_yet (suc i) (x ∷ xs) d h = changed_not_yet i xs d (le_of_suc-le-suc h)

  module _ (i : ℕ) (l : List A) (d : A) (h : i < length l) where
    pub changed_one_more : set (changed i l) i (f (get_or l i d)) ≡ changed (i + 1) l
    changed_one_more = rw add-one (one_changed i l d h)

    pub changed_one_kept : f (get_or l i d) ≡ get_or l i d → changed i l ≡ changed (i + 1) l
    changed_one_kept e = rw add-one (one_kept i l d h e)
