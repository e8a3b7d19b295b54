-- Laws on the search for a byte.
use Prim.Native.Nat.{ℕ, ◌<◌, ◌≤◌}
use native.Mathlib.Omega.{arith}
use mathlib.Core.Path.{◌≡◌, refl, sym}
use mathlib.Core.Bool.{Bool, true, false, cond}
use mathlib.Core.List.{List}
use lib.Dec.{ltb}
use lib.ListN.{length}
use borrow.Author.Tests.{ltb-true, ltb-false}
use Rattle.std.specs.Prelude.{◌==◌, position, None, Some}
use Rattle.text.specs.Bytes.{index_of}
use Rattle.text.proofs.WordLaws.{index_by_position}

found_in : (k m n : ℕ) (t : Bool) → ltb k m ≡ t → cond t (Some k) None ≡ Some n → (n ≡ k) × (n < m)
found_in k m n true h e =
    let i : n ≡ k = cc in (i, omega (arith, i, ltb-true k m h))
found_in k m n false h e = cc

not_found_in : (k m : ℕ) (t : Bool) → ltb k m ≡ t → cond t (Some k) None ≡ None → m ≤ k
not_found_in k m true h e = cc
not_found_in k m false h e = ltb-false k m h

found_by : (k m n : ℕ) → cond (ltb k m) (Some k) None ≡ Some n → (n ≡ k) × (n < m)
found_by k m n e = found_in k m n (ltb k m) refl e

not_found_by : (k m : ℕ) → cond (ltb k m) (Some k) None ≡ None → m ≤ k
not_found_by k m e = not_found_in k m (ltb k m) refl e

-- where one is found, it is the first; where none is, there is none
pub found_at : (b : ℕ) (s : List ℕ) (n : ℕ) → position (λ x. x == b) s ≡ Some n → (n ≡ index_of b s) × (n < length s)
found_at b s n e = found_by _ _ n (rw (sym (index_by_position b s)) at e)

pub not_found : (b : ℕ) (s : List ℕ) → position (λ x. x == b) s ≡ None → length s ≤ index_of b s
not_found b s e = not_found_by _ _ (rw (sym (index_by_position b s)) at e)
