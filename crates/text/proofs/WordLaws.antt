-- Laws on the words of a line: the word that the code finds is the one of the definition, and what it means that two words are the same.
use Prim.Native.Nat.{ℕ, suc, ◌+◌, ◌-◌, ◌≤◌, min}
use native.Mathlib.Omega.{arith}
use mathlib.Core.Path.{◌≡◌, refl, sym, ◌∙◌}
use mathlib.Core.Bool.{Bool, true, false, cond, ◌&&◌, true≢false}
use mathlib.Core.List.{List, [], ◌∷◌}
use lib.Dec.{eqb, ltb}
use lib.Pointwise.{pointwise}
use lib.ListN.{length, take, drop}
use lib.Seq.{take-length}
use Rattle.std.specs.Prelude.{Option, Some, None}
use Rattle.std.specs.Option.{unwrap_or}
use Rattle.std.specs.List.{position, position_or_len}
use Rattle.std.proofs.lemmas.List.{take_rest}
use Rattle.std.proofs.lemmas.List.Recursion.{is_position_or_len}
use borrow.Author.Tests.{eqb-true, eq-eqb, ltb-false}
use Rattle.text.specs.Bytes.{index_of, index_after, slice}
use Rattle.text.specs.Words.{Word, word_at, bytes_at, same_bytes}

by_test : (t : Bool) (k : ℕ) → index_after t k ≡ cond t 0 (1 + k)
unfolding index_after
by_test true k = refl
by_test false k = omega arith

index_le_by : (t : Bool) (k n : ℕ) → k ≤ n → index_after t k ≤ suc n
unfolding index_after
index_le_by true k n h = omega arith
index_le_by false k n h = omega arith

pub index_le : (b : ℕ) (s : List ℕ) → index_of b s ≤ length s
unfolding index_of
index_le b [] = omega arith
index_le b (x ∷ s) = index_le_by (eqb x b) (index_of b s) (length s) (index_le b s)

by_length : (k n : ℕ) (t : Bool) → ltb k n ≡ t → k ≤ n → unwrap_or (cond t (Some k) None) n ≡ k
by_length k n true e h = refl
by_length k n false e h = omega (arith, ltb-false k n e)

-- the index of a byte is the one that `position` finds, or the length
pub index_by_position : (b : ℕ) (s : List ℕ) → index_of b s ≡ position_or_len (λ x. eqb x b) s
unfolding index_of
index_by_position b s = is_position_or_len (index_of b) (λ x. eqb x b) refl (λ x t. by_test (eqb x b) (index_of b t)) s

pub found_or_length : (b : ℕ) (s : List ℕ) (r : Option ℕ) → r ≡ position (λ x. eqb x b) s → unwrap_or r (length s) ≡ index_of b s
found_or_length b s r e = rw e (by_length _ (length s) _ refl (rw (← index_by_position b s) (index_le b s)) ∙ sym (index_by_position b s))

-- the word that starts at one index and ends at the other
pub word_from : (s : List ℕ) (at start end : ℕ) → start ≡ min at (length s) → end ≡ start + index_of 32 (slice start (length s) s)
    → ◌≡◌ {A = Word} (record { start = start; end = end; next = end + 1 }) (word_at s at)
unfolding slice word_at
word_from s at start end p q = rw (q, take-length s, p)

-- the word that the code cuts out, and where it goes on
module _ (s : List ℕ) (at start len : ℕ) (p : start ≡ min at (length s)) (q : len ≡ index_of 32 (take (length s - start) (drop start s))) where
  pub word_found : take len (take (length s - start) (drop start s)) ≡ bytes_at s at
  unfolding word_at
  word_found =
      let l : len ≡ index_of 32 (drop (min at (length s)) s) = rw (take_rest s start, p) at q in
      let e : min at (length s) + len - min at (length s) ≡ len = omega arith in
      rw (take_rest s start, p, ← l, e)

  pub next_found : start + len + 1 ≡ (word_at s at).next
  unfolding word_at
  next_found =
      let l : len ≡ index_of 32 (drop (min at (length s)) s) = rw (take_rest s start, p) at q in
      rw (p, ← l)

pub same_self : (s : List ℕ) → same_bytes s s ≡ true
same_self [] = refl
same_self (x ∷ s) = rw (eq-eqb x x refl) (same_self s)

pub both : (a b : Bool) → (a && b) ≡ true → (a ≡ true) × (b ≡ true)
both true true e = (refl, refl)
both true false e = (refl, e)
both false b e = absurd (true≢false (sym e))

pub same_equal : (s t : List ℕ) → same_bytes s t ≡ true → s ≡ t
same_equal [] [] e = refl
same_equal [] (y ∷ t) e = absurd (true≢false (sym e))
same_equal (x ∷ s) [] e = absurd (true≢false (sym e))
same_equal (x ∷ s) (y ∷ t) e =
    let p = both (eqb x y) (same_bytes s t) e in
    rw (eqb-true x y p.0, same_equal s t p.1)

equivalent : (a b : Bool) → (a ≡ true → b ≡ true) → (b ≡ true → a ≡ true) → a ≡ b
equivalent true true f g = refl
equivalent true false f g = sym (f refl)
equivalent false true f g = g refl
equivalent false false f g = refl

-- a test that holds exactly where two words are equal is `same_bytes`
pub same_test : (r : Bool) (s t : List ℕ) → (r ≡ true → s ≡ t) → (s ≡ t → r ≡ true) → r ≡ same_bytes s t
same_test r s t f g = equivalent r (same_bytes s t) (λ e. rw (f e) (same_self t)) (λ e. g (same_equal s t e))

-- what `==` tests at two slices of bytes
pub same_by_each : (s t : List ℕ) → pointwise eqb s t ≡ same_bytes s t
same_by_each [] [] = refl
same_by_each [] (y ∷ t) = refl
same_by_each (x ∷ s) [] = refl
same_by_each (x ∷ s) (y ∷ t) = rw (same_by_each s t)
