-- After any list of replies, the tally that began at zero is the tally of that list: at each place the number of such replies, cut at the most.
use mathlib.Core.Path.{◌≡◌, refl, sym, ap, ◌∙◌}
use mathlib.Core.Bool.{Bool, true, false, cond, ◌&&◌, false≢true}
use mathlib.Core.Logic.{◌≢◌}
use mathlib.Core.List.{List, [], ◌∷◌, ◌++◌, map, append-nil, append_assoc}
use Prim.Native.Nat.{ℕ, zero, suc, ◌+◌, ◌≤◌, ◌<◌}
use native.Mathlib.Nat.{min-eq_right}
use native.Mathlib.Omega.{arith}
use lib.ListN.{length, get_or, set}
use lib.Dec.{eqb, ltb}
use borrow.Author.Tests.{ltb-true, ltb-false, eqb-true, eqb-false, eq-eqb, ne_eqb}
use Rattle.wire.specs.declared.reply.Reply.{Reply}
use Rattle.wire.specs.Replies.{number_of}
use Rattle.module.specs.declared.tally.Tally.{Tally}
use Rattle.module.specs.Tallies.{counted, position, place_of, most, zero_tally, count_of, tallied, tallied_all, occurrences, capped, tally_of}
use Rattle.module.proofs.Places.{has_place, own_number}

-- ── a list of counts, one for each of some numbers ──
-- each number stands in the list once: a test that is computed
abbrev distinct : List ℕ → Bool
distinct [] = true
distinct (x ∷ xs) = eqb (position x xs) (length xs) && distinct xs

first_of : (x : ℕ) (xs : List ℕ) → distinct (x ∷ xs) ≡ true → (position x xs ≡ length xs) × (distinct xs ≡ true)
first_of x xs e = go (eqb (position x xs) (length xs)) refl e
  where
    go : (b : Bool) → eqb (position x xs) (length xs) ≡ b → (b && distinct xs) ≡ true → (position x xs ≡ length xs) × (distinct xs ≡ true)
    go true t h = (eqb-true _ _ t, h)
    go false t h = absurd (false≢true h)

-- of two ways to count that differ at one number alone
module _ {f g : ℕ → ℕ} (m : ℕ) (elsewhere : (n : ℕ) → n ≢ m → f n ≡ g n) where
  without_first : (x : ℕ) (xs : List ℕ) → (position m xs ≡ length xs → map f xs ≡ map g xs)
      → (b : Bool) → eqb x m ≡ b → cond b 0 (suc (position m xs)) ≡ suc (length xs) → map f (x ∷ xs) ≡ map g (x ∷ xs)
  without_first x xs rest true t e = absurd (omega arith)
  without_first x xs rest false t e = rw (elsewhere x (eqb-false x m t)) (ap (λ (l : List ℕ). g x ∷ l) (rest (omega arith)))

  without : (xs : List ℕ) → position m xs ≡ length xs → map f xs ≡ map g xs
  unfolding position
  without [] e = refl
  without (x ∷ xs) e = without_first x xs (without xs) (eqb x m) refl e

  raised_first : (x : ℕ) (xs : List ℕ) → distinct (x ∷ xs) ≡ true → (set (map f xs) (position m xs) (g m) ≡ map g xs)
      → (b : Bool) → eqb x m ≡ b → set (map f (x ∷ xs)) (cond b 0 (suc (position m xs))) (g m) ≡ map g (x ∷ xs)
  raised_first x xs once rest true t =
      let e : x ≡ m = eqb-true x m t in
      rw e (ap (λ (l : List ℕ). g m ∷ l) (without xs (ap (λ (k : ℕ). position k xs) (sym e) ∙ (first_of x xs once).0)))
  raised_first x xs once rest false t = rw (elsewhere x (eqb-false x m t)) (ap (λ (l : List ℕ). g x ∷ l) rest)

  raised : (xs : List ℕ) → distinct xs ≡ true → set (map f xs) (position m xs) (g m) ≡ map g xs
  unfolding position
  raised [] once = refl
  raised (x ∷ xs) once = raised_first x xs once (raised xs (first_of x xs once).1) (eqb x m) refl

map_same : {f g : ℕ → ℕ} (xs : List ℕ) → ((n : ℕ) → f n ≡ g n) → map f xs ≡ map g xs
map_same [] h = refl
map_same {f} {g} (x ∷ xs) h = rw (h x) (ap (λ (l : List ℕ). g x ∷ l) (map_same xs h))

count_at : (f : ℕ → ℕ) (xs : List ℕ) (i : ℕ) → i < length xs → get_or (map f xs) i 0 ≡ f (get_or xs i 0)
count_at f [] i h = absurd (omega arith)
count_at f (x ∷ xs) zero h = refl
count_at f (x ∷ xs) (suc i) h = count_at f xs i (omega arith)

-- ── one reply more ──
in_either_order : (a b : Bool) (k : ℕ)
    → cond a (suc (cond b (suc k) k)) (cond b (suc k) k) ≡ cond b (suc (cond a (suc k) k)) (cond a (suc k) k)
in_either_order true true k = refl
in_either_order true false k = refl
in_either_order false true k = refl
in_either_order false false k = refl

one_more : (n : ℕ) (before : List Reply) (x : Reply)
    → occurrences n (before ++ x ∷ []) ≡ cond (eqb (number_of x) n) (suc (occurrences n before)) (occurrences n before)
one_more n [] x = refl
one_more n (r ∷ rs) x = rw (one_more n rs x) (in_either_order (eqb (number_of r) n) (eqb (number_of x) n) (occurrences n rs))

module _ (before : List Reply) (x : Reply) where
  abbrev was : ℕ → ℕ
  was n = capped (occurrences n before)

  abbrev is : ℕ → ℕ
  is n = capped (occurrences n (before ++ x ∷ []))

  same_number : is (number_of x) ≡ capped (suc (occurrences (number_of x) before))
  same_number = rw (one_more (number_of x) before x, eq-eqb (number_of x) (number_of x) refl)

  other_number : (n : ℕ) → n ≢ number_of x → was n ≡ is n
  other_number n e = rw (one_more n before x, ne_eqb (number_of x) n (λ h. e (sym h)))

  at_the_most : most ≤ was (number_of x) → (n : ℕ) (b : Bool) → eqb n (number_of x) ≡ b → was n ≡ is n
  at_the_most h n true e =
      let many : most ≤ occurrences (number_of x) before = omega arith in
      rw (eqb-true n (number_of x) e, same_number)
      (min-eq_right many ∙ sym (min-eq_right {n = most} {m = suc (occurrences (number_of x) before)} (omega arith)))
  at_the_most h n false e = other_number n (eqb-false n (number_of x) e)

  below_the_most : was (number_of x) < most → is (number_of x) ≡ was (number_of x) + 1
  below_the_most h = same_number ∙ omega arith

  own_count : count_of x (tally_of before) ≡ was (number_of x)
  own_count = count_at was counted (place_of x) (has_place x) ∙ ap was (own_number x)

  by_count : (b : Bool) → ltb (was (number_of x)) most ≡ b
      → cond b (record { counts = set (map was counted) (place_of x) (was (number_of x) + 1) }) (tally_of before) ≡ tally_of (before ++ x ∷ [])
  unfolding position
  by_count true e =
      ap {A = List ℕ} {B = Tally} (λ l. record { counts = l })
      (ap (set (map was counted) (place_of x)) (sym (below_the_most (ltb-true (was (number_of x)) most e)))
      ∙ raised (number_of x) other_number counted refl)
  by_count false e =
      ap {A = List ℕ} {B = Tally} (λ l. record { counts = l })
      (map_same counted (λ n. at_the_most (ltb-false (was (number_of x)) most e) n (eqb n (number_of x)) refl))

  one_reply_more : tallied (tally_of before) x ≡ tally_of (before ++ x ∷ [])
  unfolding tallied
  one_reply_more = rw own_count (by_count (ltb (was (number_of x)) most) refl)

counts_from : (before rs : List Reply) → tallied_all (tally_of before) rs ≡ tally_of (before ++ rs)
counts_from before [] = ap tally_of (sym (append-nil before))
counts_from before (x ∷ rs) =
    ap (λ (t : Tally). tallied_all t rs) (one_reply_more before x)
    ∙ (counts_from (before ++ x ∷ []) rs ∙ ap tally_of (append_assoc before (x ∷ []) rs))

-- whatever the replies and their order
pub counts_replies : (rs : List Reply) → tallied_all zero_tally rs ≡ tally_of rs
counts_replies rs = counts_from [] rs

-- and so at each reply's own place
pub count_of_reply : (rs : List Reply) (r : Reply) → count_of r (tallied_all zero_tally rs) ≡ capped (occurrences (number_of r) rs)
count_of_reply rs r = rw (counts_replies rs) (own_count rs r)
