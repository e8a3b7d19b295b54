-- Each reply has its place in the tally, where its own number stands; and how it is computed: the numbers are two runs.
use mathlib.Core.Path.{◌≡◌, refl, sym, ap, ◌∙◌}
use Rattle.std.proofs.Common.{Some, None, min}
use Rattle.std.proofs.lemmas.Option.{cond_some}
use mathlib.Core.Bool.{Bool, true, false, cond, ◌&&◌}
use mathlib.Core.Logic.{◌⊎◌, inl, inr}
use mathlib.Core.List.{List, [], ◌∷◌}
use Prim.Native.Nat.{ℕ, zero, suc, ◌+◌, ◌-◌, ◌≤◌, ◌<◌}
use native.Mathlib.Omega.{arith}
use lib.ListN.{length, get_or, set}
use lib.Seq.{set-get_or}
use lib.Dec.{eqb, ltb}
use borrow.Author.Tests.{eqb-true, eqb-false, eq-eqb, ne_eqb, ltb-true, ltb-false, lt-ltb, le-ltb}
use Rattle.wire.specs.declared.reply.Reply.{Reply}
use Rattle.wire.specs.Replies.{number_of}
use Rattle.wire.specs.Tells.{Tells, below, equal, ◌and◌}
use Rattle.wire.specs.contracts.reply.Reply.{enum}
use Rattle.wire.proofs.Variants.{at_each}
use Rattle.module.specs.declared.tally.Tally.{Tally}
use Rattle.module.specs.Tallies.{counted, position, place_in_tally, place_of, most, count_of, tallied, counted_in}

-- ── runs of numbers ──
-- so many numbers from one on, and then a list
unfoldable run : (from count : ℕ) → List ℕ → List ℕ
run from zero rest = rest
run from (suc count) rest = from ∷ run (suc from) count rest

module _ (n : ℕ) where
  lower : (from : ℕ) → from ≤ n → (from ≡ n → ⊥) → from < n
  lower from low other = by_test (ltb from n) refl
    where
      by_test : (t : Bool) → ltb from n ≡ t → from < n
      by_test true h = ltb-true from n h
      by_test false h = let least = ltb-false from n h in absurd (other (omega arith))

  in_run : (from count : ℕ) (rest : List ℕ) → from ≤ n → n < from + count → position n (run from count rest) ≡ n - from
  unfolding run position
  in_run from zero rest low high = absurd (omega arith)
  in_run from (suc count) rest low high = go (eqb from n) refl (λ h. in_run (suc from) count rest h (omega arith))
    where
      go : (b : Bool) → eqb from n ≡ b → (suc from ≤ n → position n (run (suc from) count rest) ≡ n - suc from)
          → cond b 0 (suc (position n (run (suc from) count rest))) ≡ n - from
      go true e further = let same = eqb-true from n e in omega arith
      go false e further = let above = lower from low (eqb-false from n e) in omega (arith, further (omega arith))

  past_run : (from count : ℕ) (rest : List ℕ) → (n < from) ⊎ (from + count ≤ n) → position n (run from count rest) ≡ count + position n rest
  unfolding run position
  past_run from zero rest out = omega arith
  past_run from (suc count) rest (inl h) =
      let no = ne_eqb from n (λ e. absurd (omega arith)) in
      rw no (omega (arith, past_run (suc from) count rest (inl (omega arith))))
  past_run from (suc count) rest (inr h) =
      let no = ne_eqb from n (λ e. absurd (omega arith)) in
      rw no (omega (arith, past_run (suc from) count rest (inr (omega arith))))

  -- how many are in the second run: a further number at its end asks for no further proof
  abbrev second : ℕ
  second = length counted - 13

  two_runs : counted ≡ run 0 13 (run 18 second [])
  unfolding run
  two_runs = refl

  pub in_first : n ≤ 12 → position n counted ≡ n
  in_first h = rw two_runs (omega (arith, in_run 0 13 (run 18 second []) (omega arith) (omega arith)))

  past_first : 12 < n → position n counted ≡ 13 + position n (run 18 second [])
  past_first h = rw two_runs (past_run 0 13 (run 18 second []) (inr (omega arith)))

  pub in_second : 17 < n → n < 5 + length counted → position n counted ≡ n - 5
  in_second low high = omega (arith, past_first (omega arith), in_run 18 second [] (omega arith) (omega arith))

  pub in_none : 12 < n → (n < 18) ⊎ (5 + length counted ≤ n) → position n counted ≡ length counted
  unfolding position
  in_none low (inl h) = omega (arith, past_first low, past_run 18 second [] (inl h))
  in_none low (inr h) = omega (arith, past_first low, past_run 18 second [] (inr (omega arith)))

-- ── the places ──
-- a place, and its own number there: a test that is computed at each reply
unfoldable placed : Reply → Bool
placed r = ltb (place_of r) (length counted) && eqb (get_or counted (place_of r) 0) (number_of r)

tells_place : (r : Reply) → Tells (placed r) ((place_of r < length counted) × (get_or counted (place_of r) 0 ≡ number_of r))
unfolding placed
tells_place r = below (place_of r) (length counted) and equal (get_or counted (place_of r) 0) (number_of r)

each_placed : (r : Reply) → placed r ≡ true
unfolding placed position
each_placed = at_each enum placed refl

pub has_place : (r : Reply) → place_of r < length counted
has_place r = ((tells_place r).says (each_placed r)).0

pub own_number : (r : Reply) → get_or counted (place_of r) 0 ≡ number_of r
own_number r = ((tells_place r).says (each_placed r)).1

-- the place of a number, where it has one
module _ (n : ℕ) where
  pub has_one : position n counted < length counted → place_in_tally n ≡ Some (position n counted)
  has_one h = rw (lt-ltb _ _ h)

  pub has_none : length counted ≤ position n counted → place_in_tally n ≡ None
  has_none h = rw (le-ltb _ _ h)

  pub found_place : {i : ℕ} → place_in_tally n ≡ Some i → (i ≡ position n counted) × (position n counted < length counted)
  found_place e = let found = cond_some (ltb (position n counted) (length counted)) _ _ e in (sym found.1, ltb-true _ _ found.0)

-- ── a count goes up by one, unless it is at the most ──
pub raised : (counts : List ℕ) (i : ℕ) → get_or counts i 0 ≤ most
    → set counts i (min (get_or counts i 0 + 1) most) ≡ cond (ltb (get_or counts i 0) most) (set counts i (get_or counts i 0 + 1)) counts
raised counts i small = go (ltb (get_or counts i 0) most) refl
  where
    go : (b : Bool) → ltb (get_or counts i 0) most ≡ b
        → set counts i (min (get_or counts i 0 + 1) most) ≡ cond b (set counts i (get_or counts i 0 + 1)) counts
    go true e = let up : min (get_or counts i 0 + 1) most ≡ get_or counts i 0 + 1 = omega (arith, ltb-true _ _ e) in ap (set counts i) up
    go false e =
        let stays : min (get_or counts i 0 + 1) most ≡ get_or counts i 0 = omega (arith, ltb-false _ _ e) in ap (set counts i) stays ∙ set-get_or counts i 0

pub raised_tally : (t : Tally) (r : Reply) → count_of r t ≤ most
    → ◌≡◌ {A = Tally} (record { counts = set t.counts (place_of r) (min (count_of r t + 1) most) }) (tallied t r)
unfolding tallied
raised_tally t r small = ap (λ (l : List ℕ). record { counts = l }) (raised t.counts (place_of r) small) ∙ go (ltb (count_of r t) most)
  where
    go : (b : Bool) → ◌≡◌ {A = Tally} (record { counts = cond b (set t.counts (place_of r) (count_of r t + 1)) t.counts })
        (cond b (record { counts = set t.counts (place_of r) (count_of r t + 1) }) t)
    go true = refl
    go false = refl

pub raised_in : (n : ℕ) (counts : List ℕ) → length counts ≡ length counted → position n counted < length counted → get_or counts (position n counted) 0 ≤ most
    → set counts (position n counted) (min (get_or counts (position n counted) 0 + 1) most) ≡ counted_in n counts
unfolding counted_in
raised_in n counts long inside small = rw (eq-eqb _ _ long, lt-ltb _ _ inside) (raised counts (position n counted) small)
