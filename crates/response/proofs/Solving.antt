-- The streams of a list solved one by one, up to the first that can be late.
use mathlib.Core.Path.{◌≡◌, refl, sym, ap, ◌∙◌}
use mathlib.Core.Bool.{Bool, true, false, cond}
use mathlib.Core.List.{List, [], ◌∷◌, ◌++◌, append_assoc}
use Prim.Native.Nat.{ℕ, suc, ◌+◌, ◌*◌, ◌≤◌, ◌<◌}
use native.Mathlib.Nat.{zero-add}
use native.Mathlib.Numerals.{add-one}
use native.Mathlib.Omega.{arith}
use lib.ListN.{length, set, take, drop, length-set, replicate}
use lib.Seq.{drop-cons, take-suc, take-suc-set, lt-length-set}
use borrow.Author.Tests.{lt-ltb, le-ltb}
use Rattle.response.specs.declared.streams.StreamRecord.{StreamRecord}
use Rattle.response.specs.declared.streams.Errors.{Errors}
use Rattle.response.specs.Streams.{blank, at}
use Rattle.response.specs.Waiting.{timely, waiting, response}
use Rattle.response.specs.Sheet.{is_timely, first_late, times}

-- the first i streams keep their deadlines, and their times are in place
pub record SolvedTo (streams : List StreamRecord) (errors : Errors) (i : ℕ) (numbers : List ℕ) : Type 0 where
  pub late : first_late streams streams errors ≡ i + first_late streams (drop i streams) errors
  pub long : length numbers ≡ 128
  pub are : take (2 * i) numbers ≡ times streams (take i streams) errors

times_append : (all xs ys : List StreamRecord) (errors : Errors) → times all (xs ++ ys) errors ≡ times all xs errors ++ times all ys errors
unfolding times
times_append all [] ys errors = refl
times_append all (s ∷ xs) ys errors = ap (λ (l : List ℕ). waiting all errors s ∷ response all errors s ∷ l) (times_append all xs ys errors)

-- two numbers for each stream
pub times_count : (all listed : List StreamRecord) (errors : Errors) → length (times all listed errors) ≡ 2 * length listed
unfolding times
times_count all [] errors = refl
times_count all (s ∷ listed) errors = omega (arith, times_count all listed errors)

pub late_most : (all listed : List StreamRecord) (errors : Errors) → first_late all listed errors ≤ length listed
unfolding first_late
late_most all [] errors = omega arith
late_most all (s ∷ listed) errors = by_test (is_timely all errors s) (late_most all listed errors)
  where
    by_test : (b : Bool) → first_late all listed errors ≤ length listed → cond b (suc (first_late all listed errors)) 0 ≤ suc (length listed)
    by_test true h = omega arith
    by_test false h = omega arith

-- two numbers stored behind the first n
two_stored : (l : List ℕ) (n a b : ℕ) → n + 1 < length l → take (n + 2) (set (set l n a) (n + 1) b) ≡ take n l ++ a ∷ b ∷ []
two_stored l n a b room =
    let twice : n + 2 ≡ suc (n + 1) = omega arith in
    rw (twice, take-suc-set (set l n a) (n + 1) b (lt-length-set l n a room), add-one, take-suc-set l n a (omega arith), append_assoc)

module _ (streams : List StreamRecord) (errors : Errors) where
  pub solved_none : SolvedTo streams errors 0 (replicate 128 0)
  unfolding times
  solved_none = record { late = sym (zero-add _); long = refl; are = refl }

  module _ {i : ℕ} {numbers : List ℕ} (solved : SolvedTo streams errors i numbers) (less : i < length streams) where
    rest : drop i streams ≡ at streams i ∷ drop (i + 1) streams
    rest = rw (add-one i) (drop-cons streams i blank less)

    pub late_here : (w : ℕ) → w ≡ waiting streams errors (at streams i) → timely (at streams i) ≤ w → first_late streams streams errors ≡ i
    unfolding first_late
    late_here w is past = let late = rw is at past in solved.late ∙ (rw (rest, le-ltb _ _ late) (omega arith))

    pub solved_more : (w : ℕ) → i < 64 → w ≡ waiting streams errors (at streams i) → w < timely (at streams i)
        → SolvedTo streams errors (i + 1) (set (set numbers (2 * i) w) (2 * i + 1) (w + (at streams i).c))
    unfolding first_late times
    solved_more w small is keeps = let kept = rw is at keeps in record {
      late = solved.late ∙ (rw (rest, lt-ltb _ _ kept) (omega arith));
      long = simp length-set solved.long;
      are =
          ap (λ (n : ℕ). take n (set (set numbers (2 * i) w) (2 * i + 1) (w + (at streams i).c))) (twice i)
          ∙ two_stored numbers (2 * i) _ _ (omega (arith, solved.long))
          ∙ (rw (solved.are, add-one i, take-suc streams i blank less, is) (sym (times_append streams (take i streams) (at streams i ∷ []) errors)));
    }
      where
        twice : (n : ℕ) → 2 * (n + 1) ≡ 2 * n + 2
        twice n = omega arith
