-- The verdict and the written numbers tell what specs/InWords.antt says.
use mathlib.Core.Path.{◌≡◌, refl, sym, ap, ◌∙◌}
use mathlib.Core.Bool.{Bool, true, false, cond, not, true≢false}
use mathlib.Core.List.{List, [], ◌∷◌}
use Prim.Native.Nat.{ℕ, zero, suc, ◌+◌, ◌*◌, ◌≤◌, ◌<◌}
use native.Mathlib.Nat.{not-suc-le-zero, le_of_suc-le-suc}
use native.Mathlib.Omega.{arith}
use lib.ListN.{length, get_or}
use lib.Dec.{ltb}
use borrow.Author.Tests.{eqb-true, eq-eqb, ltb-true, ltb-false}
use Rattle.response.specs.declared.streams.StreamRecord.{StreamRecord}
use Rattle.response.specs.declared.streams.Errors.{Errors}
use Rattle.response.specs.Verdicts.{Done, ShortOutput, BadStream, Late}
use Rattle.response.specs.Streams.{at, legal, Legal}
use Rattle.response.specs.Waiting.{demand, solves, timely, waiting, response}
use Rattle.response.specs.Sheet.{is_timely, first_late, times, all_timely, verdict, if_done, written}
use Rattle.response.specs.InWords.{LeastSolution, NoSolution, Taken, Times, Judged, bad, short, late, all}
use Rattle.response.proofs.Limits.{legal_tells}
use Rattle.response.proofs.Solving.{times_count}
use Rattle.response.proofs.Least.{Tested, least_tested}

-- ── one stream ──
module _ (streams : List StreamRecord) (errors : Errors) (s : StreamRecord) where
  searched : Tested (solves streams errors s) 0 (timely s) (waiting streams errors s)
  unfolding waiting
  searched = least_tested (solves streams errors s) 0 (timely s)

  -- a solution is not among those that were passed over
  not_passed : (v : ℕ) → v ≡ demand streams errors s v → v < waiting streams errors s → ⊥
  not_passed v e h = true≢false (sym (eq-eqb v (demand streams errors s v) e) ∙ searched.none_before v (omega arith) h)

  pub least_solution : is_timely streams errors s ≡ true → LeastSolution streams errors s (waiting streams errors s)
  least_solution e =
      let keeps : waiting streams errors s < timely s = ltb-true (waiting streams errors s) (timely s) e in
      record {
        solves = eqb-true (waiting streams errors s) _ (searched.passes (omega arith));
        timely = omega arith;
        least = λ v solves_v. by_place v solves_v (ltb v (waiting streams errors s)) refl;
      }
    where
      by_place : (v : ℕ) → v ≡ demand streams errors s v → (b : Bool) → ltb v (waiting streams errors s) ≡ b → waiting streams errors s ≤ v
      by_place v solves_v true less = absurd (not_passed v solves_v (ltb-true v _ less))
      by_place v solves_v false less = ltb-false v _ less

  pub no_solution : is_timely streams errors s ≡ false → NoSolution streams errors s
  no_solution e v solves_v keeps =
      not_passed v solves_v (omega (arith, ltb-false (waiting streams errors s) (timely s) e, searched.high))

-- ── the list ──
module _ (streams : List StreamRecord) (errors : Errors) where
  before_late : (l : List StreamRecord) (k : ℕ) → k < first_late streams l errors → is_timely streams errors (at l k) ≡ true
  unfolding first_late
  before_late [] k h = absurd (not-suc-le-zero h)
  before_late (s ∷ l) k h = by_test (is_timely streams errors s) refl k h (before_late l)
    where
      by_test : (b : Bool) → is_timely streams errors s ≡ b → (k : ℕ) → k < cond b (suc (first_late streams l errors)) 0
          → ((k : ℕ) → k < first_late streams l errors → is_timely streams errors (at l k) ≡ true) → is_timely streams errors (at (s ∷ l) k) ≡ true
      by_test false e k h later = absurd (not-suc-le-zero h)
      by_test true e zero h later = e
      by_test true e (suc k) h later = later k (le_of_suc-le-suc h)

  is_late : (l : List StreamRecord) → first_late streams l errors < length l → is_timely streams errors (at l (first_late streams l errors)) ≡ false
  unfolding first_late
  is_late [] h = absurd (not-suc-le-zero h)
  is_late (s ∷ l) h = by_test (is_timely streams errors s) refl h (is_late l)
    where
      by_test : (b : Bool) → is_timely streams errors s ≡ b → cond b (suc (first_late streams l errors)) 0 < suc (length l)
          → (first_late streams l errors < length l → is_timely streams errors (at l (first_late streams l errors)) ≡ false)
          → is_timely streams errors (at (s ∷ l) (cond b (suc (first_late streams l errors)) 0)) ≡ false
      by_test false e h later = e
      by_test true e h later = later (le_of_suc-le-suc h)

  -- the two numbers of a stream
  waiting_at : (l : List StreamRecord) (k : ℕ) → k < length l → get_or (times streams l errors) (2 * k) 0 ≡ waiting streams errors (at l k)
  unfolding times
  waiting_at [] k h = absurd (not-suc-le-zero h)
  waiting_at (s ∷ l) zero h = refl
  waiting_at (s ∷ l) (suc k) h =
      let twice : 2 * suc k ≡ suc (suc (2 * k)) = omega arith in rw twice (waiting_at l k (le_of_suc-le-suc h))

  response_at : (l : List StreamRecord) (k : ℕ) → k < length l → get_or (times streams l errors) (2 * k + 1) 0 ≡ response streams errors (at l k)
  unfolding times
  response_at [] k h = absurd (not-suc-le-zero h)
  response_at (s ∷ l) zero h = refl
  response_at (s ∷ l) (suc k) h =
      let twice : 2 * suc k + 1 ≡ suc (suc (2 * k + 1)) = omega arith in rw twice (response_at l k (le_of_suc-le-suc h))

  times_tell : (room : ℕ) → length streams ≤ first_late streams streams errors → Times streams errors room (times streams streams errors)
  times_tell room none = record {
    count = times_count streams streams errors;
    waiting = λ k h. rw (waiting_at streams k h) (least_solution streams errors (at streams k) (before_late streams k (omega arith)));
    response = λ k h. response_at streams k h ∙ ap (λ (w : ℕ). w + (at streams k).c) (sym (waiting_at streams k h));
  }

  pub judged : (room : ℕ) → Judged streams errors room (verdict streams errors room) (written streams errors room)
  unfolding verdict written
  judged room = by_limits (legal streams errors) refl
    where
      by_deadlines : Taken streams errors room → (b : Bool) → ltb (first_late streams streams errors) (length streams) ≡ b
          → Judged streams errors room (cond b (Late (first_late streams streams errors)) Done)
          (if_done (cond b (Late (first_late streams streams errors)) Done) (times streams streams errors))
      by_deadlines taken true e =
          let less : first_late streams streams errors < length streams = ltb-true _ _ e in
          late (first_late streams streams errors) taken less (no_solution streams errors _ (is_late streams less))
          (λ k h. (waiting streams errors (at streams k), least_solution streams errors (at streams k) (before_late streams k h)))
      by_deadlines taken false e = all (times streams streams errors) taken (times_tell room (ltb-false _ _ e))

      by_room : Legal streams errors → (b : Bool) → ltb room (2 * length streams) ≡ b
          → Judged streams errors room (cond b ShortOutput (all_timely streams errors))
          (if_done (cond b ShortOutput (all_timely streams errors)) (times streams streams errors))
      by_room ok true e = short ok (ltb-true _ _ e)
      by_room ok false e = by_deadlines (record { legal = ok; fits = ltb-false _ _ e }) (ltb (first_late streams streams errors) (length streams)) refl

      by_limits : (b : Bool) → legal streams errors ≡ b
          → Judged streams errors room (cond (not b) BadStream (cond (ltb room (2 * length streams)) ShortOutput (all_timely streams errors)))
          (if_done (cond (not b) BadStream (cond (ltb room (2 * length streams)) ShortOutput (all_timely streams errors))) (times streams streams errors))
      by_limits false e = bad (λ ok. true≢false (sym ((legal_tells streams errors).back ok) ∙ e))
      by_limits true e = by_room ((legal_tells streams errors).says e) (ltb room (2 * length streams)) refl
