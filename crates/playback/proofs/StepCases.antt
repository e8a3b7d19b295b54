-- A step, by its way.
use Rattle.std.proofs.Common.{◌≡◌, ℕ, zero, suc, ◌<◌, ◌≤◌, Bool, true, false, not, ◌&&◌, eqb, ltb, ◌≢◌, ◌⊎◌, List, length, sym, refl, ap, ◌∙◌, subst, inl, inr}
use Rattle.std.proofs.Common.{true≢false, arith, ltb-false, ltb-true, eq-eqb, eqb-true}
use mathlib.Core.Bool.{and-eq-true_iff}
use borrow.Author.Tests.{eqb-false, not-true}
use Rattle.heard.specs.declared.reply.Reply.TheVariants.{ShortOutput, CutRecord}
use Rattle.heard.specs.Replies.{Done, Refused, number_of}
use Rattle.heard.specs.Reading.{HeardAt, heard_at}
use Rattle.heard.proofs.Ways.{no_head}
use Rattle.heard.proofs.Passed.{unread}
use Rattle.heard.proofs.Replies.{numbers_distinct}
use Rattle.node.specs.Tick.{tick_room}
use Rattle.node.specs.Clock.{rolled}
use Rattle.playback.specs.declared.Playback.{Playback}
use Rattle.playback.specs.Gaps.{gap_from}
use Rattle.playback.specs.Quiet.{quiet}
use Rattle.playback.specs.Steps.{MoreBytes, MoreRoom, Over, Step, stopped, jumped, tick_step, hear_step, step, as_stepped}
use Rattle.playback.specs.Runs.{way_of, took_by, written_by, reply_of, offset_of, is_over}
use Rattle.playback.proofs.Ways as ways

module _ (window : List ℕ) (ended : Bool) (output : List ℕ) (p : Playback) where
  abbrev pub read : HeardAt
  read = heard_at window 0

  abbrev pub gap : ℕ
  gap = gap_from p.ticks read.heard

  abbrev pub still : ℕ
  still = quiet rolled gap p.node

  pub data Case : Step → Type 0 where
    all_done : ended ≡ true → length window ≡ 0 → Case (stopped Over Done 0 p)
    wants_bytes : read.reply ≡ Refused CutRecord → ended ≡ false → Case (stopped MoreBytes Done 0 p)
    wants_room : length output < tick_room → Case (stopped MoreRoom (Refused ShortOutput) 0 p)
    faulty : read.ok ≡ false → (read.reply ≢ Refused CutRecord) ⊎ (ended ≡ true) → 0 < length window → Case (stopped Over read.reply p.taken p)
    ticked : read.ok ≡ true → tick_room ≤ length output → still < gap → Case (tick_step output (jumped still p))
    heard : read.ok ≡ true → tick_room ≤ length output → gap ≤ still → Case (hear_step read window output (jumped still p))

  abbrev s : Step
  s = step window ended output p

  not_cut : eqb (number_of read.reply) (number_of (Refused CutRecord)) ≡ false → read.reply ≢ Refused CutRecord
  not_cut e cut = eqb-false (number_of read.reply) (number_of (Refused CutRecord)) e (ap number_of cut)

  is_cut : eqb (number_of read.reply) (number_of (Refused CutRecord)) ≡ true → read.reply ≡ Refused CutRecord
  is_cut e = numbers_distinct read.reply (Refused CutRecord) (eqb-true _ _ e)

  why : (cut end : Bool) → eqb (number_of read.reply) (number_of (Refused CutRecord)) ≡ cut → ended ≡ end → cut && not end ≡ false
      → (read.reply ≢ Refused CutRecord) ⊎ (ended ≡ true)
  why false end c e h = inl (not_cut c)
  why true true c e h = inr e
  why true false c e h = absurd (true≢false h)

  -- a window without bytes is no record, and no fault where more bytes may follow
  some_bytes : ended && eqb (length window) 0 ≡ false → eqb (number_of read.reply) (number_of (Refused CutRecord)) && not ended ≡ false → 0 < length window
  some_bytes more fault = go (length window) refl
    where
      none : length window ≡ 0 → (end : Bool) → ended ≡ end → ⊥
      none e true f = true≢false (sym (rw (f, eq-eqb _ _ e)) ∙ more)
      none e false f =
          let cut : read.reply ≡ Refused CutRecord = ap (λ (r : HeardAt). r.reply) (sym (no_head window 0 (omega arith))) in
          true≢false (sym (rw (f, cut)) ∙ fault)

      go : (n : ℕ) → length window ≡ n → 0 < n
      go zero e = absurd (none e ended refl)
      go (suc n) e = omega arith

  pub step_case : Case s
  step_case = by_more (ended && eqb (length window) 0) refl
    where
      is : {t : Step} → s ≡ t → Case t → Case s
      is e = subst Case (sym e)

      by_quiet : ended && eqb (length window) 0 ≡ false → read.ok ≡ true → tick_room ≤ length output → (t : Bool) → ltb still gap ≡ t → Case s
      by_quiet more ok long true t =
          let before = ltb-true still gap t in
          is (ways.to_a_tick window ended output p more read refl ok long gap still refl refl _ refl before) (ticked ok long before)
      by_quiet more ok long false t =
          let beyond = ltb-false still gap t in
          is (ways.to_the_record window ended output p more read refl ok long gap still refl refl _ refl beyond) (heard ok long beyond)

      by_room : ended && eqb (length window) 0 ≡ false → read.ok ≡ true → (t : Bool) → ltb (length output) tick_room ≡ t → Case s
      by_room more ok true t = is (ways.no_room window ended output p more read refl ok (ltb-true (length output) tick_room t))
          (wants_room (ltb-true (length output) tick_room t))
      by_room more ok false t = by_quiet more ok (ltb-false (length output) tick_room t) (ltb still gap) refl

      by_fault : ended && eqb (length window) 0 ≡ false → read.ok ≡ false → (t : Bool)
          → eqb (number_of read.reply) (number_of (Refused CutRecord)) && not ended ≡ t → Case s
      by_fault more bad true t =
          let both = (and-eq-true_iff (eqb (number_of read.reply) (number_of (Refused CutRecord))) (not ended)).0 t in
          is (ways.not_read window ended output p more read refl bad ∙ sym (ways.more_may_follow p read.reply ended t))
          (wants_bytes (is_cut both.0) (not-true ended both.1))
      by_fault more bad false t =
          is (ways.not_read window ended output p more read refl bad ∙ sym (ways.no_more_follows p read.reply ended t))
          (faulty bad (why _ _ refl refl t) (some_bytes more t))

      by_read : ended && eqb (length window) 0 ≡ false → (ok : Bool) → read.ok ≡ ok → Case s
      by_read more true ok = by_room more ok (ltb (length output) tick_room) refl
      by_read more false bad = by_fault more bad (eqb (number_of read.reply) (number_of (Refused CutRecord)) && not ended) refl

      by_more : (t : Bool) → ended && eqb (length window) 0 ≡ t → Case s
      by_more true t =
          let both = (and-eq-true_iff ended (eqb (length window) 0)).0 t in
          is (ways.nothing_left window ended output p t) (all_done both.0 (eqb-true _ _ both.1))
      by_more false t = by_read t read.ok refl

-- the answer has the numbers of its step
pub record AnswersSo (s : Step) : Type 0 where
  pub way : way_of (as_stepped s) ≡ s.way
  pub took : took_by (as_stepped s) ≡ s.took
  pub written : written_by (as_stepped s) ≡ length s.bytes
  pub end : is_over s.way ≡ true → (reply_of (as_stepped s) ≡ number_of s.reply) × (offset_of (as_stepped s) ≡ s.offset)

module _ (window : List ℕ) (ended : Bool) (output : List ℕ) (p : Playback) where
  case_so : {s : Step} → Case window ended output p s → AnswersSo s
  unfolding tick_step hear_step
  case_so (all_done e none) = record { way = refl; took = refl; written = refl; end = λ over. (refl, refl) }
  case_so (wants_bytes cut e) = record { way = refl; took = refl; written = refl; end = λ over. absurd (true≢false (sym over)) }
  case_so (wants_room short) = record { way = refl; took = refl; written = refl; end = λ over. absurd (true≢false (sym over)) }
  case_so (faulty bad tells some) =
      let (reply, e) = unread window 0 bad in
      let is : (heard_at window 0).reply ≡ Refused reply = ap (λ (r : HeardAt). r.reply) (sym e) in
      record { way = refl; took = refl; written = refl; end = λ over. rw is (refl, refl) }
  case_so (ticked ok long before) = record { way = refl; took = refl; written = refl; end = λ over. absurd (true≢false (sym over)) }
  case_so (heard ok long beyond) = record { way = refl; took = refl; written = refl; end = λ over. absurd (true≢false (sym over)) }

  pub answers_so : AnswersSo (step window ended output p)
  answers_so = case_so (step_case window ended output p)
