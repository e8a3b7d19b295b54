-- Every step of the code goes as the definition does, and the last one says how it ends.
use Rattle.std.proofs.Common.{◌≡◌, ℕ, ◌<◌, true, false, ◌≢◌, ◌⊎◌, List, [], length, sym, refl, ap, ◌∙◌, subst, inl, inr, true≢false, arith}
use mathlib.Core.Bool.{false≢true}
use Rattle.heard.specs.declared.reply.Reply.TheVariants.{CutRecord}
use Rattle.heard.specs.Replies.{Done, Refused, number_of}
use Rattle.heard.specs.Reading.{HeardAt, heard_at}
use Rattle.heard.specs.Recordings.{Recording}
use Rattle.heard.specs.RoundTrip.{ReadBy, at_end, at_fault, one_read}
use Rattle.heard.specs.Windows.{moved}
use Rattle.heard.proofs.Replies.{not_done}
use Rattle.node.specs.declared.Node.{Node}
use Rattle.playback.specs.declared.Playback.{Playback}
use Rattle.playback.specs.Replays.{replay_on}
use Rattle.playback.specs.Steps.{Over, Step, stopped, jumped, tick_step, hear_step, step}
use Rattle.playback.specs.Runs.{Lent, is_over, replayed_in64}
use Rattle.playback.proofs.StepCases.{Case, all_done, wants_bytes, wants_room, faulty, ticked, heard, step_case}
use Rattle.playback.proofs.Holding.{Holds}
use Rattle.playback.proofs.Following.{Went, asked, same_gap, same_still, in_the_window, what_is_left, tick_went, hear_went}

module _ {recording : List ℕ} {at : ℕ} (l : Lent recording at) (u : Node) (p : Playback) (holds : Holds u at p)
    (rest : Recording) (reads : ReadBy recording at rest) where
  abbrev Cases : Step → Type 0
  Cases = Case l.window l.ended l.output p

  abbrev s : Step
  s = step l.window l.ended l.output p

  went_so : {s : Step} → Cases s → is_over s.way ≡ false → Went recording at u rest s
  went_so (all_done ended none) h = absurd (true≢false h)
  went_so (faulty bad tells some) h = absurd (true≢false h)
  went_so (wants_bytes cut not_ended) h = asked recording at u p holds rest reads (omega (arith, what_is_left l)) _ refl refl refl refl
  went_so (wants_room short) h = asked recording at u p holds rest reads (omega (arith, what_is_left l)) _ refl refl refl refl
  went_so (ticked ok long before) h =
      let g = same_gap recording at u p holds rest reads l ok long in
      let k = same_still recording at u p holds rest reads l ok long in
      subst (λ (n : ℕ). Went recording at u rest (tick_step l.output (jumped n p))) (sym k)
      (tick_went recording at u p holds rest reads l ok long (omega (arith, before, g, k)))
  went_so (heard ok long beyond) h =
      let g = same_gap recording at u p holds rest reads l ok long in
      let k = same_still recording at u p holds rest reads l ok long in
      subst (λ (n : ℕ). Went recording at u rest (hear_step (heard_at l.window 0) l.window l.output (jumped n p))) (sym k)
      (hear_went recording at u p holds rest reads l ok long (omega (arith, beyond, g, k)))

  pub goes_on : is_over s.way ≡ false → Went recording at u rest s
  goes_on = went_so (step_case l.window l.ended l.output p)

  -- ── the last step ──
  abbrev Ends : Step → Recording → Type 0
  Ends s rest = replayed_in64 (replay_on u rest) ≡ record { deliveries = []; reply = number_of s.reply; offset = s.offset }

  -- nothing is left
  done_so : l.ended ≡ true → length l.window ≡ 0 → {rest : Recording} → ReadBy recording at rest → Ends (stopped Over Done 0 p) rest
  done_so ended none (at_end past) = refl
  done_so ended none (at_fault reply inside e) = absurd (omega (arith, inside, what_is_left l, none, ap length (l.none_beyond ended)))
  done_so ended none (one_read r inside e later) = absurd (omega (arith, inside, what_is_left l, none, ap length (l.none_beyond ended)))

  -- a record is at fault
  module _ (bad : (heard_at l.window 0).ok ≡ false) (tells : ((heard_at l.window 0).reply ≢ Refused CutRecord) ⊎ (l.ended ≡ true)) where
    answer : heard_at recording at ≡ moved at (heard_at l.window 0)
    answer = (in_the_window l (by tells)).0
      where
        by : ((heard_at l.window 0).reply ≢ Refused CutRecord) ⊎ (l.ended ≡ true) → ((heard_at l.window 0).reply ≢ Refused CutRecord) ⊎ (l.beyond ≡ [])
        by (inl other) = inl other
        by (inr ended) = inr (l.none_beyond ended)

    fault_so : 0 < length l.window → {rest : Recording} → ReadBy recording at rest → Ends (stopped Over (heard_at l.window 0).reply p.taken p) rest
    fault_so some (at_end past) = absurd (omega (arith, past, what_is_left l))
    fault_so some (at_fault reply inside e) =
        let is : (heard_at l.window 0).reply ≡ Refused reply = sym (ap (λ (x : HeardAt). x.reply) (e ∙ answer)) in
        rw (is, not_done reply, holds.taken)
    fault_so some (one_read r inside e later) =
        absurd (true≢false (ap (λ (x : HeardAt). x.ok) (e ∙ answer) ∙ bad))

  ends_so : {s : Step} → Cases s → is_over s.way ≡ true → Ends s rest
  unfolding tick_step hear_step
  ends_so (all_done ended none) h = done_so ended none reads
  ends_so (faulty bad tells some) h = fault_so bad tells some reads
  ends_so (wants_bytes cut not_ended) h = absurd (false≢true h)
  ends_so (wants_room short) h = absurd (false≢true h)
  ends_so (ticked ok long before) h = absurd (false≢true h)
  ends_so (heard ok long beyond) h = absurd (false≢true h)

  pub ends : is_over s.way ≡ true → Ends s rest
  ends = ends_so (step_case l.window l.ended l.output p)
