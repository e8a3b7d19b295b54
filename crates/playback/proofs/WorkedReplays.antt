-- The worked replays give what their table says. They are computed step by step, as the code goes, since the definition ticks 65,541 times in one of
-- them; and the steps give what the definition says.
use Rattle.std.proofs.Common.{◌≡◌, ℕ, zero, suc, ◌+◌, ◌-◌, ◌<◌, ◌≤◌, Bool, true, false, cond, ◌&&◌, eqb, ltb, List, [], ◌∷◌, map, length, drop, sym, refl, ap}
use Rattle.std.proofs.Common.{◌∙◌, append-nil, arith, drop-drop, ltb-true}
use mathlib.Core.Bool.{and-eq-true_iff}
use Rattle.wire.specs.declared.ids.Stream.{Stream}
use Rattle.wire.specs.declared.settings.Settings.{Settings}
use Rattle.wire.specs.Replies as of_node
use Rattle.wire.specs.Classes.{carries}
use Rattle.wire.specs.Delivered as delivered
use Rattle.wire.specs.Settings.{legal}
use Rattle.heard.specs.Kinds.{count_bytes}
use Rattle.heard.specs.Reading.{heard_at}
use Rattle.heard.specs.Records.{record_of}
use Rattle.heard.specs.Replies as of_reader
use Rattle.heard.specs.Recordings.{Recording, recording_in}
use Rattle.heard.specs.RoundTrip.{ReadBy}
use Rattle.heard.proofs.WrittenThenRead.{every_recording_is_read}
use Rattle.node.specs.declared.Node.{Node}
use Rattle.node.specs.Nodes.{Outcome, fresh}
use Rattle.node.specs.Slots.{same_bytes, first, on_first, some}
use Rattle.node.specs.SetUp.{less_free, in_place, set_up}
use Rattle.node.specs.Hear.{heard_by, delivered_at_once, hear}
use Rattle.node.specs.Tick.{late, due, hold_over, lapsed, due_slots, records_from, tick}
use Rattle.node.specs.Request.{request, requested}
use Rattle.node.specs.Calls.{roll}
use Rattle.playback.specs.declared.Playback.{Playback}
use Rattle.playback.specs.Deliveries.{Delivery, deliveries_in, room}
use Rattle.playback.specs.Replays.{Replayed, set_up_all, replay_on, replay}
use Rattle.playback.specs.Gaps.{gap_from}
use Rattle.playback.specs.Quiet.{with_slot, quiet_in, held_in}
use Rattle.playback.specs.Steps.{in64, fresh_playback, Step, tick_step, hear_step, towards, step}
use Rattle.playback.specs.Runs.{is_over, replayed_in64}
use Rattle.playback.specs.WorkedReplays.{Row, rows, ReplayedAsWorked, stretches, QuietAsWorked}
use Rattle.playback.proofs.Holding.{Holds}
use Rattle.playback.proofs.Following.{Went, ahead}
use Rattle.playback.proofs.Steps.{goes_on, ends}
use Rattle.playback.proofs.Runs.{prepares_as, fresh_holds, deliveries_in_64, joined}
use Rattle.playback.proofs.SomeRuns.{all_left, went_on, some_settings}
use Rattle.playback.proofs.Exact.{enough}

-- so many steps, each lent all that is left
abbrev stepped : (fuel : ℕ) → (left : List ℕ) → Playback → Replayed
stepped zero left p = record { deliveries = []; reply = 0; offset = 0 }
stepped (suc fuel) left p =
    let s = step left true room p in
    cond (is_over s.way) (record { deliveries = []; reply = of_reader.number_of s.reply; offset = s.offset })
    (ahead (deliveries_in s.playback.ticks s.bytes) (stepped fuel (drop s.took left) s.playback))

module _ (recording : List ℕ) where
  stepped_so : (fuel : ℕ) (u : Node) (p : Playback) (at : ℕ) → Holds u at p → at ≤ length recording → (rest : Recording) → ReadBy recording at rest
      → held_in u.slots + (length recording - at) < fuel → stepped fuel (drop at recording) p ≡ replayed_in64 (replay_on u rest)
  stepped_so zero u p at holds inside rest reads few = absurd (omega arith)
  stepped_so (suc fuel) u p at holds inside rest reads few =
      by (is_over s.way) refl λ over.
      let w = goes_on (all_left recording at inside) u p holds rest reads over in (
        w,
        stepped_so fuel w.to s.playback (at + s.took) w.holds w.inside w.later w.reads
            (omega (arith, w.nearer, went_on recording p at inside over)),
      )
    where
      s : Step
      s = step (drop at recording) true room p

      by : (t : Bool) → is_over s.way ≡ t
          → (is_over s.way ≡ false
          → (w : Went recording at u rest s) × (stepped fuel (drop (at + s.took) recording) s.playback ≡ replayed_in64 (replay_on w.to w.later)))
          → cond t (record { deliveries = []; reply = of_reader.number_of s.reply; offset = s.offset })
          (ahead (deliveries_in s.playback.ticks s.bytes) (stepped fuel (drop s.took (drop at recording)) s.playback))
          ≡ replayed_in64 (replay_on u rest)
      by true e later = sym (ends (all_left recording at inside) u p holds rest reads e)
      by false e later =
          let (w, others) = later e in
          let now = deliveries_in s.playback.ticks s.bytes in
          let in_64 = ap (λ (n : ℕ). deliveries_in n s.bytes) w.holds.ticks ∙ deliveries_in_64 w.to.counter s.bytes in
          ap (λ (l : List ℕ). ahead now (stepped fuel l s.playback)) (drop-drop s.took at recording)
          ∙ ap (ahead now) others
          ∙ sym (joined (replay_on u rest) (replay_on w.to w.later) (replayed_in64 (replay_on w.to w.later))
          (deliveries_in w.to.counter s.bytes) [] now w.same in_64 refl
          ∙ ap (λ (l : List Delivery). ahead l (replayed_in64 (replay_on w.to w.later))) (append-nil now))

-- the steps from the settings on
abbrev played : List (Stream × Settings) → (recording : List ℕ) → Replayed
played settings recording =
    let o = set_up_all settings fresh in
    cond (eqb (of_node.number_of o.reply) 0)
    (stepped (suc (length recording)) recording (record { node = roll o.node; ticks = 0; taken = 0 }))
    (record { deliveries = []; reply = of_node.number_of o.reply; offset = 0 })

played_so : (settings : List (Stream × Settings)) (recording : List ℕ) → length recording < 281474976710656
    → replay settings recording ≡ played settings recording
played_so settings recording short = sym (enough settings recording short) ∙ by (eqb (of_node.number_of o.reply) 0)
  where
    o : Outcome
    o = set_up_all settings fresh

    p : Playback
    p = record { node = roll o.node; ticks = 0; taken = 0 }

    refused : Replayed
    refused = record { deliveries = []; reply = of_node.number_of o.reply; offset = 0 }

    by : (t : Bool)
        → replayed_in64 (cond t (replay_on o.node (recording_in recording)) refused) ≡ cond t (stepped (suc (length recording)) recording p) refused
    by false = refl
    by true =
        let set = prepares_as (some_settings settings fresh_playback).set_up_call fresh 0 fresh_holds in
        let none = set.held in
        let holds : Holds o.node 0 p =
        record { kept = set.holds.kept; node = refl; ticks = ap in64 (sym set.counter); taken = refl } in
        sym (stepped_so recording (suc (length recording)) o.node p 0 holds (omega arith) (recording_in recording) (every_recording_is_read recording)
        (omega arith))

-- ── the table ──
abbrev all_short : List Row → Bool
all_short [] = true
all_short (r ∷ rs) = ltb (length r.recording) 281474976710656 && all_short rs

all_so : (rs : List Row) → all_short rs ≡ true
    → map (λ (r : Row). replay r.settings r.recording) rs ≡ map (λ (r : Row). played r.settings r.recording) rs
all_so [] short = refl
all_so (r ∷ rs) short =
    let both = (and-eq-true_iff (ltb (length r.recording) 281474976710656) (all_short rs)).0 short in
    rw (played_so r.settings r.recording (ltb-true _ _ both.0), all_so rs both.1)

pub replayed_as_worked : ReplayedAsWorked
unfolding rows step towards tick_step hear_step quiet_in with_slot gap_from heard_at count_bytes record_of set_up in_place less_free hear heard_by
    delivered_at_once tick late due hold_over lapsed due_slots records_from delivered.record_of legal carries first on_first some same_bytes delivered.record_at
replayed_as_worked = all_so rows refl ∙ refl

pub quiet_as_worked : QuietAsWorked
unfolding stretches quiet_in with_slot set_up in_place less_free hear heard_by delivered_at_once request requested legal carries first on_first some same_bytes
quiet_as_worked = refl
