-- The part of the invariant that no class changes: the data's times, and what is known of every frame of code 2.
use Prim.Native.Nat.{ℕ, ◌+◌, ◌≤◌}
use native.Mathlib.Omega.{arith}
use mathlib.Core.Path.{◌≡◌}
use mathlib.Core.Bool.{Bool, true, false, ◌||◌}
use mathlib.Core.List.{List}
use lib.Dec.{T}
use Rattle.one_stream.proofs.Truth.{or_l, or_r}
use Rattle.one_stream.specs.Sendings.{Bytes, Moment, move, Delays, Sent, resend, Some, Full, last}
use Rattle.one_stream.proofs.Sendings.{move_later, full_resend, last_resend, DataTimes, Stamped, resent_times}
use Rattle.one_stream.specs.Frames.{Frame, new_frame, Each, NonEmpty, Waiting}
use Rattle.one_stream.proofs.Frames.{Stable, each_map, each_zip}
use Rattle.one_stream.specs.Classes.{Note, Class, State, Live, Event, send_data, send_conf, send_code2, give, tick, die, step, Served, Legal}
use Rattle.one_stream.proofs.Events.{full_of, Clock, ticking, still, clock, time_passes, causes, live_before, each_step, waits_step}

-- what a tick must be for the counts of two live modules
abbrev pub Paced : (S : Delays) (C : Class) → State C → Event → Type 0
Paced S C w (send_data hears full) = Unit {0}
Paced S C w (send_conf hears full) = Unit {0}
Paced S C w (send_code2 q k hears full) = Unit {0}
Paced S C w (give q) = Unit {0}
Paced S C w (tick r) =
    Some w.data_sent → (i j : ℕ) → Live w i → Live w j
    → move r w.now i + last w.data_sent j ≤ move r w.now j + last w.data_sent i + S.e
Paced S C w (die q) = Unit {0}

-- a slot that holds the message since a sending of the data, for every class
pub record Holding (d : Sent) (message : Bytes) (any_full : Bool) (i stamp : ℕ) (b : Bytes) (fs : List Frame) (log base : List Note) : Type 0 where
  pub stamped : Stamped d i stamp
  pub bytes : b ≡ message
  pub no_frames : NonEmpty fs → ⊥
  pub no_full : T any_full → ⊥
  pub no_delivery : log ≡ base

module _ (S : Delays) (C : Class) where
  -- ── the data's times ──
  -- even: the counts of two live modules differ by at most e over the stretch from the data's last sending
  pub record Times (w : State C) : Type 0 where
    pub asked : (i : ℕ) → w.requested i ≤ w.now i
    pub sent_data : Some w.data_sent → DataTimes S.rd w.requested w.now w.data_sent
    pub even : Some w.data_sent → (i j : ℕ) → Live w i → Live w j
        → w.now i + last w.data_sent j ≤ w.now j + last w.data_sent i + S.e

  later_data : (w : State C) (now : Moment) → ((i : ℕ) → w.now i ≤ now i)
      → DataTimes S.rd w.requested w.now w.data_sent → DataTimes S.rd w.requested now w.data_sent
  later_data w now m d =
      record { asked = d.asked; order = d.order; past = λ i. omega (arith, d.past i, m i); reach = d.reach }

  pub times_step : (w : State C) (e : Event) → Legal C S w e → Paced S C w e → Times w → Times (step C w e)
  unfolding step Legal
  times_step w (send_data hears full) l p t =
      record {
        asked = t.asked;
        sent_data = λ s. resent_times S.rd w.requested w.now full w.data_sent t.asked l.2 t.sent_data;
        even = λ s i j x y. rw (last_resend w.now full w.data_sent) (omega arith);
      }
  times_step w (send_conf hears full) l p t =
      let b = live_before S C w (send_conf hears full) in
      record { asked = t.asked; sent_data = t.sent_data; even = λ s i j x y. t.even s i j (b i x) (b j y) }
  times_step w (send_code2 q k hears full) l p t =
      let b = live_before S C w (send_code2 q k hears full) in
      record { asked = t.asked; sent_data = t.sent_data; even = λ s i j x y. t.even s i j (b i x) (b j y) }
  times_step w (give q) l p t =
      let b = live_before S C w (give q) in
      record { asked = t.asked; sent_data = t.sent_data; even = λ s i j x y. t.even s i j (b i x) (b j y) }
  times_step w (tick r) l p t =
      let b = live_before S C w (tick r) in
      record {
        asked = λ i. omega (arith, t.asked i, move_later r w.now i);
        sent_data = λ s. later_data w (move r w.now) (move_later r w.now) (t.sent_data s);
        even = λ s i j x y. p s i j (b i x) (b j y);
      }
  times_step w (die q) l p t =
      let b = live_before S C w (die q) in
      record { asked = t.asked; sent_data = t.sent_data; even = λ s i j x y. t.even s i j (b i x) (b j y) }

  -- ── the frames of code 2; Cause: why a frame became pending when it did ──
  module _ (Cause : State C → Moment → Bytes → Type 0) where
    pub record FrameOk (w : State C) (any_full live : Bool) (f : Frame) : Type 0 where
      pub cause : Cause w f.since f.bytes
      pub past : (i : ℕ) → f.since i ≤ w.now i
      pub served : T live → Served C S w.now f
      pub noted : Full f.sendings → T any_full

    pub record Books (w : State C) (any_full : Bool) : Type 0 where
      pub times : Times w
      pub frames : (i : ℕ) → Each (FrameOk w any_full (w.receiver i).live) (w.receiver i).frames
      pub waits : (i : ℕ) → Live w i → T (w.receiver i).pending → Waiting (w.receiver i).frames

    -- an event is legal: the frames of a live module stay served
    stay_served : (w : State C) (a : Bool) (e : Event) → Legal C S w e → Books w a → (i : ℕ) → Live w i
        → Each (Served C S (step C w e).now) (w.receiver i).frames
    unfolding Legal
    stay_served w a e l b i lv = go (clock S C w e) l
      where
        go : {e : Event} {t : Moment} → Clock w.now e t → Legal C S w e → Each (Served C S t) (w.receiver i).frames
        go (ticking r) l = l i lv
        go still l =
            each_map (FrameOk w a (w.receiver i).live) (Served C S w.now) (w.receiver i).frames (λ f o. o.served lv)
            (b.frames i)

    module _ (done_keep : (now : Moment) (full : Bool) (d : Sent) → (Full d → ⊥) → (C.Done (resend now full d) → ⊥) → C.Done d → ⊥)
        (w : State C) (a : Bool) (e : Event) (l : Legal C S w e) (b : Books w a)
        (keep : (t : Moment) (m : Bytes) → ((i : ℕ) → t i ≤ w.now i) → Cause w t m → Cause (step C w e) t m)
        (new : (i : ℕ) → T (causes S C w e i) → Cause (step C w e) (step C w e).now (C.payload (w.receiver i).slot)) where
      abbrev After : Bool → Frame → Type 0
      After = FrameOk (step C w e) (full_of e || a)

      kept : (lv lv' : Bool) (f : Frame) → FrameOk w a lv f → (T lv' → Served C S (step C w e).now f) → After lv' f
      kept lv lv' f o d =
          record {
            cause = keep f.since f.bytes o.past o.cause;
            past = λ j. omega (arith, o.past j, time_passes S C w e j);
            served = d;
            noted = λ x. or_r (full_of e) a (o.noted x);
          }

      kept_all : (lv lv' : Bool) → (T lv' → T lv) → (fs : List Frame) → Each (FrameOk w a lv) fs
          → (T lv → Each (Served C S (step C w e).now) fs) → Each (After lv') fs
      kept_all lv true before fs o d =
          each_zip (FrameOk w a lv) (Served C S (step C w e).now) (After true) fs (λ f x y. kept lv true f x (λ t. y)) o
          (d (before tt))
      kept_all lv false before fs o d =
          each_map (FrameOk w a lv) (After false) fs (λ f x. kept lv false f x (λ t. absurd t)) o

      stable : (lv : Bool) → Stable S w.now (full_of e) (After lv)
      stable lv =
          record {
            given = λ f o. record { cause = o.cause; past = o.past; served = o.served; noted = o.noted };
            again = λ f m o. record {
              cause = o.cause;
              past = o.past;
              served = λ x n. o.served x (done_keep w.now (full_of e) f.sendings m.not_full n);
              noted = λ x. or_l (full_of e) a (full_resend w.now (full_of e) f.sendings x);
            };
          }

      new_frame_here : (i : ℕ) (lv : Bool) → T (causes S C w e i) → After lv (new_frame (step C w e).now (C.payload (w.receiver i).slot))
      new_frame_here i lv c =
          record { cause = new i c; past = λ j. omega arith; served = λ x y j. omega arith; noted = λ x. absurd x }

      pub books_step : Paced S C w e → Books (step C w e) (full_of e || a)
      books_step p =
          record {
            times = times_step w e l p b.times;
            frames = λ i.
                let lv' = ((step C w e).receiver i).live in
                each_step S C w e l i (After lv') (stable lv') (new_frame_here i lv')
                (kept_all (w.receiver i).live lv' (live_before S C w e i) (w.receiver i).frames (b.frames i)
                (stay_served w a e l b i));
            waits = λ i lv. waits_step S C w e l i (b.waits i (live_before S C w e i lv));
          }
