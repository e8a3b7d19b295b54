-- What one event makes of one receiver's frames of code 2, of who is live, and of the time, for every class.
use Prim.Native.Nat.{ℕ, suc, ◌≤◌}
use native.Mathlib.Omega.{arith}
use mathlib.Core.Path.{sym, subst}
use mathlib.Core.Bool.{Bool, false, ◌&&◌, ◌||◌}
use mathlib.Core.List.{List}
use lib.Dec.{T, eqb, eqb→eq}
use Rattle.one_stream.proofs.Truth.{cond_elim, both}
use Rattle.one_stream.specs.Sendings.{Moment, move, Delays}
use Rattle.one_stream.proofs.Sendings.{move_later}
use Rattle.one_stream.specs.Frames.{Frame, new_frame, add_frame, send_at, give_newest, Each, Any, At, Waiting, MaySend}
use Rattle.one_stream.proofs.Frames.{Stable, add_waits, each_add, any_add, each_give, any_give, send_waits, each_send, any_send}
use Rattle.one_stream.specs.Classes.{Class, Receiver, State, Live, Event, send_data, send_conf, send_code2, give, tick, die, hear_data}
use Rattle.one_stream.specs.Classes.{hear_conf, hear_code2, ticked, send_own, give_own, dead, step, Legal}

-- whether the event is a full sending of a frame of code 2
abbrev pub full_of : Event → Bool
full_of (send_data hears full) = false
full_of (send_conf hears full) = false
full_of (send_code2 q k hears full) = full
full_of (give q) = false
full_of (tick reached) = false
full_of (die q) = false

-- the time after an event
pub data Clock (now : Moment) : Event → Moment → Type 0 where
  ticking : (reached : ℕ → Bool) → Clock now (tick reached) (move reached now)
  still : {e : Event} → Clock now e now

module _ (S : Delays) (C : Class) where
  pub clock : (w : State C) (e : Event) → Clock w.now e (step C w e).now
  unfolding step
  clock w (send_data hears full) = still
  clock w (send_conf hears full) = still
  clock w (send_code2 q k hears full) = still
  clock w (give q) = still
  clock w (tick reached) = ticking reached
  clock w (die q) = still

  pub time_passes : (w : State C) (e : Event) (i : ℕ) → w.now i ≤ (step C w e).now i
  time_passes w e i = go (clock w e)
    where
      go : {e : Event} {t : Moment} → Clock w.now e t → w.now i ≤ t i
      go (ticking reached) = move_later reached w.now i
      go still = omega arith

  -- whether the event makes a frame of code 2 pending at module i
  abbrev pub causes : State C → Event → ℕ → Bool
  causes w (send_data hears full) i = false
  causes w (send_conf hears full) i = ((w.receiver i).live && hears i) && C.refuses (w.receiver i).slot
  causes w (send_code2 q k hears full) i = false
  causes w (give q) i = false
  causes w (tick reached) i = ((w.receiver i).live && reached i) && C.late (suc (w.now i)) (w.receiver i).slot
  causes w (die q) i = false

  -- what became of a receiver's pending flag and frames, by the event
  pub data Framed (w : State C) (e : Event) (i : ℕ) : (pending : Bool) → List Frame → Type 0 where
    unchanged : Framed w e i (w.receiver i).pending (w.receiver i).frames
    added : (c : Bool) → (T c → T (causes w e i))
        → Framed w e i ((w.receiver i).pending || c)
        (add_frame c (C.merges && (w.receiver i).pending) (step C w e).now (C.payload (w.receiver i).slot) (w.receiver i).frames)
    sent_at : (k : ℕ) → At (MaySend S w.now) k (w.receiver i).frames
        → Framed w e i (w.receiver i).pending (send_at w.now (full_of e) k (w.receiver i).frames)
    gave_newest : Framed w e i false (give_newest (w.receiver i).frames)

  abbrev FramedAs : State C → Event → ℕ → Receiver C → Type 0
  FramedAs w e i r = Framed w e i r.pending r.frames

  pub framed : (w : State C) (e : Event) → Legal C S w e → (i : ℕ) → FramedAs w e i ((step C w e).receiver i)
  unfolding step Legal hear_data hear_conf hear_code2 ticked send_own give_own dead
  framed w (send_data hears full) l i =
      cond_elim (FramedAs w (send_data hears full) i) ((w.receiver i).live && hears i) (λ t. unchanged) (λ t. unchanged)
  framed w (send_conf hears full) l i =
      cond_elim (FramedAs w (send_conf hears full) i) ((w.receiver i).live && hears i)
      (λ t. added (C.refuses (w.receiver i).slot) (both ((w.receiver i).live && hears i) (C.refuses (w.receiver i).slot) t))
      (λ t. unchanged)
  framed w (send_code2 q k hears full) l i =
      cond_elim (FramedAs w (send_code2 q k hears full) i) (eqb i q)
      (λ t. sent_at k (subst (λ j. At (MaySend S w.now) k (w.receiver j).frames) (sym (eqb→eq i q t)) l.2))
      (λ t. cond_elim (FramedAs w (send_code2 q k hears full) i) ((w.receiver i).live && hears i) (λ t. unchanged) (λ t. unchanged))
  framed w (give q) l i = cond_elim (FramedAs w (give q) i) (eqb i q) (λ t. gave_newest) (λ t. unchanged)
  framed w (tick reached) l i =
      cond_elim (FramedAs w (tick reached) i) ((w.receiver i).live && reached i)
      (λ t. added (C.late (suc (w.now i)) (w.receiver i).slot)
      (both ((w.receiver i).live && reached i) (C.late (suc (w.now i)) (w.receiver i).slot) t))
      (λ t. unchanged)
  framed w (die q) l i = cond_elim (FramedAs w (die q) i) (eqb i q) (λ t. unchanged) (λ t. unchanged)

  -- who is live was live before
  pub live_before : (w : State C) (e : Event) (i : ℕ) → Live (step C w e) i → Live w i
  unfolding step hear_data hear_conf hear_code2 ticked send_own give_own dead
  live_before w (send_data hears full) i =
      cond_elim (λ (r : Receiver C). T r.live → Live w i) ((w.receiver i).live && hears i) (λ t l. l) (λ t l. l)
  live_before w (send_conf hears full) i =
      cond_elim (λ (r : Receiver C). T r.live → Live w i) ((w.receiver i).live && hears i) (λ t l. l) (λ t l. l)
  live_before w (send_code2 q k hears full) i =
      cond_elim (λ (r : Receiver C). T r.live → Live w i) (eqb i q) (λ t l. l)
      (λ t. cond_elim (λ (r : Receiver C). T r.live → Live w i) ((w.receiver i).live && hears i) (λ t l. l) (λ t l. l))
  live_before w (give q) i = cond_elim (λ (r : Receiver C). T r.live → Live w i) (eqb i q) (λ t l. l) (λ t l. l)
  live_before w (tick reached) i =
      cond_elim (λ (r : Receiver C). T r.live → Live w i) ((w.receiver i).live && reached i) (λ t l. l) (λ t l. l)
  live_before w (die q) i = cond_elim (λ (r : Receiver C). T r.live → Live w i) (eqb i q) (λ t l. absurd l) (λ t l. l)

  module _ (w : State C) (e : Event) (l : Legal C S w e) (i : ℕ) where
    pub any_step : (P : Frame → Type 0) → Stable S w.now (full_of e) P → Any P (w.receiver i).frames
        → Any P ((step C w e).receiver i).frames
    any_step P st x = go (framed w e l i)
      where
        go : {p : Bool} {fs : List Frame} → Framed w e i p fs → Any P fs
        go unchanged = x
        go (added c h) =
            any_add P c (C.merges && (w.receiver i).pending) (step C w e).now (C.payload (w.receiver i).slot)
            (w.receiver i).frames x
        go (sent_at k m) = any_send w.now (full_of e) P (MaySend S w.now) k (w.receiver i).frames st.again m x
        go gave_newest = any_give P (w.receiver i).frames st.given x

    pub each_step : (P : Frame → Type 0) → Stable S w.now (full_of e) P
        → (T (causes w e i) → P (new_frame (step C w e).now (C.payload (w.receiver i).slot)))
        → Each P (w.receiver i).frames → Each P ((step C w e).receiver i).frames
    each_step P st new x = go (framed w e l i)
      where
        go : {p : Bool} {fs : List Frame} → Framed w e i p fs → Each P fs
        go unchanged = x
        go (added c h) =
            each_add P c (C.merges && (w.receiver i).pending) (step C w e).now (C.payload (w.receiver i).slot)
            (w.receiver i).frames (λ t. new (h t)) x
        go (sent_at k m) = each_send w.now (full_of e) P (MaySend S w.now) k (w.receiver i).frames st.again m x
        go gave_newest = each_give P (w.receiver i).frames st.given x

    -- a pending frame is the newest and waits
    pub waits_step : (T (w.receiver i).pending → Waiting (w.receiver i).frames)
        → T ((step C w e).receiver i).pending → Waiting ((step C w e).receiver i).frames
    waits_step waits = go (framed w e l i)
      where
        go : {p : Bool} {fs : List Frame} → Framed w e i p fs → T p → Waiting fs
        go unchanged t = waits t
        go (added c h) t =
            add_waits c C.merges (w.receiver i).pending (step C w e).now (C.payload (w.receiver i).slot)
            (w.receiver i).frames waits t
        go (sent_at k m) t =
            send_waits w.now (full_of e) (MaySend S w.now) (λ f m. m.out) k (w.receiver i).frames m (waits t)
        go gave_newest t = absurd t
