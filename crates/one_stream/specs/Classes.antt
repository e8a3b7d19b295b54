-- One message of one stream: what was sent of it, what each receiver holds, what may happen next. What a class of
-- messages does with a receiver's slot is a parameter.
use Rattle.std.specs.Prelude.{ℕ, suc, Bool, false, ◌&&◌, ◌||◌, cond, List, ◌∷◌, T, eqb}
use Rattle.one_stream.specs.Sendings.{Bytes, Moment, move, Delays, Sent, resend, Some, Full, first, Within, Fullness}
use Rattle.one_stream.specs.Frames.{Frame, add_frame, send_at, bytes_at, give_newest, Each, At, MaySend}

-- a delivery: the module's tick count and the bytes
pub record Note : Type 0 where
  pub at : ℕ
  pub bytes : Bytes

-- What a class does with a receiver's slot, and what its bench rules ask.
pub record Class : Type 1 where
  pub Slot : Type 0
  -- nothing held
  pub idle : Slot
  -- data, a confirmation, a frame of code 2 is heard; one's own is given out; one's own had a full sending; a tick
  pub on_data : ℕ → Bytes → Slot → Slot
  pub on_conf : Slot → Slot
  pub on_code2 : ℕ → Bytes → Slot → Slot
  pub on_given : Slot → Slot
  pub on_full : ℕ → Slot → Slot
  pub on_tick : ℕ → Slot → Slot
  -- a frame of code 2 becomes pending: at a confirmation, at a tick; its payload, and what that is of the message
  pub refuses : Slot → Bool
  pub late : ℕ → Slot → Bool
  pub payload : Slot → Bytes
  pub carried : Bytes → Bytes
  -- caused again while pending it is the same frame (else it takes the pending one's place)
  pub merges : Bool
  -- the tick delivers; what it delivers
  pub due : ℕ → Slot → Bool
  pub held : Slot → Bytes
  -- how long the sender's hold lasts
  pub hold : ℕ
  -- the data's sendings that a confirmation may follow
  pub Ready : Sent → Type 0
  -- what a live module's frame of code 2 has come to when its reach ends
  pub Done : Sent → Type 0

pub record Receiver (C : Class) : Type 0 where
  pub live : Bool
  pub slot : C.Slot
  pub pending : Bool
  pub frames : List Frame
  pub log : List Note

-- the current message: when it was requested, its bytes, the sendings of its data and of its confirmation
pub record State (C : Class) : Type 0 where
  pub now : Moment
  pub requested : Moment
  pub message : Bytes
  pub data_sent : Sent
  pub conf_sent : Sent
  pub receiver : ℕ → Receiver C

abbrev pub Live : {C : Class} → State C → ℕ → Type 0
Live w i = T (w.receiver i).live

pub data Event : Type 0 where
  send_data : (hears : ℕ → Bool) (full : Bool) → Event
  send_conf : (hears : ℕ → Bool) (full : Bool) → Event
  send_code2 : (owner place : ℕ) (hears : ℕ → Bool) (full : Bool) → Event
  give : (owner : ℕ) → Event
  tick : (reached : ℕ → Bool) → Event
  die : (who : ℕ) → Event

module _ (C : Class) where
  -- ── what a receiver does ──
  abbrev pub with_slot : C.Slot → Receiver C → Receiver C
  with_slot s r = record { live = r.live; slot = s; pending = r.pending; frames = r.frames; log = r.log }

  unfoldable pub hear_data : ℕ → Bytes → Receiver C → Receiver C
  hear_data n m r = with_slot (C.on_data n m r.slot) r

  unfoldable pub hear_conf : Moment → Receiver C → Receiver C
  hear_conf now r =
      let caused = C.refuses r.slot in
      record {
        live = r.live;
        slot = C.on_conf r.slot;
        pending = r.pending || caused;
        frames = add_frame caused (C.merges && r.pending) now (C.payload r.slot) r.frames;
        log = r.log;
      }

  unfoldable pub hear_code2 : ℕ → Bytes → Receiver C → Receiver C
  hear_code2 n b r = with_slot (C.on_code2 n b r.slot) r

  unfoldable pub ticked : (n : ℕ) → Moment → Receiver C → Receiver C
  ticked n now r =
      let caused = C.late n r.slot in
      record {
        live = r.live;
        slot = C.on_tick n r.slot;
        pending = r.pending || caused;
        frames = add_frame caused (C.merges && r.pending) now (C.payload r.slot) r.frames;
        log = cond (C.due n r.slot) (record { at = n; bytes = C.held r.slot } ∷ r.log) r.log;
      }

  unfoldable pub send_own : ℕ → Moment → Bool → ℕ → Receiver C → Receiver C
  send_own n now full k r =
      record {
        live = r.live;
        slot = cond full (C.on_full n r.slot) r.slot;
        pending = r.pending;
        frames = send_at now full k r.frames;
        log = r.log;
      }

  unfoldable pub give_own : Receiver C → Receiver C
  give_own r =
      record { live = r.live; slot = C.on_given r.slot; pending = false; frames = give_newest r.frames; log = r.log }

  unfoldable pub dead : Receiver C → Receiver C
  dead r = record { live = false; slot = r.slot; pending = r.pending; frames = r.frames; log = r.log }

  -- ── one event ──
  abbrev pub with_receivers : Moment → (ℕ → Receiver C) → State C → State C
  with_receivers now r w =
      record {
        now = now;
        requested = w.requested;
        message = w.message;
        data_sent = w.data_sent;
        conf_sent = w.conf_sent;
        receiver = r;
      }

  abbrev pub with_sendings : Sent → Sent → (ℕ → Receiver C) → State C → State C
  with_sendings d c r w =
      record { now = w.now; requested = w.requested; message = w.message; data_sent = d; conf_sent = c; receiver = r }

  -- each live module that the event reaches does f
  abbrev pub reaching : (ℕ → Bool) → (ℕ → Receiver C → Receiver C) → State C → ℕ → Receiver C
  reaching reached f w i = cond ((w.receiver i).live && reached i) (f i (w.receiver i)) (w.receiver i)

  -- the owner does f
  abbrev pub owning : ℕ → (ℕ → Receiver C → Receiver C) → State C → ℕ → Receiver C
  owning q f w i = cond (eqb i q) (f i (w.receiver i)) (w.receiver i)

  unfoldable pub step : State C → Event → State C
  step w (send_data hears full) =
      with_sendings (resend w.now full w.data_sent) w.conf_sent (reaching hears (λ i. hear_data (w.now i) w.message) w) w
  step w (send_conf hears full) =
      with_sendings w.data_sent (resend w.now full w.conf_sent) (reaching hears (λ i. hear_conf w.now) w) w
  step w (send_code2 q k hears full) =
      with_receivers w.now
      (λ i. cond (eqb i q) (send_own (w.now i) w.now full k (w.receiver i))
      (reaching hears (λ i. hear_code2 (w.now i) (bytes_at k (w.receiver q).frames)) w i)) w
  step w (give q) = with_receivers w.now (owning q (λ i. give_own) w) w
  step w (tick reached) =
      with_receivers (move reached w.now) (reaching reached (λ i. ticked (suc (w.now i)) (move reached w.now)) w) w
  step w (die q) = with_receivers w.now (owning q (λ i. dead) w) w

  -- a frame of a live module is done, or its reach is not over
  abbrev pub Served : Delays → Moment → Frame → Type 0
  Served S now f = (C.Done f.sendings → ⊥) → Within S.ra f.since now

  -- ── the bench rules at one event ──
  unfoldable pub Legal : Delays → State C → Event → Type 0
  Legal S w (send_data hears full) =
      Fullness hears full × (Full w.data_sent → ⊥) × Within S.rd w.requested w.now × (Some w.conf_sent → ⊥)
  Legal S w (send_conf hears full) =
      Fullness hears full × (Full w.conf_sent → ⊥) × C.Ready w.data_sent × Within S.dc (first w.data_sent) w.now
  Legal S w (send_code2 q k hears full) = Fullness hears full × Live w q × At (MaySend S w.now) k (w.receiver q).frames
  Legal S w (give q) = Unit {0}
  Legal S w (tick reached) = (i : ℕ) → Live w i → Each (Served S (move reached w.now)) (w.receiver i).frames
  Legal S w (die q) = Unit {0}
