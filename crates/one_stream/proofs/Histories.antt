-- Histories of one stream: the sender with its hold, message after message, ticks, deaths; and bench rule 2.
use Prim.Native.Nat.{ℕ, ◌+◌, ◌-◌, ◌≤◌, ◌<◌}
use mathlib.Core.Path.{◌≡◌}
use mathlib.Core.Logic.{◌⊎◌}
use mathlib.Core.Bool.{Bool, true, false, not, ◌&&◌}
use mathlib.Core.List.{List, [], ◌∷◌}
use lib.Dec.{T, ltb}
use Rattle.one_stream.specs.Sendings.{Bytes, move, Delays, never, Some, Omitted, last}
use Rattle.one_stream.specs.Frames.{Frame, At}
use Rattle.one_stream.specs.Classes.{Note, Class, Receiver, State, Live, Event, send_data, send_conf, send_code2, give, tick, die, step}
use Rattle.one_stream.specs.Classes.{Legal}

-- A strand is what becomes of one stream: its newest message with the receivers, its sender, whether that lives, whether a message was
-- ever requested, and the sender's hold.
pub record Strand (C : Class) : Type 0 where
  pub state : State C
  pub sender : ℕ
  pub up : Bool
  pub begun : Bool
  pub hold : Bool

-- an accepted request, a tick, the sender's death, or an event of the newest message
pub data Act : Type 0 where
  opens : Bytes → Act
  ticks : (reached : ℕ → Bool) → Act
  sender_dies : Act
  on : Event → Act

abbrev pub Short : Frame → Type 0
Short f = Omitted f.sendings

-- none of these is an accepted request
abbrev pub NoOpens : List Act → Type 0
NoOpens [] = Unit {0}
NoOpens (opens b ∷ xs) = ⊥
NoOpens (ticks r ∷ xs) = NoOpens xs
NoOpens (sender_dies ∷ xs) = NoOpens xs
NoOpens (on e ∷ xs) = NoOpens xs

module _ (C : Class) where
  abbrev pub without_frames : Receiver C → Receiver C
  without_frames r = record { live = r.live; slot = r.slot; pending = r.pending; frames = []; log = r.log }

  -- a new message: nothing of it was sent, no module has made a frame of code 2 of it pending
  abbrev pub opened : Bytes → State C → State C
  opened b w =
      record {
        now = w.now;
        requested = w.now;
        message = b;
        data_sent = never;
        conf_sent = never;
        receiver = λ i. without_frames (w.receiver i);
      }

  abbrev pub with_state : State C → Strand C → Strand C
  with_state w Z = record { state = w; sender = Z.sender; up = Z.up; begun = Z.begun; hold = Z.hold }

  -- the sender's age of the message, when the counts are those
  abbrev pub age_at : Strand C → (ℕ → ℕ) → ℕ
  age_at Z now = now Z.sender - Z.state.requested Z.sender

  unfoldable pub act : Strand C → Act → Strand C
  act Z (opens b) = record { state = opened b Z.state; sender = Z.sender; up = Z.up; begun = true; hold = true }
  act Z (ticks r) =
      record {
        state = step C Z.state (tick r);
        sender = Z.sender;
        up = Z.up;
        begun = Z.begun;
        hold = Z.hold && not (ltb C.hold (age_at Z (move r Z.state.now)));
      }
  act Z sender_dies = record { state = Z.state; sender = Z.sender; up = false; begun = Z.begun; hold = Z.hold }
  act Z (on e) = with_state (step C Z.state e) Z

  -- ── rule 2: any two omissions of a message are one frame ──
  pub record OneOmission (w : State C) : Type 0 where
    pub data_conf : Omitted w.data_sent → Omitted w.conf_sent → ⊥
    pub data_code2 : (q k : ℕ) → Omitted w.data_sent → At Short k (w.receiver q).frames → ⊥
    pub conf_code2 : (q k : ℕ) → Omitted w.conf_sent → At Short k (w.receiver q).frames → ⊥
    pub code2 : (q k q' k' : ℕ) → At Short k (w.receiver q).frames → At Short k' (w.receiver q').frames → (q ≡ q') × (k ≡ k')

  -- a common tick reaches every live module
  pub record Common (Z : Strand C) (r : ℕ → Bool) : Type 0 where
    pub receivers : (i : ℕ) → Live Z.state i → T (r i)
    pub sender : T Z.up → T (r Z.sender)

  -- ticks that run apart: the counts of two live modules still differ by at most e over the stretch from the last sending
  -- of the data, and from the request
  pub record Apart (S : Delays) (Z : Strand C) (r : ℕ → Bool) : Type 0 where
    pub receivers : Some Z.state.data_sent → (i j : ℕ) → Live Z.state i → Live Z.state j
        → move r Z.state.now i + last Z.state.data_sent j ≤ move r Z.state.now j + last Z.state.data_sent i + S.e
    pub sender : T Z.up → (i : ℕ) → Live Z.state i
        → move r Z.state.now Z.sender + Z.state.requested i ≤ move r Z.state.now i + Z.state.requested Z.sender + S.e

  abbrev pub MayAct : Delays → Strand C → Act → Type 0
  MayAct S Z (opens b) = T Z.up × T (not Z.hold)
  MayAct S Z (ticks r) = (Common Z r ⊎ Apart S Z r) × Legal C S Z.state (tick r)
  MayAct S Z sender_dies = Unit {0}
  MayAct S Z (on (send_data hears full)) = T Z.begun × Legal C S Z.state (send_data hears full)
  MayAct S Z (on (send_conf hears full)) = Legal C S Z.state (send_conf hears full)
  MayAct S Z (on (send_code2 q k hears full)) = Legal C S Z.state (send_code2 q k hears full)
  MayAct S Z (on (give q)) = Unit {0}
  MayAct S Z (on (tick r)) = ⊥
  MayAct S Z (on (die q)) = Unit {0}

  abbrev pub acts : Strand C → List Act → Strand C
  acts Z [] = Z
  acts Z (x ∷ xs) = acts (act Z x) xs

  -- the history keeps the bench rules 1, 3, 4 and the second half of 2 (the first half, OneOmission, is asked apart)
  abbrev pub Keeps : Delays → Strand C → List Act → Type 0
  Keeps S Z [] = Unit {0}
  Keeps S Z (x ∷ xs) = MayAct S Z x × Keeps S (act Z x) xs

  pub record IdleReceiver (r : Receiver C) : Type 0 where
    pub slot : r.slot ≡ C.idle
    pub frames : r.frames ≡ []
    pub pending : r.pending ≡ false

  -- nothing requested, held, pending or sent
  pub record Fresh (Z : Strand C) : Type 0 where
    pub not_begun : Z.begun ≡ false
    pub no_data : Z.state.data_sent ≡ never
    pub no_conf : Z.state.conf_sent ≡ never
    pub same : (i : ℕ) → Z.state.requested i ≡ Z.state.now i
    pub idle : (i : ℕ) → IdleReceiver (Z.state.receiver i)

  -- the module has counted n ticks and one more since the message was requested
  abbrev pub Counted : ℕ → Strand C → ℕ → Type 0
  Counted n Z i = Z.state.requested i + n < Z.state.now i

  -- rule 2 at the end of every message: when the next request is accepted, and when the history ends
  abbrev pub EachOnce : Strand C → List Act → Type 0
  EachOnce Z [] = OneOmission Z.state
  EachOnce Z (opens b ∷ xs) = OneOmission Z.state × EachOnce (act Z (opens b)) xs
  EachOnce Z (ticks r ∷ xs) = EachOnce (act Z (ticks r)) xs
  EachOnce Z (sender_dies ∷ xs) = EachOnce (act Z sender_dies) xs
  EachOnce Z (on e ∷ xs) = EachOnce (act Z (on e)) xs

-- what a log hands over
abbrev pub payloads : List Note → List Bytes
payloads [] = []
payloads (n ∷ l) = n.bytes ∷ payloads l

-- any two live receivers have handed over the same list
abbrev pub SameList : (C : Class) → Strand C → Type 0
SameList C Z =
    (i j : ℕ) → Live Z.state i → Live Z.state j
    → payloads (Z.state.receiver i).log ≡ payloads (Z.state.receiver j).log
