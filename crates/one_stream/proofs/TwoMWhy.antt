-- 2M: why each receiver's slot is as it is, from the request on, whatever legal events follow.
use Prim.Native.Nat.{ℕ, ◌+◌, ◌≤◌, ◌<◌}
use mathlib.Core.Path.{◌≡◌}
use mathlib.Core.Logic.{◌⊎◌}
use mathlib.Core.Bool.{Bool, true, false}
use mathlib.Core.List.{List, [], ◌∷◌}
use lib.Dec.{T}
use Rattle.one_stream.specs.Sendings.{Bytes, Moment, Delays, Some, Full, Omitted, first, last, Within}
use Rattle.one_stream.proofs.Sendings.{Stamped}
use Rattle.one_stream.specs.Frames.{Frame, Any, NonEmpty}
use Rattle.one_stream.specs.Classes.{Note, Receiver, State, Live}
use Rattle.one_stream.proofs.Twice.{Twice}
use Rattle.one_stream.proofs.Books.{Holding}
use Rattle.one_stream.specs.TwoM.{Slot, empty, held, two_m}

abbrev pub WasSent : Frame → Type 0
WasSent f = Some f.sendings

module _ (S : Delays) where
  abbrev pub World : Type 0
  World = State (two_m S)

  -- the data is over, and its last sending was short
  pub record DataFlaw (w : World) : Type 0 where
    pub short : Omitted w.data_sent
    pub over : Some w.conf_sent

  -- the confirmation is over, and it had no full sending
  pub record ConfFlaw (w : World) : Type 0 where
    pub some : Some w.data_sent
    pub short : Full w.conf_sent → ⊥
    pub at : ℕ
    pub over : first w.data_sent at + S.dc < w.now at

  abbrev pub Flaw : World → Type 0
  Flaw w = DataFlaw w ⊎ ConfFlaw w

  -- an abort's becoming pending: at a confirmation, or when a holder's dc ran out
  pub data When (w : World) (t : Moment) : Type 0 where
    refused : Within S.dc (first w.data_sent) t → When w t
    timed_out : ConfFlaw w → ((i : ℕ) → Live w i → t i ≤ last w.data_sent i + S.dc + 1 + S.e) → When w t

  pub record Cause (w : World) (t : Moment) (m : Bytes) : Type 0 where
    pub flaw : Flaw w
    pub when : When w t
    pub bytes : m ≡ []

  -- why a slot holds nothing
  pub data Why (w : World) (a : Bool) (i : ℕ) (fs : List Frame) (log base : List Note) : Type 0 where
    untouched : (Full w.data_sent → ⊥) → (Full w.conf_sent → ⊥) → log ≡ base → Why w a i fs log base
    gave_abort : NonEmpty fs → log ≡ base → Why w a i fs log base
    heard_abort : (q : ℕ) → Any WasSent (w.receiver q).frames → Flaw w → log ≡ base → Why w a i fs log base
    delivered : (s : ℕ) → Stamped w.data_sent i s → s + S.dd < w.now i → Some w.conf_sent
        → (T a → Twice S (two_m S) w) → (NonEmpty fs → ⊥)
        → log ≡ record { at = s + S.dd + 1; bytes = w.message } ∷ base → Why w a i fs log base

  abbrev pub SlotOk : World → Bool → ℕ → Slot → List Frame → (log base : List Note) → Type 0
  SlotOk w a i empty fs log base = Why w a i fs log base
  SlotOk w a i (held s false b) fs log base =
      Holding w.data_sent w.message a i s b fs log base × (w.now i ≤ s + S.dc) × (Full w.conf_sent → ⊥)
  SlotOk w a i (held s true b) fs log base =
      Holding w.data_sent w.message a i s b fs log base × (w.now i ≤ s + S.dd) × Some w.conf_sent

  abbrev pub ReceiverOk : World → Bool → ℕ → Receiver (two_m S) → (base : List Note) → Type 0
  ReceiverOk w a i r base = SlotOk w a i r.slot r.frames r.log base

  pub record Slots (w : World) (a : Bool) (base : ℕ → List Note) : Type 0 where
    pub sent_conf : Some w.conf_sent → Some w.data_sent
    pub flawed : T a → Flaw w
    pub each : (i : ℕ) → Live w i → ReceiverOk w a i (w.receiver i) (base i)
