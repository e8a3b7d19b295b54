-- A module's frames of code 2 (aborts; in other classes, retransmissions) of one message, newest first: what happens to them, and
-- when one may be sent.
use Rattle.std.specs.Prelude.{ℕ, zero, suc, ◌⊎◌, Bool, true, false, not, List, [], ◌∷◌, T}
use Rattle.one_stream.specs.Sendings.{Bytes, Moment, Delays, Sent, never, resend, Some, Full, Within}

-- when it became pending, whether it was given out, its sendings, its payload
pub record Frame : Type 0 where
  pub since : Moment
  pub given : Bool
  pub sendings : Sent
  pub bytes : Bytes

abbrev pub new_frame : Moment → Bytes → Frame
new_frame now b = record { since = now; given = false; sendings = never; bytes = b }

-- a frame is caused; caused again while pending it is the same frame
abbrev pub add_frame : (caused pending : Bool) → Moment → Bytes → List Frame → List Frame
add_frame true false now b fs = new_frame now b ∷ fs
add_frame true true now b fs = fs
add_frame false p now b fs = fs

abbrev pub resent : Moment → Bool → Frame → Frame
resent now full f = record { since = f.since; given = f.given; sendings = resend now full f.sendings; bytes = f.bytes }

-- the frame at a place has one more sending
abbrev pub send_at : Moment → Bool → ℕ → List Frame → List Frame
send_at now full k [] = []
send_at now full zero (f ∷ fs) = resent now full f ∷ fs
send_at now full (suc k) (f ∷ fs) = f ∷ send_at now full k fs

abbrev pub bytes_at : ℕ → List Frame → Bytes
bytes_at k [] = []
bytes_at zero (f ∷ fs) = f.bytes
bytes_at (suc k) (f ∷ fs) = bytes_at k fs

abbrev pub given_out : Frame → Frame
given_out f = record { since = f.since; given = true; sendings = f.sendings; bytes = f.bytes }

-- the newest frame is given out
abbrev pub give_newest : List Frame → List Frame
give_newest [] = []
give_newest (f ∷ fs) = given_out f ∷ fs

abbrev pub Each : (Frame → Type 0) → List Frame → Type 0
Each P [] = Unit {0}
Each P (f ∷ fs) = P f × Each P fs

abbrev pub Any : (Frame → Type 0) → List Frame → Type 0
Any P [] = ⊥
Any P (f ∷ fs) = P f ⊎ Any P fs

-- the frame at the place has P
abbrev pub At : (Frame → Type 0) → ℕ → List Frame → Type 0
At P k [] = ⊥
At P zero (f ∷ fs) = P f
At P (suc k) (f ∷ fs) = At P k fs

abbrev pub NonEmpty : List Frame → Type 0
NonEmpty [] = ⊥
NonEmpty (f ∷ fs) = Unit {0}

-- the newest frame waits to be given out
abbrev pub Waiting : List Frame → Type 0
Waiting [] = ⊥
Waiting (f ∷ fs) = T (not f.given) × (Some f.sendings → ⊥)

-- a frame may be sent: it was given out, no sending of it was full, and its reach is not over
pub record MaySend (S : Delays) (now : Moment) (f : Frame) : Type 0 where
  pub out : T f.given
  pub not_full : Full f.sendings → ⊥
  pub reach : Within S.ra f.since now
