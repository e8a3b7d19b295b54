-- The frame test: what is no frame, and which of its faults is answered.
use Rattle.std.specs.Prelude.{◌≡◌, ◌≢◌, Bool, true, not, ◌&&◌, ◌||◌, [], ◌∷◌, ℕ, ◌≤◌, ◌<◌, min, eqb, ltb}
use Rattle.wire.specs.declared.ids.BusId.{BusId}
use Rattle.wire.specs.declared.reply.Reply.{Reply}
use Rattle.wire.specs.declared.reply.Reply.TheVariants.{Done, IdentifierTooBig, DlcTooBig, PayloadLength, UnwantedPayload}
use Rattle.wire.specs.Identifiers.{max_bus_id, code_of}
use Rattle.wire.specs.Refusals.{Refusals}

-- a payload has at most this many bytes
abbrev pub max_payload : ℕ
max_payload = 8

-- the highest DLC
abbrev pub max_dlc : ℕ
max_dlc = 15

-- how many bytes a DLC means: as many as it says, and from 9 on eight
abbrev pub bytes_of_dlc : (dlc : ℕ) → ℕ
bytes_of_dlc dlc = min dlc max_payload

-- confirmations and aborts come without a payload
abbrev pub is_bare : BusId → Bool
is_bare id = eqb (code_of id) 1 || eqb (code_of id) 2

-- what is no frame, of a kind that comes bare, without a payload, or not
abbrev pub frame_refusals : (bare : Bool) → BusId → (dlc length : ℕ) → Refusals
frame_refusals bare id dlc length =
    (IdentifierTooBig, ltb max_bus_id id.0)
    ∷ (DlcTooBig, ltb max_dlc dlc)
    ∷ (PayloadLength, not (eqb length (bytes_of_dlc dlc)))
    ∷ (UnwantedPayload, bare && not (eqb dlc 0))
    ∷ []

-- what the reply of these tells (proofs/Frames.antt): the first fault of the four, or that there is none
pub data Tested (bare : Bool) (id : BusId) (dlc length : ℕ) : Reply → Type 0 where
  high_identifier : max_bus_id < id.0 → Tested bare id dlc length IdentifierTooBig
  high_dlc : id.0 ≤ max_bus_id → max_dlc < dlc → Tested bare id dlc length DlcTooBig
  other_length : id.0 ≤ max_bus_id → dlc ≤ max_dlc → length ≢ bytes_of_dlc dlc → Tested bare id dlc length PayloadLength
  unwanted : id.0 ≤ max_bus_id → dlc ≤ max_dlc → length ≡ bytes_of_dlc dlc → bare ≡ true → dlc ≢ 0 → Tested bare id dlc length UnwantedPayload
  faultless : id.0 ≤ max_bus_id → dlc ≤ max_dlc → length ≡ bytes_of_dlc dlc → (bare ≡ true → dlc ≡ 0) → Tested bare id dlc length Done
