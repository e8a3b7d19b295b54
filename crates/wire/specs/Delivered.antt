-- The delivered record: its bytes, its length, what writing it leaves in a lent output, and what is read at a place of some bytes.
use Rattle.std.specs.Prelude.{ℕ, zero, suc, ◌+◌, ◌-◌, ◌*◌, ◌/◌, ◌%◌, ◌≤◌, ◌<◌, Bool, true, false, cond, not, ◌||◌, eqb, leb, ltb}
use Rattle.std.specs.Prelude.{List, [], ◌∷◌, ◌++◌, length, get_or, take, drop, Option, None, Some, Result, Ok, Err}
use Rattle.wire.specs.declared.reply.Reply.{Reply}
use Rattle.wire.specs.declared.reply.Reply.TheVariants.{Done, BadLength}
use Rattle.wire.specs.declared.ids.Stream.{Stream}
use Rattle.wire.specs.declared.delivered.RecordAt.{RecordAt}
use Rattle.wire.specs.declared.delivered.Fault.{Fault}
use Rattle.wire.specs.declared.delivered.Fault.TheVariants.{Cut, OtherKind, OtherLength}
use Rattle.wire.specs.Frames.{max_payload}

-- n as k bytes, the lowest first
abbrev pub little_endian : (k n : ℕ) → List ℕ
little_endian zero n = []
little_endian (suc k) n = n % 256 ∷ little_endian k (n / 256)

abbrev pub delivered_kind : ℕ
delivered_kind = 1

-- length (of what follows it), kind, stream, payload
unfoldable pub record_of : Stream → List ℕ → List ℕ
record_of s payload = little_endian 2 (6 + length payload) ++ little_endian 2 delivered_kind ++ little_endian 4 s.0 ++ payload

-- an output after these bytes were written to its front
abbrev pub over : List ℕ → List ℕ → List ℕ
over bytes out = bytes ++ drop (length bytes) out

-- the bytes, or none where the output is too short for them
abbrev pub fitting : List ℕ → List ℕ → List ℕ
fitting bytes out = cond (leb (length bytes) (length out)) bytes []

-- a reply, and the length where it is Done
pub record RecordLength : Type 0 where
  pub reply : Reply
  pub length : ℕ

-- the whole record's length
unfoldable pub record_length : ℕ → RecordLength
record_length payload =
    cond (leb payload max_payload)
    (record { reply = Done; length = 8 + payload })
    (record { reply = BadLength; length = 0 })

-- ── reading ──
-- the number that k bytes hold from a place on, the lowest first
abbrev pub number_at : (k : ℕ) → List ℕ → (at : ℕ) → ℕ
number_at zero bytes at = 0
number_at (suc k) bytes at = get_or bytes at 0 + 256 * number_at k bytes (suc at)

-- the bytes that follow the length of a record at this place, as it says itself
abbrev pub following : List ℕ → ℕ → ℕ
following bytes at = number_at 2 bytes at

-- fewer than four bytes are left, or fewer than the length says
abbrev pub is_cut : List ℕ → ℕ → Bool
is_cut bytes at = ltb (length bytes - at) 4 || ltb (length bytes - at) (2 + following bytes at)

-- kind and stream follow the length, and a payload of at most eight bytes
abbrev pub other_length : ℕ → Bool
other_length n = ltb n 6 || ltb (6 + max_payload) n

-- what stands at a place of some bytes: a record, or none and why; where there is none, every number is 0
pub record ReadAt : Type 0 where
  pub ok : Bool
  pub fault : Option Fault
  pub stream : Stream
  -- where the payload starts, and how long it is
  pub payload : ℕ
  pub length : ℕ
  -- where the record ends, and the next may start
  pub next : ℕ

-- a payload that starts here, and the record that ends with it
abbrev pub record_found : Stream → (payload length : ℕ) → ReadAt
record_found s payload length =
    record { ok = true; fault = None; stream = s; payload = payload; length = length; next = payload + length }

abbrev pub no_record : Fault → ReadAt
no_record fault = record { ok = false; fault = Some fault; stream = record { 0 = 0 }; payload = 0; length = 0; next = 0 }

-- the record at a place of some bytes, or why there is none: the first fault decides
unfoldable pub record_at : List ℕ → ℕ → ReadAt
record_at bytes at =
    cond (is_cut bytes at) (no_record Cut)
    (cond (not (eqb (number_at 2 bytes (2 + at)) delivered_kind)) (no_record OtherKind)
    (cond (other_length (following bytes at)) (no_record OtherLength)
    (record_found (record { 0 = number_at 4 bytes (4 + at) }) (8 + at) (following bytes at - 6))))

-- as it is answered: the record, or the fault
abbrev pub the_record : ReadAt → RecordAt
the_record r = record { stream = r.stream; payload = r.payload; length = r.length; next = r.next }

abbrev pub or_fault : RecordAt → Option Fault → Result RecordAt Fault
or_fault r None = Ok r
or_fault r (Some fault) = Err fault

abbrev pub as_read : ReadAt → Result RecordAt Fault
as_read r = or_fault (the_record r) r.fault

-- ── one after the other ──
-- messages, each a stream and a payload, as records
abbrev pub records_of : List (Stream × List ℕ) → List ℕ
records_of [] = []
records_of ((s, payload) ∷ messages) = record_of s payload ++ records_of messages

abbrev pub message_in : List ℕ → ReadAt → Stream × List ℕ
message_in bytes r = (r.stream, take r.length (drop r.payload bytes))

-- the messages read from a place on, so many at most, up to the first that cannot be read
abbrev pub messages_at : (most : ℕ) → List ℕ → (at : ℕ) → List (Stream × List ℕ)
messages_at zero bytes at = []
messages_at (suc most) bytes at =
    cond (record_at bytes at).ok (message_in bytes (record_at bytes at) ∷ messages_at most bytes (record_at bytes at).next) []

-- messages that the writer can write
pub data Writable : List (Stream × List ℕ) → Type 0 where
  no_message : Writable []
  one_more : {s : Stream} {payload : List ℕ} {messages : List (Stream × List ℕ)} → s.0 < 4294967296 → length payload ≤ max_payload
      → Writable messages → Writable ((s, payload) ∷ messages)

-- as every lent slice of u8 is
abbrev pub AreBytes : List ℕ → Type 0
AreBytes bytes = (i : ℕ) → get_or bytes i 0 < 256
