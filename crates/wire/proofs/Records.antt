-- The delivered record's length and the worked record; what writing leaves in an output, and how the writer comes to it.
use mathlib.Core.Path.{◌≡◌, refl}
use mathlib.Core.List.{List, [], ◌∷◌, ◌++◌}
use Prim.Native.Nat.{ℕ, ◌+◌, ◌/◌, ◌%◌, ◌≤◌, ◌<◌, min}
use native.Mathlib.Nat.{min_comm}
use native.Mathlib.Omega.{arith}
use borrow.Author.Tests.{le-leb, lt-leb}
use lib.ListN.{length, take, drop, length-append, length-take, length-drop}
use lib.Seq.{drop-drop}
use Rattle.std.proofs.lemmas.List.{take_min}
use Rattle.wire.specs.declared.ids.Stream.{Stream}
use Rattle.wire.specs.declared.reply.Reply.TheVariants.{Done}
use Rattle.wire.specs.Frames.{max_payload}
use Rattle.wire.specs.Delivered.{record_of, over, fitting, record_length}

-- a record is eight bytes longer than its payload
pub record_length_law : (s : Stream) (payload : List ℕ) → length (record_of s payload) ≡ 8 + length payload
unfolding record_of
record_length_law s payload = omega arith

pub record_length_agrees : (s : Stream) (payload : List ℕ) → length payload ≤ max_payload
    → record_length (length payload) ≡ record { reply = Done; length = length (record_of s payload) }
unfolding record_length
record_length_agrees s payload small = rw (le-leb _ _ small, record_length_law s payload)

-- the rules paper's example: stream 5 with payload 0A 0B
pub stream_5_record : record_of (record { 0 = 5 }) (0x0A ∷ 0x0B ∷ [])
    ≡ 0x08 ∷ 0x00 ∷ 0x01 ∷ 0x00 ∷ 0x05 ∷ 0x00 ∷ 0x00 ∷ 0x00 ∷ 0x0A ∷ 0x0B ∷ []
unfolding record_of
stream_5_record = refl

-- bytes that do not fit are not written, and those that do leave the length as it was
pub does_fit : (bytes out : List ℕ) → length bytes ≤ length out → fitting bytes out ≡ bytes
does_fit bytes out h = rw (le-leb _ _ h)

pub does_not_fit : (bytes out : List ℕ) → length out < length bytes → fitting bytes out ≡ []
does_not_fit bytes out h = rw (lt-leb _ _ h)

pub length_over : (bytes out : List ℕ) → length bytes ≤ length out → length (over bytes out) ≡ length out
length_over bytes out h = simp (length-append, length-drop) (omega arith)

-- as many bytes of a payload as it may have at most are its first eight
pub cut_at_eight : (payload : List ℕ) → take (min (length payload) max_payload) payload ≡ take max_payload payload
cut_at_eight payload = rw (min_comm (length payload) max_payload) (take_min max_payload payload)

pub cut_payload_length : (payload : List ℕ) → length (take max_payload payload) ≡ min (length payload) max_payload
cut_payload_length payload = omega (arith, length-take max_payload payload)

pub cut_length : (s : Stream) (payload : List ℕ) → length (record_of s (take max_payload payload)) ≡ 8 + min (length payload) max_payload
cut_length s payload = rw (record_length_law s (take max_payload payload), cut_payload_length payload)

-- the eight bytes before a payload of n bytes
abbrev pub header : Stream → ℕ → List ℕ
header s n = (6 + n) ∷ 0 ∷ 1 ∷ 0 ∷ s.0 % 256 ∷ s.0 / 256 % 256 ∷ s.0 / 65536 % 256 ∷ s.0 / 16777216 % 256 ∷ []

pub header_and_payload : (s : Stream) (payload : List ℕ) → length payload ≤ 8 → record_of s payload ≡ header s (length payload) ++ payload
unfolding record_of
header_and_payload s payload small =
    let low : (6 + length payload) % 256 ≡ 6 + length payload = omega arith in
    let high : (6 + length payload) / 256 % 256 ≡ 0 = omega arith in
    let third : s.0 / 256 / 256 % 256 ≡ s.0 / 65536 % 256 = omega arith in
    let fourth : s.0 / 256 / 256 / 256 % 256 ≡ s.0 / 16777216 % 256 = omega arith in
    rw (low, high, third, fourth)

-- the header stored, and the payload copied behind it, is the record over the output
pub stored : (s : Stream) (payload out : List ℕ) (n : ℕ) → length payload ≡ n → n ≤ 8
    → header s n ++ (payload ++ drop n (drop 8 out)) ≡ over (record_of s payload) out
stored s payload out n e small =
    rw (record_length_law s payload, header_and_payload s payload (omega (arith, e)), e, drop-drop n 8 out)

-- behind a stored header there is room for as many bytes as before
pub room_behind : (head out : List ℕ) (n : ℕ) → length head ≡ 8 → 8 + n ≤ length out → length (take n (drop 8 (head ++ drop 8 out))) ≡ n
room_behind head out n e room =
    omega (arith, e, room, length-take n (drop 8 (head ++ drop 8 out)), length-drop 8 (head ++ drop 8 out), length-append head (drop 8 out), length-drop 8 out)
