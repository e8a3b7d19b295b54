-- What a node is written as are bytes.
use mathlib.Core.Bool.{Bool, true, false}
use mathlib.Core.List.{List, [], ◌∷◌, ◌++◌}
use Prim.Native.Nat.{ℕ, zero, suc, ◌/◌}
use native.Mathlib.Omega.{arith}
use Rattle.wire.specs.Frames.{max_payload}
use Rattle.wire.specs.Delivered.{little_endian, AreBytes}
use Rattle.node.specs.declared.slots.Slot.{Slot}
use Rattle.node.specs.Reachable.{All}
use Rattle.node_bytes.specs.Decoding.{bytes_at}
use Rattle.node_bytes.specs.Encoding.{flag, key_row, state_row, reach_row, payload_row, encode_slot, encode_slots, encode}
use Rattle.node_bytes.specs.Widths.{Fits8, SlotFits}
use Rattle.node_bytes.specs.Laws.{PayloadIsBytes, EncodedAreBytes}

-- each number of a list, one after the other
abbrev Low : List ℕ → Type 0
Low [] = Unit {0}
Low (b ∷ bytes) = Fits8 b × Low bytes

low_bytes : (bytes : List ℕ) → Low bytes → AreBytes bytes
low_bytes [] low i = omega arith
low_bytes (b ∷ bytes) low zero = low.0
low_bytes (b ∷ bytes) low (suc i) = low_bytes bytes low.1 i

both : (front back : List ℕ) → Low front → Low back → Low (front ++ back)
both [] back low high = high
both (b ∷ front) back low high = (low.0, both front back low.1 high)

number_low : (k n : ℕ) → Low (little_endian k n)
number_low zero n = tt
number_low (suc k) n = (omega arith, number_low k (n / 256))

some_low : (k : ℕ) (bytes : List ℕ) (at : ℕ) → AreBytes bytes → Low (bytes_at k bytes at)
some_low zero bytes at low = tt
some_low (suc k) bytes at low = (low at, some_low k bytes (suc at) low)

flag_low : (b : Bool) → Fits8 (flag b)
flag_low true = omega arith
flag_low false = omega arith

module _ (x : Slot) (fits : SlotFits x) (payload : PayloadIsBytes x) where
  key_low : Low (key_row x)
  key_low =
      let m = x.message in
      both (little_endian 4 x.stream.0) (flag x.used ∷ flag m.held ∷ little_endian 2 m.stamp) (number_low 4 x.stream.0)
      (flag_low x.used, (flag_low m.held, number_low 2 m.stamp))

  state_low : Low (state_row x)
  state_low =
      let p = x.pending in
      let s = x.settings in
      let numbers : Low (x.message.len ∷ s.role ∷ s.class ∷ 0 ∷ []) =
      (fits.message.len, (fits.settings.role, (fits.settings.class, (omega arith, tt)))) in
      (flag_low p.payload, (flag_low p.confirmation, (flag_low p.abort, (flag_low x.message.confirmed, numbers))))

  abbrev reach : List ℕ
  reach = reach_row x.settings

  abbrev payload_row_here : List ℕ
  payload_row_here = payload_row x.message

  reach_low : Low reach
  reach_low = (omega arith, (omega arith, (omega arith, (omega arith, (omega arith, (omega arith, (omega arith, (omega arith, tt))))))))

  slot_low : Low (encode_slot x)
  unfolding encode_slot
  slot_low =
      both (key_row x) (state_row x ++ reach ++ payload_row_here) key_low
      (both (state_row x) (reach ++ payload_row_here) state_low (both reach payload_row_here reach_low (some_low max_payload x.message.bytes 0 payload)))

slots_low : (xs : List Slot) → All SlotFits xs → All PayloadIsBytes xs → Low (encode_slots xs)
slots_low [] fits payloads = tt
slots_low (x ∷ xs) (fit, fits) (payload, payloads) = both (encode_slot x) (encode_slots xs) (slot_low x fit payload) (slots_low xs fits payloads)

pub encoded_are_bytes : EncodedAreBytes
unfolding encode
encoded_are_bytes n fits payloads =
    low_bytes (encode_slots n.slots ++ little_endian 2 n.counter)
    (both (encode_slots n.slots) (little_endian 2 n.counter) (slots_low n.slots fits.each payloads) (number_low 2 n.counter))
