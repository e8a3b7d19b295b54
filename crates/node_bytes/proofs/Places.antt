-- Numbers and rows at a place, byte by byte, as the code reads and stores them.
use mathlib.Core.Path.{◌≡◌, refl, sym, ap, ◌∙◌}
use mathlib.Core.List.{List, [], ◌∷◌, ◌++◌}
use Prim.Native.Nat.{ℕ, zero, suc, ◌+◌, ◌*◌, ◌≤◌}
use native.Mathlib.Nat.{zero-add}
use native.Mathlib.Omega.{arith}
use lib.ListN.{length, take, drop, length-take, length-drop}
use lib.Seq.{sets, sets-eq, drop-cons, drop-drop}
use Rattle.std.proofs.Common.{append_assoc}
use Rattle.wire.specs.Frames.{max_payload}
use Rattle.wire.specs.Delivered.{number_at}
use Rattle.node.specs.declared.slots.Slot.{Slot}
use Rattle.node_bytes.specs.Layout.{stream_at, payload_pending_at, data_reach_at, payload_at, slot_size}
use Rattle.node_bytes.specs.Decoding.{byte_at, bytes_at}
use Rattle.node_bytes.specs.Encoding.{key_row, state_row, reach_row, encode_slot}

-- the place that is k behind another: the code adds, and the definitions count
abbrev stepped : (k at : ℕ) → ℕ
stepped zero at = at
stepped (suc k) at = stepped k (suc at)

steps : (k at : ℕ) → k + at ≡ stepped k at
steps zero at = zero-add at
steps (suc k) at = let e : suc k + at ≡ k + suc at = omega arith in e ∙ steps k (suc at)

module _ (bytes : List ℕ) (at : ℕ) where
  pub two_here : byte_at bytes at + 256 * byte_at bytes (1 + at) ≡ number_at 2 bytes at
  two_here = rw (steps 1 at) (omega arith)

  pub four_here : byte_at bytes at + 256 * (byte_at bytes (1 + at) + 256 * (byte_at bytes (2 + at) + 256 * byte_at bytes (3 + at))) ≡ number_at 4 bytes at
  four_here = rw (steps 1 at, steps 2 at, steps 3 at) (omega arith)

-- a part of some bytes, read and written as one
pub part_length : (k : ℕ) (bytes : List ℕ) (at : ℕ) → k + at ≤ length bytes → length (take k (drop at bytes)) ≡ k
part_length k bytes at h = omega (arith, h, length-take k (drop at bytes), length-drop at bytes)

pub part_here : (k : ℕ) (bytes : List ℕ) (at : ℕ) → k + at ≤ length bytes → take k (drop at bytes) ≡ bytes_at k bytes at
part_here zero bytes at h = refl
part_here (suc k) bytes at h = rw (drop-cons bytes at 0 (omega arith)) (ap (λ (l : List ℕ). byte_at bytes at ∷ l) (part_here k bytes (suc at) (omega arith)))

pub part_stored : (out row part : List ℕ) (at k : ℕ) → part ≡ row → k ≡ length row → k + at ≤ length out
    → take at out ++ (part ++ drop k (drop at out)) ≡ sets out at row
part_stored out row part at k same e h =
    rw (drop-drop k at out, same, e) (sym (append_assoc (take at out) row _) ∙ sym (sets-eq row out at (omega arith)))

-- all bytes of a list
one_later : (k : ℕ) (b : ℕ) (bytes : List ℕ) (at : ℕ) → bytes_at k (b ∷ bytes) (suc at) ≡ bytes_at k bytes at
one_later zero b bytes at = refl
one_later (suc k) b bytes at = ap (λ (l : List ℕ). byte_at bytes at ∷ l) (one_later k b bytes (suc at))

pub all_bytes : (k : ℕ) (bytes : List ℕ) → length bytes ≡ k → bytes_at k bytes 0 ≡ bytes
all_bytes zero [] e = refl
all_bytes zero (b ∷ bytes) e = absurd (omega arith)
all_bytes (suc k) [] e = absurd (omega arith)
all_bytes (suc k) (b ∷ bytes) e = ap (λ (l : List ℕ). b ∷ l) (one_later k b bytes 0 ∙ all_bytes k bytes (omega arith))

-- a slot's four rows, each stored at its place
pub rows_stored : (out : List ℕ) (at : ℕ) (x : Slot) → length x.message.bytes ≡ max_payload
    → sets (sets (sets (sets out (stream_at + at) (key_row x)) (payload_pending_at + at) (state_row x)) (data_reach_at + at) (reach_row x.settings))
    (payload_at + at) x.message.bytes
    ≡ sets out at (encode_slot x)
unfolding encode_slot
rows_stored out at x eight =
    rw (steps stream_at at, steps payload_pending_at at, steps data_reach_at at, steps payload_at at)
    (ap (λ (l : List ℕ). sets out at (key_row x ++ state_row x ++ reach_row x.settings ++ l)) (sym (all_bytes max_payload x.message.bytes eight)))

-- and the rows of a slot, each copied to its place
pub rows_copied : (out bytes : List ℕ) (to from : ℕ)
    → sets (sets (sets (sets out (stream_at + to) (bytes_at 8 bytes (stream_at + from)))
    (payload_pending_at + to) (bytes_at 8 bytes (payload_pending_at + from)))
    (data_reach_at + to) (bytes_at 8 bytes (data_reach_at + from)))
    (payload_at + to) (bytes_at 8 bytes (payload_at + from))
    ≡ sets out to (bytes_at slot_size bytes from)
rows_copied out bytes to from =
    rw (
      steps stream_at to,
      steps payload_pending_at to,
      steps data_reach_at to,
      steps payload_at to,
      steps stream_at from,
      steps payload_pending_at from,
      steps data_reach_at from,
      steps payload_at from,
    )
