-- A slot that was written as bytes is read from them, whatever stands around them.
use mathlib.Core.Path.{◌≡◌, refl, ◌∙◌}
use mathlib.Core.Bool.{Bool, true, false, not}
use mathlib.Core.List.{List, ◌++◌}
use Prim.Native.Nat.{ℕ, zero, suc, ◌+◌}
use native.Mathlib.Omega.{arith}
use lib.ListN.{length}
use lib.Dec.{eqb}
use Rattle.wire.specs.Frames.{max_payload}
use Rattle.wire.specs.Delivered.{little_endian, number_at}
use Rattle.wire.proofs.Reading.{behind, number_behind}
use Rattle.node.specs.declared.slots.Slot.{Slot}
use Rattle.node_bytes.specs.Layout.{stream_at, used_at, held_at, stamp_at, confirmed_at, len_at, role_at, class_at, payload_at}
use Rattle.node_bytes.specs.Layout.{payload_pending_at, confirmation_pending_at, abort_pending_at}
use Rattle.node_bytes.specs.Layout.{data_reach_at, confirm_delay_at, abort_reach_at, deliver_delay_at}
use Rattle.node_bytes.specs.Decoding.{byte_at, flag_at, bytes_at, slot_from}
use Rattle.node_bytes.specs.Encoding.{flag, encode_slot}
use Rattle.node_bytes.specs.Widths.{Fits16, SlotFits}
use Rattle.node_bytes.proofs.Places.{all_bytes}

pub flag_back : (b : Bool) → not (eqb (flag b) 0) ≡ b
flag_back true = refl
flag_back false = refl

bytes_behind : (k : ℕ) (before bytes : List ℕ) (i : ℕ) → bytes_at k (before ++ bytes) (i + length before) ≡ bytes_at k bytes i
bytes_behind zero before bytes i = refl
bytes_behind (suc k) before bytes i =
    let e : suc (i + length before) ≡ suc i + length before = omega arith in
    rw (behind before bytes i, e, bytes_behind k before bytes (suc i))

module _ (before rest : List ℕ) (x : Slot) (fits : SlotFits x) where
  abbrev own : List ℕ
  own = encode_slot x ++ rest

  abbrev all : List ℕ
  all = before ++ own

  abbrev at : ℕ
  at = length before

  flag_of : (offset : ℕ) (b : Bool) → byte_at own offset ≡ flag b → flag_at all (offset + at) ≡ b
  flag_of offset b e = rw (behind before own offset, e) (flag_back b)

  two_of : (offset n : ℕ) → Fits16 n → number_at 2 own offset ≡ number_at 2 (little_endian 2 n) 0 → number_at 2 all (offset + at) ≡ n
  two_of offset n fit e = number_behind 2 before own offset ∙ e ∙ omega arith

  of_stream : number_at 4 all (stream_at + at) ≡ x.stream.0
  unfolding encode_slot
  of_stream = number_behind 4 before own stream_at ∙ omega (arith, fits.stream)

  of_payload : bytes_at max_payload all (payload_at + at) ≡ x.message.bytes
  unfolding encode_slot
  of_payload = bytes_behind max_payload before own payload_at ∙ all_bytes max_payload x.message.bytes fits.message.eight_bytes

  pub slot_back : slot_from all at ≡ x
  unfolding slot_from encode_slot
  slot_back =
      rw (
        of_stream,
        flag_of used_at x.used refl,
        flag_of held_at x.message.held refl,
        two_of stamp_at x.message.stamp fits.message.stamp refl,
        flag_of payload_pending_at x.pending.payload refl,
        flag_of confirmation_pending_at x.pending.confirmation refl,
        flag_of abort_pending_at x.pending.abort refl,
        flag_of confirmed_at x.message.confirmed refl,
        behind before own len_at,
        behind before own role_at,
        behind before own class_at,
        two_of data_reach_at x.settings.rd fits.settings.rd refl,
        two_of confirm_delay_at x.settings.dc fits.settings.dc refl,
        two_of abort_reach_at x.settings.ra fits.settings.ra refl,
        two_of deliver_delay_at x.settings.dd fits.settings.dd refl,
        of_payload,
      )
