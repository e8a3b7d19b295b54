-- Pending frames of a slot are stored, and nothing else of the node changes.
use mathlib.Core.Path.{◌≡◌, refl, sym, ap, ◌∙◌}
use mathlib.Core.Logic.{◌⊎◌, inl, inr}
use mathlib.Core.Bool.{Bool, true, false, cond, not}
use mathlib.Core.List.{List}
use Prim.Native.Nat.{ℕ, ◌+◌, ◌≤◌, ◌<◌}
use native.Mathlib.Omega.{arith}
use lib.ListN.{length, set, length-set}
use lib.Seq.{get_or-set_same, get_or-set_other}
use lib.Dec.{eqb}
use Rattle.wire.specs.Delivered.{number_at}
use Rattle.wire.specs.Frames.{max_payload}
use Rattle.node.specs.declared.slots.Pending.{Pending}
use Rattle.node.specs.Slots.{frames, with_parts}
use Rattle.node.specs.Nodes.{slot_count}
use Rattle.node_bytes.specs.Layout.{stream_at, used_at, held_at, stamp_at, confirmed_at, len_at, role_at, class_at, payload_at}
use Rattle.node_bytes.specs.Layout.{payload_pending_at, confirmation_pending_at, abort_pending_at}
use Rattle.node_bytes.specs.Layout.{data_reach_at, confirm_delay_at, abort_reach_at, deliver_delay_at, slot_size, slot_start, node_size}
use Rattle.node_bytes.specs.Decoding.{byte_at, flag_at, slot_from, slot_at, decode}
use Rattle.node_bytes.specs.Encoding.{flag}
use Rattle.node_bytes.specs.Lent.{with_slot}
use Rattle.node_bytes.proofs.Elsewhere.{Outside, SameFrom, number_stays, bytes_stay}
use Rattle.node_bytes.proofs.SlotRoundTrip.{flag_back}
use Rattle.node_bytes.proofs.Stored.{decode_changed}

-- what a byte that was stored is as a flag
pub as_flag : {b c : ℕ} → b ≡ c → not (eqb b 0) ≡ not (eqb c 0)
as_flag e = ap (λ (b : ℕ). not (eqb b 0)) e

-- ── the three flags are new, and no other byte is ──
module _ (bytes after : List ℕ) (i : ℕ) (inside : i < slot_count) (p : Pending)
    (same : (j : ℕ) → (j < payload_pending_at + slot_start i) ⊎ (confirmed_at + slot_start i ≤ j) → byte_at after j ≡ byte_at bytes j)
    (payload_is : flag_at after (payload_pending_at + slot_start i) ≡ p.payload)
    (confirmation_is : flag_at after (confirmation_pending_at + slot_start i) ≡ p.confirmation)
    (abort_is : flag_at after (abort_pending_at + slot_start i) ≡ p.abort) where
  abbrev at : ℕ
  at = slot_start i

  part : (offset k : ℕ) → (offset + k ≤ payload_pending_at) ⊎ (confirmed_at ≤ offset) → SameFrom after bytes (offset + at) k
  part offset k (inl h) j l u = same j (inl (omega arith))
  part offset k (inr h) j l u = same j (inr (omega arith))

  byte_of : (offset : ℕ) → (offset + 1 ≤ payload_pending_at) ⊎ (confirmed_at ≤ offset) → byte_at after (offset + at) ≡ byte_at bytes (offset + at)
  byte_of offset h = part offset 1 h (offset + at) (omega arith) (omega arith)

  number_of : (k offset : ℕ) → (offset + k ≤ payload_pending_at) ⊎ (confirmed_at ≤ offset)
      → number_at k after (offset + at) ≡ number_at k bytes (offset + at)
  number_of k offset h = number_stays after bytes k (offset + at) (part offset k h)

  here : slot_at after i ≡ with_parts (slot_at bytes i) (slot_at bytes i).message p
  unfolding slot_from
  here =
      rw (
        number_of 4 stream_at (inl (omega arith)),
        byte_of used_at (inl (omega arith)),
        byte_of held_at (inl (omega arith)),
        number_of 2 stamp_at (inl (omega arith)),
        payload_is,
        confirmation_is,
        abort_is,
        byte_of confirmed_at (inr (omega arith)),
        byte_of len_at (inr (omega arith)),
        byte_of role_at (inr (omega arith)),
        byte_of class_at (inr (omega arith)),
        number_of 2 data_reach_at (inr (omega arith)),
        number_of 2 confirm_delay_at (inr (omega arith)),
        number_of 2 abort_reach_at (inr (omega arith)),
        number_of 2 deliver_delay_at (inr (omega arith)),
        bytes_stay after bytes max_payload (payload_at + at) (part payload_at max_payload (inr (omega arith))),
      )

  outside : (j : ℕ) → Outside at slot_size j → byte_at after j ≡ byte_at bytes j
  outside j (inl h) = same j (inl (omega arith))
  outside j (inr h) = same j (inr (omega arith))

  pub flags_decoded : decode after ≡ with_slot i (with_parts (slot_at bytes i) (slot_at bytes i).message p) (decode bytes)
  flags_decoded = decode_changed bytes after i _ inside here outside

-- ── a flag is stored where it changes ──
abbrev pub flagged : List ℕ → (at : ℕ) (old new : Bool) → List ℕ
flagged bytes at old new = cond new (cond (not old) (set bytes at 1) bytes) (cond old (set bytes at 0) bytes)

module _ (bytes : List ℕ) (at : ℕ) where
  pub flagged_length : (old new : Bool) → length (flagged bytes at old new) ≡ length bytes
  flagged_length true true = refl
  flagged_length true false = length-set bytes at 0
  flagged_length false true = length-set bytes at 1
  flagged_length false false = refl

  flagged_here : at < length bytes → (old new : Bool) → old ≡ flag_at bytes at → flag_at (flagged bytes at old new) at ≡ new
  flagged_here inside true true e = sym e
  flagged_here inside true false e = as_flag (get_or-set_same bytes at 0 0 inside)
  flagged_here inside false true e = as_flag (get_or-set_same bytes at 1 0 inside)
  flagged_here inside false false e = sym e

  flagged_elsewhere : (j : ℕ) → (j ≡ at → ⊥) → (old new : Bool) → byte_at (flagged bytes at old new) j ≡ byte_at bytes j
  flagged_elsewhere j other true true = refl
  flagged_elsewhere j other true false = get_or-set_other bytes at j 0 0 other
  flagged_elsewhere j other false true = get_or-set_other bytes at j 1 0 other
  flagged_elsewhere j other false false = refl

-- ── all three are ──
module _ (bytes : List ℕ) (i : ℕ) (whole : length bytes ≡ node_size) (inside : i < slot_count) (old new : Pending) where
  abbrev from : ℕ
  from = slot_start i

  abbrev one : List ℕ
  one = flagged bytes (payload_pending_at + from) old.payload new.payload

  abbrev two : List ℕ
  two = flagged one (confirmation_pending_at + from) old.confirmation new.confirmation

  abbrev pub pended : List ℕ
  pended = flagged two (abort_pending_at + from) old.abort new.abort

  one_length : length one ≡ length bytes
  one_length = flagged_length bytes (payload_pending_at + from) old.payload new.payload

  two_length : length two ≡ length bytes
  two_length = flagged_length one (confirmation_pending_at + from) old.confirmation new.confirmation ∙ one_length

  pub pended_length : length pended ≡ length bytes
  pended_length = flagged_length two (abort_pending_at + from) old.abort new.abort ∙ two_length

  past_payload : (j : ℕ) → (j ≡ payload_pending_at + from → ⊥) → byte_at one j ≡ byte_at bytes j
  past_payload j other = flagged_elsewhere bytes (payload_pending_at + from) j other old.payload new.payload

  past_confirmation : (j : ℕ) → (j ≡ confirmation_pending_at + from → ⊥) → byte_at two j ≡ byte_at one j
  past_confirmation j other = flagged_elsewhere one (confirmation_pending_at + from) j other old.confirmation new.confirmation

  past_abort : (j : ℕ) → (j ≡ abort_pending_at + from → ⊥) → byte_at pended j ≡ byte_at two j
  past_abort j other = flagged_elsewhere two (abort_pending_at + from) j other old.abort new.abort

  same_but_three : (j : ℕ) → (j < payload_pending_at + from) ⊎ (confirmed_at + from ≤ j) → byte_at pended j ≡ byte_at bytes j
  same_but_three j (inl h) = past_abort j (λ e. omega arith) ∙ past_confirmation j (λ e. omega arith) ∙ past_payload j (λ e. omega arith)
  same_but_three j (inr h) = past_abort j (λ e. omega arith) ∙ past_confirmation j (λ e. omega arith) ∙ past_payload j (λ e. omega arith)

  pub pended_decoded : old ≡ (slot_at bytes i).pending
      → decode pended ≡ with_slot i (with_parts (slot_at bytes i) (slot_at bytes i).message new) (decode bytes)
  unfolding slot_from
  pended_decoded e =
      let p = payload_pending_at + from in
      let c = confirmation_pending_at + from in
      let a = abort_pending_at + from in
      let payload : old.payload ≡ flag_at bytes p = ap (λ (x : Pending). x.payload) e in
      let confirmation : old.confirmation ≡ flag_at one c = ap (λ (x : Pending). x.confirmation) e ∙ sym (as_flag (past_payload c (λ e. omega arith))) in
      let abort : old.abort ≡ flag_at two a =
      ap (λ (x : Pending). x.abort) e ∙ sym (as_flag (past_confirmation a (λ e. omega arith) ∙ past_payload a (λ e. omega arith))) in
      flags_decoded bytes pended i inside new same_but_three
      (as_flag (past_abort p (λ e. omega arith) ∙ past_confirmation p (λ e. omega arith)) ∙ flagged_here bytes p (omega arith) old.payload new.payload payload)
      (as_flag (past_abort c (λ e. omega arith)) ∙ flagged_here one c (omega (arith, one_length)) old.confirmation new.confirmation confirmation)
      (flagged_here two a (omega (arith, two_length)) old.abort new.abort abort)

-- ── the abort alone is stored ──
module _ (bytes : List ℕ) (i : ℕ) (whole : length bytes ≡ node_size) (inside : i < slot_count) (abort : Bool) where
  abbrev start : ℕ
  start = slot_start i

  abbrev pub aborted : List ℕ
  aborted = set bytes (abort_pending_at + start) (flag abort)

  same_but_one : (j : ℕ) → (j ≡ abort_pending_at + start → ⊥) → byte_at aborted j ≡ byte_at bytes j
  same_but_one j other = get_or-set_other bytes (abort_pending_at + start) j (flag abort) 0 other

  same_but_abort : (j : ℕ) → (j < payload_pending_at + start) ⊎ (confirmed_at + start ≤ j) → byte_at aborted j ≡ byte_at bytes j
  same_but_abort j (inl h) = same_but_one j (λ e. omega arith)
  same_but_abort j (inr h) = same_but_one j (λ e. omega arith)

  pub aborted_decoded : decode aborted
      ≡ with_slot i
      (with_parts (slot_at bytes i) (slot_at bytes i).message (frames (slot_at bytes i).pending.payload (slot_at bytes i).pending.confirmation abort))
      (decode bytes)
  unfolding slot_from
  aborted_decoded =
      flags_decoded bytes aborted i inside _ same_but_abort (as_flag (same_but_one (payload_pending_at + start) (λ e. omega arith)))
      (as_flag (same_but_one (confirmation_pending_at + start) (λ e. omega arith)))
      (as_flag (get_or-set_same bytes (abort_pending_at + start) (flag abort) 0 (omega arith)) ∙ flag_back abort)

-- ── each is stored, whether it changes or not ──
module _ (bytes : List ℕ) (i : ℕ) (whole : length bytes ≡ node_size) (inside : i < slot_count) (p : Pending) where
  abbrev first : ℕ
  first = slot_start i

  abbrev with_payload : List ℕ
  with_payload = set bytes (payload_pending_at + first) (flag p.payload)

  abbrev with_confirmation : List ℕ
  with_confirmation = set with_payload (confirmation_pending_at + first) (flag p.confirmation)

  abbrev pub flags_set : List ℕ
  flags_set = set with_confirmation (abort_pending_at + first) (flag p.abort)

  pub flags_set_length : length flags_set ≡ length bytes
  flags_set_length = simp length-set

  back_payload : (j : ℕ) → (j ≡ payload_pending_at + first → ⊥) → byte_at with_payload j ≡ byte_at bytes j
  back_payload j other = get_or-set_other bytes (payload_pending_at + first) j (flag p.payload) 0 other

  back_confirmation : (j : ℕ) → (j ≡ confirmation_pending_at + first → ⊥) → byte_at with_confirmation j ≡ byte_at with_payload j
  back_confirmation j other = get_or-set_other with_payload (confirmation_pending_at + first) j (flag p.confirmation) 0 other

  back_abort : (j : ℕ) → (j ≡ abort_pending_at + first → ⊥) → byte_at flags_set j ≡ byte_at with_confirmation j
  back_abort j other = get_or-set_other with_confirmation (abort_pending_at + first) j (flag p.abort) 0 other

  same_but_flags : (j : ℕ) → (j < payload_pending_at + first) ⊎ (confirmed_at + first ≤ j) → byte_at flags_set j ≡ byte_at bytes j
  same_but_flags j (inl h) = back_abort j (λ e. omega arith) ∙ back_confirmation j (λ e. omega arith) ∙ back_payload j (λ e. omega arith)
  same_but_flags j (inr h) = back_abort j (λ e. omega arith) ∙ back_confirmation j (λ e. omega arith) ∙ back_payload j (λ e. omega arith)

  pub flags_set_decoded : decode flags_set ≡ with_slot i (with_parts (slot_at bytes i) (slot_at bytes i).message p) (decode bytes)
  flags_set_decoded =
      flags_decoded bytes flags_set i inside p same_but_flags
      (as_flag (back_abort (payload_pending_at + first) (λ e. omega arith) ∙ back_confirmation (payload_pending_at + first) (λ e. omega arith)
      ∙ get_or-set_same bytes (payload_pending_at + first) (flag p.payload) 0 (omega arith))
      ∙ flag_back p.payload)
      (as_flag (back_abort (confirmation_pending_at + first) (λ e. omega arith)
      ∙ get_or-set_same with_payload (confirmation_pending_at + first) (flag p.confirmation) 0 (simp length-set (omega arith)))
      ∙ flag_back p.confirmation)
      (as_flag (get_or-set_same with_confirmation (abort_pending_at + first) (flag p.abort) 0 (simp length-set (omega arith))) ∙ flag_back p.abort)
