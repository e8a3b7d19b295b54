-- The message of a slot is stored, and nothing else of the node changes.
use mathlib.Core.Path.{◌≡◌, refl, sym, ap, ◌∙◌}
use mathlib.Core.Logic.{inl, inr}
use mathlib.Core.List.{List, [], ◌∷◌}
use Prim.Native.Nat.{ℕ, suc, ◌+◌, ◌/◌, ◌%◌, ◌≤◌, ◌<◌}
use native.Mathlib.Omega.{arith}
use lib.ListN.{length, set, length-set}
use lib.Seq.{sets, length-sets, get_or-set_same, get_or-set_other}
use Rattle.wire.specs.Delivered.{little_endian, number_at}
use Rattle.wire.specs.Frames.{max_payload}
use Rattle.node.specs.declared.slots.Message.{Message}
use Rattle.node.specs.Slots.{with_message}
use Rattle.node.specs.Nodes.{slot_count}
use Rattle.node_bytes.specs.Layout.{stream_at, used_at, held_at, stamp_at, confirmed_at, len_at, role_at, class_at, payload_at}
use Rattle.node_bytes.specs.Layout.{payload_pending_at, confirmation_pending_at, abort_pending_at}
use Rattle.node_bytes.specs.Layout.{data_reach_at, confirm_delay_at, abort_reach_at, deliver_delay_at, slot_size, slot_start, node_size}
use Rattle.node_bytes.specs.Decoding.{byte_at, bytes_at, slot_from, slot_at, decode}
use Rattle.node_bytes.specs.Encoding.{flag}
use Rattle.node_bytes.specs.Lent.{with_slot}
use Rattle.node_bytes.specs.Widths.{Fits16, MessageFits}
use Rattle.node_bytes.proofs.Elsewhere.{Outside, byte_elsewhere, number_stays}
use Rattle.node_bytes.proofs.SlotRoundTrip.{flag_back}
use Rattle.node_bytes.proofs.Stored.{decode_changed}

-- what was stored is read back
number_stored : (bytes : List ℕ) (at n : ℕ) → at + 2 ≤ length bytes → Fits16 n → number_at 2 (sets bytes at (little_endian 2 n)) at ≡ n
number_stored bytes at n h fits =
    let low = get_or-set_other (set bytes at (n % 256)) (suc at) at (n / 256 % 256) 0 (λ e. omega arith) ∙ get_or-set_same bytes at (n % 256) 0 (omega arith) in
    let high = get_or-set_same (set bytes at (n % 256)) (suc at) (n / 256 % 256) 0 (simp length-set (omega arith)) in
    rw (low, high) (omega arith)

bytes_stored : (bytes stored : List ℕ) (at : ℕ) → at + length stored ≤ length bytes → bytes_at (length stored) (sets bytes at stored) at ≡ stored
bytes_stored bytes [] at h = refl
bytes_stored bytes (b ∷ stored) at h =
    let first = byte_elsewhere (set bytes at b) stored (suc at) at (inl (omega arith)) ∙ get_or-set_same bytes at b 0 (omega arith) in
    rw first (ap (λ (l : List ℕ). b ∷ l) (bytes_stored (set bytes at b) stored (suc at) (simp length-set (omega arith))))

module _ (bytes : List ℕ) (i : ℕ) (whole : length bytes ≡ node_size) (inside : i < slot_count) (m : Message) (fits : MessageFits m) where
  abbrev at : ℕ
  at = slot_start i

  abbrev with_held : List ℕ
  with_held = set bytes (held_at + at) (flag m.held)

  abbrev with_stamp : List ℕ
  with_stamp = sets with_held (stamp_at + at) (little_endian 2 m.stamp)

  abbrev with_confirmed : List ℕ
  with_confirmed = set with_stamp (confirmed_at + at) (flag m.confirmed)

  abbrev with_len : List ℕ
  with_len = set with_confirmed (len_at + at) m.len

  abbrev pub messaged : List ℕ
  messaged = sets with_len (payload_at + at) m.bytes

  pub messaged_length : length messaged ≡ length bytes
  messaged_length = simp (length-set, length-sets)

  -- ── back through the stores, as far as they leave a byte alone ──
  module _ (j : ℕ) (o : Outside (payload_at + at) max_payload j) where
    past_payload : byte_at messaged j ≡ byte_at with_len j
    past_payload = byte_elsewhere with_len m.bytes (payload_at + at) j (rw fits.eight_bytes o)

    past_len : (j ≡ len_at + at → ⊥) → byte_at messaged j ≡ byte_at with_confirmed j
    past_len other = past_payload ∙ get_or-set_other with_confirmed (len_at + at) j m.len 0 other

    module _ (not_len : j ≡ len_at + at → ⊥) (not_confirmed : j ≡ confirmed_at + at → ⊥) where
      past_confirmed : byte_at messaged j ≡ byte_at with_stamp j
      past_confirmed = past_len not_len ∙ get_or-set_other with_stamp (confirmed_at + at) j (flag m.confirmed) 0 not_confirmed

      module _ (p : Outside (stamp_at + at) 2 j) where
        past_stamp : byte_at messaged j ≡ byte_at with_held j
        past_stamp = past_confirmed ∙ byte_elsewhere with_held (little_endian 2 m.stamp) (stamp_at + at) j p

        past_held : (j ≡ held_at + at → ⊥) → byte_at messaged j ≡ byte_at bytes j
        past_held other = past_stamp ∙ get_or-set_other bytes (held_at + at) j (flag m.held) 0 other

  -- ── what stays ──
  front : (j : ℕ) → j < held_at + at → byte_at messaged j ≡ byte_at bytes j
  front j h = past_held j (inl (omega arith)) (λ e. omega arith) (λ e. omega arith) (inl (omega arith)) (λ e. omega arith)

  middle : (j : ℕ) → payload_pending_at + at ≤ j → j < confirmed_at + at → byte_at messaged j ≡ byte_at bytes j
  middle j h l = past_held j (inl (omega arith)) (λ e. omega arith) (λ e. omega arith) (inr (omega arith)) (λ e. omega arith)

  later : (j : ℕ) → role_at + at ≤ j → j < payload_at + at → byte_at messaged j ≡ byte_at bytes j
  later j h l = past_held j (inl (omega arith)) (λ e. omega arith) (λ e. omega arith) (inr (omega arith)) (λ e. omega arith)

  behind : (j : ℕ) → slot_size + at ≤ j → byte_at messaged j ≡ byte_at bytes j
  behind j h = past_held j (inr (omega arith)) (λ e. omega arith) (λ e. omega arith) (inr (omega arith)) (λ e. omega arith)

  number_later : (offset : ℕ) → role_at ≤ offset → offset + 2 ≤ payload_at → number_at 2 messaged (offset + at) ≡ number_at 2 bytes (offset + at)
  number_later offset h l = number_stays messaged bytes 2 (offset + at) (λ j p q. later j (omega arith) (omega arith))

  -- ── what is new ──
  held_is : byte_at messaged (held_at + at) ≡ flag m.held
  held_is =
      past_stamp (held_at + at) (inl (omega arith)) (λ e. omega arith) (λ e. omega arith) (inl (omega arith))
      ∙ get_or-set_same bytes (held_at + at) (flag m.held) 0 (omega arith)

  stamp_is : number_at 2 messaged (stamp_at + at) ≡ m.stamp
  stamp_is =
      number_stays messaged with_stamp 2 (stamp_at + at) (λ j p q. past_confirmed j (inl (omega arith)) (λ e. omega arith) (λ e. omega arith))
      ∙ number_stored with_held (stamp_at + at) m.stamp (simp length-set (omega arith)) fits.stamp

  confirmed_is : byte_at messaged (confirmed_at + at) ≡ flag m.confirmed
  confirmed_is =
      past_len (confirmed_at + at) (inl (omega arith)) (λ e. omega arith)
      ∙ get_or-set_same with_stamp (confirmed_at + at) (flag m.confirmed) 0 (simp length-set (omega arith))

  len_is : byte_at messaged (len_at + at) ≡ m.len
  len_is =
      past_payload (len_at + at) (inl (omega arith))
      ∙ get_or-set_same with_confirmed (len_at + at) m.len 0 (simp length-set (omega arith))

  payload_is : bytes_at max_payload messaged (payload_at + at) ≡ m.bytes
  payload_is =
      ap (λ (k : ℕ). bytes_at k messaged (payload_at + at)) (sym fits.eight_bytes)
      ∙ bytes_stored with_len m.bytes (payload_at + at) (simp length-set (omega (arith, fits.eight_bytes)))

  messaged_here : slot_at messaged i ≡ with_message m (slot_at bytes i)
  unfolding slot_from
  messaged_here =
      rw (
        number_stays messaged bytes 4 (stream_at + at) (λ j p q. front j (omega arith)),
        front (used_at + at) (omega arith),
        held_is,
        stamp_is,
        middle (payload_pending_at + at) (omega arith) (omega arith),
        middle (confirmation_pending_at + at) (omega arith) (omega arith),
        middle (abort_pending_at + at) (omega arith) (omega arith),
        confirmed_is,
        flag_back m.held,
        flag_back m.confirmed,
        len_is,
        later (role_at + at) (omega arith) (omega arith),
        later (class_at + at) (omega arith) (omega arith),
        number_later data_reach_at (omega arith) (omega arith),
        number_later confirm_delay_at (omega arith) (omega arith),
        number_later abort_reach_at (omega arith) (omega arith),
        number_later deliver_delay_at (omega arith) (omega arith),
        payload_is,
      )

  others : (j : ℕ) → Outside at slot_size j → byte_at messaged j ≡ byte_at bytes j
  others j (inl h) = front j (omega arith)
  others j (inr h) = behind j (omega arith)

  pub messaged_decoded : decode messaged ≡ with_slot i (with_message m (slot_at bytes i)) (decode bytes)
  messaged_decoded = decode_changed bytes messaged i _ inside messaged_here others
