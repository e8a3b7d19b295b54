-- The message and the pending frames of a slot are stored, and nothing else of the node changes; and hearing and a request change these alone
-- of a slot.
use mathlib.Core.Path.{◌≡◌, refl, sym, ap, ◌∙◌}
use mathlib.Core.Bool.{Bool, true, false, cond}
use mathlib.Core.Logic.{inl, inr}
use mathlib.Core.List.{List}
use Prim.Native.Nat.{ℕ, ◌+◌, ◌≤◌, ◌<◌}
use native.Mathlib.Omega.{arith}
use lib.ListN.{length, set, length-set}
use lib.Seq.{set-set, set-get_or, get_or-set_same, get_or-set_other}
use lib.Dec.{eqb}
use Rattle.wire.specs.Delivered.{number_at}
use Rattle.wire.specs.Frames.{max_payload}
use Rattle.node.specs.declared.slots.Message.{Message}
use Rattle.node.specs.declared.slots.Pending.{Pending}
use Rattle.node.specs.declared.slots.Slot.{Slot}
use Rattle.node.specs.Slots.{empty, with_parts, with_message}
use Rattle.node.specs.Nodes.{slot_count, with_slots}
use Rattle.node.specs.Request.{requested}
use Rattle.node.specs.Hear.{heard_by}
use Rattle.node_bytes.specs.Layout.{stream_at, used_at, held_at, stamp_at, confirmed_at, len_at, role_at, class_at, unread_at, payload_at}
use Rattle.node_bytes.specs.Layout.{payload_pending_at, confirmation_pending_at, abort_pending_at}
use Rattle.node_bytes.specs.Layout.{data_reach_at, confirm_delay_at, abort_reach_at, deliver_delay_at, slot_size, slot_start, node_size}
use Rattle.node_bytes.specs.Decoding.{byte_at, flag_at, slot_from, slot_at, decode}
use Rattle.node_bytes.specs.Encoding.{flag}
use Rattle.node_bytes.specs.Lent.{with_slot}
use Rattle.node_bytes.proofs.Elsewhere.{Outside, SameFrom, number_stays, bytes_stay}
use Rattle.node_bytes.proofs.SlotRoundTrip.{flag_back}
use Rattle.node_bytes.proofs.ByIndex.{decoded_slot}
use Rattle.node_bytes.proofs.Stored.{decode_changed, slot_there}
use Rattle.node_bytes.proofs.PendingStored.{as_flag}

-- ── what is stored anew, and is the same ──
module _ (bytes : List ℕ) (i : ℕ) (whole : length bytes ≡ node_size) (inside : i < slot_count) where
  abbrev at : ℕ
  at = slot_start i

  abbrev with_used : List ℕ
  with_used = set bytes (used_at + at) (flag (flag_at bytes (used_at + at)))

  abbrev pub anew : List ℕ
  anew = set with_used (unread_at + at) 0

  pub anew_length : length anew ≡ length bytes
  anew_length = simp length-set

  other_byte : (j : ℕ) → (j ≡ used_at + at → ⊥) → (j ≡ unread_at + at → ⊥) → byte_at anew j ≡ byte_at bytes j
  other_byte j not_used not_unread =
      get_or-set_other with_used (unread_at + at) j 0 0 not_unread ∙ get_or-set_other bytes (used_at + at) j _ 0 not_used

  used_is : flag_at anew (used_at + at) ≡ flag_at bytes (used_at + at)
  used_is =
      as_flag (get_or-set_other with_used (unread_at + at) (used_at + at) 0 0 (λ e. omega arith) ∙ get_or-set_same bytes (used_at + at) _ 0 (omega arith))
      ∙ flag_back (flag_at bytes (used_at + at))

  front : SameFrom anew bytes (stream_at + at) 4
  front j p q = other_byte j (λ e. omega arith) (λ e. omega arith)

  middle : (offset k : ℕ) → used_at < offset → offset + k ≤ unread_at → SameFrom anew bytes (offset + at) k
  middle offset k h l j p q = other_byte j (λ e. omega arith) (λ e. omega arith)

  behind : (offset k : ℕ) → unread_at < offset → SameFrom anew bytes (offset + at) k
  behind offset k h j p q = other_byte j (λ e. omega arith) (λ e. omega arith)

  byte_of : (offset : ℕ) → used_at < offset → offset < unread_at → byte_at anew (offset + at) ≡ byte_at bytes (offset + at)
  byte_of offset h l = middle offset 1 h (omega arith) (offset + at) (omega arith) (omega arith)

  number_of : (offset : ℕ) → unread_at < offset → number_at 2 anew (offset + at) ≡ number_at 2 bytes (offset + at)
  number_of offset h = number_stays anew bytes 2 (offset + at) (behind offset 2 h)

  here : slot_at anew i ≡ slot_at bytes i
  unfolding slot_from
  here =
      rw (
        number_stays anew bytes 4 (stream_at + at) front,
        used_is,
        byte_of held_at (omega arith) (omega arith),
        number_stays anew bytes 2 (stamp_at + at) (middle stamp_at 2 (omega arith) (omega arith)),
        byte_of payload_pending_at (omega arith) (omega arith),
        byte_of confirmation_pending_at (omega arith) (omega arith),
        byte_of abort_pending_at (omega arith) (omega arith),
        byte_of confirmed_at (omega arith) (omega arith),
        byte_of len_at (omega arith) (omega arith),
        byte_of role_at (omega arith) (omega arith),
        byte_of class_at (omega arith) (omega arith),
        number_of data_reach_at (omega arith),
        number_of confirm_delay_at (omega arith),
        number_of abort_reach_at (omega arith),
        number_of deliver_delay_at (omega arith),
        bytes_stay anew bytes max_payload (payload_at + at) (behind payload_at max_payload (omega arith)),
      )

  outside : (j : ℕ) → Outside at slot_size j → byte_at anew j ≡ byte_at bytes j
  outside j (inl h) = other_byte j (λ e. omega arith) (λ e. omega arith)
  outside j (inr h) = other_byte j (λ e. omega arith) (λ e. omega arith)

  pub anew_decoded : decode anew ≡ decode bytes
  anew_decoded =
      decode_changed bytes anew i (slot_at bytes i) inside here outside
      ∙ ap (λ (l : List Slot). with_slots l (decode bytes))
      (ap (set (decode bytes).slots i) (sym (decoded_slot bytes i empty inside)) ∙ set-get_or (decode bytes).slots i empty)

-- ── the message is stored, and then the pending frames ──
pub parts_decoded : (bytes between after : List ℕ) (i : ℕ) (m : Message) (p : Pending) → i < slot_count
    → decode between ≡ with_slot i (with_message m (slot_at bytes i)) (decode bytes)
    → decode after ≡ with_slot i (with_parts (slot_at between i) (slot_at between i).message p) (decode between)
    → decode after ≡ with_slot i (with_parts (slot_at bytes i) m p) (decode bytes)
parts_decoded bytes between after i m p inside messaged pended =
    let left = rw (slot_there bytes between i _ inside messaged, messaged) at pended in
    left ∙ ap (λ (l : List Slot). with_slots l (decode bytes)) (set-set (decode bytes).slots i _ _)

-- ── what hearing and a request make of a slot ──
-- y is x but for its message and its pending frames
abbrev pub DiffersInParts : (x y : Slot) → Type 0
DiffersInParts x y = with_parts x y.message y.pending ≡ y

either_differs : (x : Slot) {y z : Slot} (t : Bool) → DiffersInParts x y → DiffersInParts x z → DiffersInParts x (cond t y z)
either_differs x true p q = p
either_differs x false p q = q

pub heard_differs : (now code : ℕ) (payload : List ℕ) (x : Slot) → DiffersInParts x (heard_by now code payload x)
unfolding heard_by
heard_differs now code payload x =
    either_differs x (eqb code 0) refl
    (either_differs x (eqb code 1) (either_differs x x.message.held refl refl)
    (either_differs x (eqb code 2) (either_differs x x.message.held refl refl) refl))

pub requested_differs : (now : ℕ) (payload : List ℕ) (x : Slot) → DiffersInParts x (requested now payload x)
unfolding requested
requested_differs now payload x = refl
