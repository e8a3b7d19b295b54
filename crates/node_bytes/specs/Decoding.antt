-- The node that bytes are, whatever bytes they are: numbers have their lowest byte first, a byte is true unless it is 0, and a byte past the end is 0.
use Rattle.std.specs.Prelude.{ℕ, zero, suc, ◌+◌, Bool, not, List, [], ◌∷◌, get_or, eqb}
use Rattle.wire.specs.declared.settings.Settings.{Settings}
use Rattle.wire.specs.Settings.{settings}
use Rattle.wire.specs.Frames.{max_payload}
use Rattle.wire.specs.Delivered.{number_at}
use Rattle.node.specs.declared.slots.Message.{Message}
use Rattle.node.specs.declared.slots.Pending.{Pending}
use Rattle.node.specs.declared.slots.Slot.{Slot}
use Rattle.node.specs.declared.Node.{Node}
use Rattle.node.specs.Slots.{frames}
use Rattle.node.specs.Nodes.{slot_count}
use Rattle.node_bytes.specs.Layout.{stream_at, used_at, held_at, stamp_at, confirmed_at, len_at, role_at, class_at, payload_at}
use Rattle.node_bytes.specs.Layout.{payload_pending_at, confirmation_pending_at, abort_pending_at}
use Rattle.node_bytes.specs.Layout.{data_reach_at, confirm_delay_at, abort_reach_at, deliver_delay_at, slot_start, counter_at}

abbrev pub byte_at : List ℕ → (at : ℕ) → ℕ
byte_at bytes at = get_or bytes at 0

abbrev pub flag_at : List ℕ → (at : ℕ) → Bool
flag_at bytes at = not (eqb (byte_at bytes at) 0)

-- k bytes from a place on
abbrev pub bytes_at : (k : ℕ) → List ℕ → (at : ℕ) → List ℕ
bytes_at zero bytes at = []
bytes_at (suc k) bytes at = byte_at bytes at ∷ bytes_at k bytes (suc at)

-- ── a slot whose first byte stands at a place ──
module _ (bytes : List ℕ) (at : ℕ) where
  abbrev pub settings_from : Settings
  settings_from =
      settings (byte_at bytes (role_at + at)) (byte_at bytes (class_at + at))
      (number_at 2 bytes (data_reach_at + at)) (number_at 2 bytes (confirm_delay_at + at))
      (number_at 2 bytes (abort_reach_at + at)) (number_at 2 bytes (deliver_delay_at + at))

  abbrev pub message_from : Message
  message_from =
      record {
        stamp = number_at 2 bytes (stamp_at + at);
        len = byte_at bytes (len_at + at);
        held = flag_at bytes (held_at + at);
        confirmed = flag_at bytes (confirmed_at + at);
        bytes = bytes_at max_payload bytes (payload_at + at);
      }

  abbrev pub pending_from : Pending
  pending_from =
      frames (flag_at bytes (payload_pending_at + at)) (flag_at bytes (confirmation_pending_at + at)) (flag_at bytes (abort_pending_at + at))

  unfoldable pub slot_from : Slot
  slot_from =
      record {
        stream = record { 0 = number_at 4 bytes (stream_at + at) };
        settings = settings_from;
        message = message_from;
        pending = pending_from;
        used = flag_at bytes (used_at + at);
      }

-- ── the node ──
abbrev pub slot_at : List ℕ → (i : ℕ) → Slot
slot_at bytes i = slot_from bytes (slot_start i)

-- k slots, from slot i on
unfoldable pub slots_at : (k : ℕ) → List ℕ → (i : ℕ) → List Slot
slots_at zero bytes i = []
slots_at (suc k) bytes i = slot_at bytes i ∷ slots_at k bytes (suc i)

unfoldable pub decode : List ℕ → Node
decode bytes = record { slots = slots_at slot_count bytes 0; counter = number_at 2 bytes counter_at }
