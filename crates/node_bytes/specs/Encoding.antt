-- A node as bytes: a slot is four rows of eight.
use Rattle.std.specs.Prelude.{ℕ, Bool, cond, List, [], ◌∷◌, ◌++◌}
use Rattle.wire.specs.declared.settings.Settings.{Settings}
use Rattle.wire.specs.Frames.{max_payload}
use Rattle.wire.specs.Delivered.{little_endian}
use Rattle.node.specs.declared.slots.Message.{Message}
use Rattle.node.specs.declared.slots.Slot.{Slot}
use Rattle.node.specs.declared.Node.{Node}
use Rattle.node_bytes.specs.Decoding.{bytes_at}

abbrev pub flag : Bool → ℕ
flag b = cond b 1 0

abbrev pub key_row : Slot → List ℕ
key_row x = little_endian 4 x.stream.0 ++ flag x.used ∷ flag x.message.held ∷ little_endian 2 x.message.stamp

abbrev pub state_row : Slot → List ℕ
state_row x =
    flag x.pending.payload ∷ flag x.pending.confirmation ∷ flag x.pending.abort ∷ flag x.message.confirmed
    ∷ x.message.len ∷ x.settings.role ∷ x.settings.class ∷ 0 ∷ []

abbrev pub reach_row : Settings → List ℕ
reach_row s = little_endian 2 s.rd ++ little_endian 2 s.dc ++ little_endian 2 s.ra ++ little_endian 2 s.dd

-- eight bytes of a message with fewer too
abbrev pub payload_row : Message → List ℕ
payload_row m = bytes_at max_payload m.bytes 0

unfoldable pub encode_slot : Slot → List ℕ
encode_slot x = key_row x ++ state_row x ++ reach_row x.settings ++ payload_row x.message

abbrev pub encode_slots : List Slot → List ℕ
encode_slots [] = []
encode_slots (x ∷ xs) = encode_slot x ++ encode_slots xs

unfoldable pub encode : Node → List ℕ
encode n = encode_slots n.slots ++ little_endian 2 n.counter
