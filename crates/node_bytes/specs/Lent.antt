-- What is read of a lent buffer, and what a store leaves in it, for every buffer and every index: one of another length than a node's is none, and
-- neither is a slot past the last; these read as zeros and are left as they are.
use Rattle.std.specs.Prelude.{ℕ, Bool, cond, ◌&&◌, List, length, set, eqb, ltb}
use Rattle.std.proofs.lemmas.List.Edits.{sets}
use Rattle.wire.specs.declared.reply.Reply.{Reply}
use Rattle.wire.specs.declared.reply.Reply.TheVariants.{Done, BadLength}
use Rattle.wire.specs.Delivered.{little_endian, number_at}
use Rattle.node.specs.declared.slots.Slot.{Slot}
use Rattle.node.specs.declared.Node.{Node}
use Rattle.node.specs.Slots.{empty}
use Rattle.node.specs.Nodes.{slot_count, fresh, with_slots}
use Rattle.node_bytes.specs.Layout.{slot_start, counter_at, node_size}
use Rattle.node_bytes.specs.Decoding.{slot_at}
use Rattle.node_bytes.specs.Encoding.{encode_slot, encode}

abbrev pub is_node : List ℕ → Bool
is_node bytes = eqb (length bytes) node_size

abbrev pub is_slot : List ℕ → (i : ℕ) → Bool
is_slot bytes i = is_node bytes && ltb i slot_count

-- ── reading ──
unfoldable pub read_slot : List ℕ → (i : ℕ) → Slot
read_slot bytes i = cond (is_slot bytes i) (slot_at bytes i) empty

unfoldable pub read_counter : List ℕ → ℕ
read_counter bytes = cond (is_node bytes) (number_at 2 bytes counter_at) 0

-- ── storing ──
unfoldable pub store_slot : (i : ℕ) → Slot → List ℕ → List ℕ
store_slot i x bytes = cond (is_slot bytes i) (sets bytes (slot_start i) (encode_slot x)) bytes

unfoldable pub store_counter : (counter : ℕ) → List ℕ → List ℕ
store_counter counter bytes = cond (is_node bytes) (sets bytes counter_at (little_endian 2 counter)) bytes

-- ── the fresh node ──
unfoldable pub fresh_reply : List ℕ → Reply
fresh_reply bytes = cond (is_node bytes) Done BadLength

unfoldable pub fresh_in : List ℕ → List ℕ
fresh_in bytes = cond (is_node bytes) (encode fresh) bytes

-- ── the same of a node ──
abbrev pub with_slot : (i : ℕ) → Slot → Node → Node
with_slot i x n = with_slots (set n.slots i x) n

abbrev pub with_counter : (counter : ℕ) → Node → Node
with_counter counter n = record { slots = n.slots; counter = counter }
