-- THE LAWS OF THE BYTES, which the calls on a lent node cite.
use Rattle.std.specs.Prelude.{ℕ, ◌≡◌, true, List, length, get_or}
use Rattle.wire.specs.Delivered.{AreBytes}
use Rattle.node.specs.declared.slots.Slot.{Slot}
use Rattle.node.specs.declared.Node.{Node}
use Rattle.node.specs.Nodes.{fresh}
use Rattle.node.specs.Clock.{rolled}
use Rattle.node.specs.Calls.{Call, after}
use Rattle.node.specs.Reachable.{All}
use Rattle.node_bytes.specs.Decoding.{decode}
use Rattle.node_bytes.specs.Encoding.{encode}
use Rattle.node_bytes.specs.Lent.{is_node, is_slot, read_slot, read_counter, store_slot, store_counter, fresh_in, with_slot, with_counter}
use Rattle.node_bytes.specs.Widths.{Fits16, SlotFits, NodeFits}

-- ── there and back ──
-- a node that fits its fields is its bytes' node
abbrev pub RoundTrip : Type 0
RoundTrip = (n : Node) → NodeFits n → decode (encode n) ≡ n

-- and these are as many as a node has
abbrev pub EncodedIsNode : Type 0
EncodedIsNode = (n : Node) → NodeFits n → is_node (encode n) ≡ true

-- each of them below 256, where the messages' bytes are
abbrev pub PayloadIsBytes : Slot → Type 0
PayloadIsBytes x = AreBytes x.message.bytes

abbrev pub EncodedAreBytes : Type 0
EncodedAreBytes = (n : Node) → NodeFits n → All PayloadIsBytes n.slots → AreBytes (encode n)

-- every node that calls made is such
abbrev pub CallsFit : Type 0
CallsFit = (h : List Call) → NodeFits (after rolled h)

abbrev pub RoundTripOfCalls : Type 0
RoundTripOfCalls = (h : List Call) → decode (encode (after rolled h)) ≡ after rolled h

-- and so is the node that any bytes are
abbrev pub DecodedFits : Type 0
DecodedFits = (bytes : List ℕ) → AreBytes bytes → NodeFits (decode bytes)

-- ── reading ──
abbrev pub SlotRead : Type 0
SlotRead = (bytes : List ℕ) (i : ℕ) (d : Slot) → is_slot bytes i ≡ true → read_slot bytes i ≡ get_or (decode bytes).slots i d

abbrev pub CounterRead : Type 0
CounterRead = (bytes : List ℕ) → is_node bytes ≡ true → read_counter bytes ≡ (decode bytes).counter

-- ── storing ──
-- the same node with slot i set: the other slots and the counter stay
abbrev pub SlotStored : Type 0
SlotStored = (bytes : List ℕ) (i : ℕ) (x : Slot) → is_node bytes ≡ true → SlotFits x → decode (store_slot i x bytes) ≡ with_slot i x (decode bytes)

-- the same node with another counter: the slots stay
abbrev pub CounterStored : Type 0
CounterStored = (bytes : List ℕ) (c : ℕ) → is_node bytes ≡ true → Fits16 c → decode (store_counter c bytes) ≡ with_counter c (decode bytes)

-- storing what was read leaves the node as it was, whatever the buffer and the index
abbrev pub StoredAsRead : Type 0
StoredAsRead = (bytes : List ℕ) (i : ℕ) → AreBytes bytes → decode (store_slot i (read_slot bytes i) bytes) ≡ decode bytes

-- a store leaves the buffer's length
abbrev pub LengthStays : Type 0
LengthStays = (bytes : List ℕ) (i c : ℕ) (x : Slot)
    → (length (store_slot i x bytes) ≡ length bytes) × (length (store_counter c bytes) ≡ length bytes) × (length (fresh_in bytes) ≡ length bytes)

abbrev pub FreshWritten : Type 0
FreshWritten = (bytes : List ℕ) → is_node bytes ≡ true → decode (fresh_in bytes) ≡ fresh
