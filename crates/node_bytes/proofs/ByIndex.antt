-- The slots of the node that bytes are, each by its index.
use mathlib.Core.Path.{◌≡◌, refl, ap, ◌∙◌}
use mathlib.Core.List.{List}
use Prim.Native.Nat.{ℕ, zero, suc, ◌+◌, ◌<◌}
use native.Mathlib.Nat.{zero-add, add-zero}
use native.Mathlib.Omega.{arith}
use lib.ListN.{length, get_or}
use Rattle.wire.specs.Delivered.{number_at}
use Rattle.node.specs.declared.slots.Slot.{Slot}
use Rattle.node.specs.declared.Node.{Node}
use Rattle.node.specs.Nodes.{slot_count}
use Rattle.node_bytes.specs.Layout.{counter_at}
use Rattle.node_bytes.specs.Decoding.{slot_at, slots_at, decode}

pub length_slots : (k : ℕ) (bytes : List ℕ) (i : ℕ) → length (slots_at k bytes i) ≡ k
unfolding slots_at
length_slots zero bytes i = refl
length_slots (suc k) bytes i = ap suc (length_slots k bytes (suc i))

slot_among : (k : ℕ) (bytes : List ℕ) (i j : ℕ) (d : Slot) → j < k → get_or (slots_at k bytes i) j d ≡ slot_at bytes (i + j)
unfolding slots_at
slot_among zero bytes i j d h = absurd (omega arith)
slot_among (suc k) bytes i zero d h = rw (add-zero i)
slot_among (suc k) bytes i (suc j) d h =
    let e : suc i + j ≡ i + suc j = omega arith in
    slot_among k bytes (suc i) j d (omega arith) ∙ ap (slot_at bytes) e

-- slot i of the node that bytes are
pub decoded_slot : (bytes : List ℕ) (i : ℕ) (d : Slot) → i < slot_count → get_or (decode bytes).slots i d ≡ slot_at bytes i
unfolding decode
decoded_slot bytes i d h = slot_among slot_count bytes 0 i d h ∙ ap (slot_at bytes) (zero-add i)

pub decoded_length : (bytes : List ℕ) → length (decode bytes).slots ≡ slot_count
unfolding decode
decoded_length bytes = length_slots slot_count bytes 0

pub decoded_counter : (bytes : List ℕ) → (decode bytes).counter ≡ number_at 2 bytes counter_at
unfolding decode
decoded_counter bytes = refl

-- a node is its slots and its counter
pub same_node : {xs ys : List Slot} {c d : ℕ} → xs ≡ ys → c ≡ d
    → ◌≡◌ {A = Node} (record { slots = xs; counter = c }) (record { slots = ys; counter = d })
same_node e f = rw (e, f)
