-- A node that was written as bytes is read from them.
use mathlib.Core.Path.{◌≡◌, refl, ap, ◌∙◌}
use mathlib.Core.List.{List, [], ◌∷◌, ◌++◌, append_assoc}
use Prim.Native.Nat.{ℕ, suc, ◌*◌}
use native.Mathlib.Omega.{arith}
use borrow.Author.Tests.{eq-eqb}
use lib.ListN.{length, length-append}
use Rattle.wire.specs.Delivered.{little_endian, number_at}
use Rattle.wire.proofs.Reading.{number_here}
use Rattle.node.specs.declared.slots.Slot.{Slot}
use Rattle.node.specs.declared.Node.{Node}
use Rattle.node.specs.Nodes.{slot_count}
use Rattle.node.specs.Reachable.{All}
use Rattle.node_bytes.specs.Layout.{slot_size, slot_start, counter_at, node_size}
use Rattle.node_bytes.specs.Decoding.{slots_at, decode}
use Rattle.node_bytes.specs.Encoding.{encode_slot, encode_slots, encode}
use Rattle.node_bytes.specs.Widths.{Fits16, SlotFits}
use Rattle.node_bytes.specs.Laws.{RoundTrip, EncodedIsNode}
use Rattle.node_bytes.proofs.SlotRoundTrip.{slot_back}
use Rattle.node_bytes.proofs.ByIndex.{same_node}

pub length_encoded_slot : (x : Slot) → length (encode_slot x) ≡ slot_size
unfolding encode_slot
length_encoded_slot x = refl

length_encoded_slots : (xs : List Slot) → length (encode_slots xs) ≡ slot_size * length xs
length_encoded_slots [] = refl
length_encoded_slots (x ∷ xs) =
    omega (arith, length-append (encode_slot x) (encode_slots xs), length_encoded_slot x, length_encoded_slots xs)

pub length_encoded : (n : Node) → length n.slots ≡ slot_count → length (encode n) ≡ node_size
unfolding encode
length_encoded n e = omega (arith, length-append (encode_slots n.slots) (little_endian 2 n.counter), length_encoded_slots n.slots)

slots_back : (xs : List Slot) → All SlotFits xs → (before rest : List ℕ) (i : ℕ) → slot_start i ≡ length before
    → slots_at (length xs) (before ++ (encode_slots xs ++ rest)) i ≡ xs
unfolding slots_at
slots_back [] fit before rest i e = refl
slots_back (x ∷ xs) (fits, fit) before rest i e =
    let next : slot_start (suc i) ≡ length (before ++ encode_slot x) = omega (arith, length-append before (encode_slot x), length_encoded_slot x) in
    rw (
      append_assoc (encode_slot x) (encode_slots xs) rest,
      e,
      slot_back before (encode_slots xs ++ rest) x fits,
      ← append_assoc before (encode_slot x) (encode_slots xs ++ rest),
      slots_back xs fit (before ++ encode_slot x) rest (suc i) next,
    )

pub counter_there : (before rest : List ℕ) (c : ℕ) → Fits16 c → number_at 2 (before ++ (little_endian 2 c ++ rest)) (length before) ≡ c
counter_there before rest c fits = number_here 2 before (little_endian 2 c ++ rest) ∙ omega arith

pub round_trip : RoundTrip
unfolding decode encode
round_trip n fits =
    let xs = n.slots in
    let behind : counter_at ≡ length (encode_slots xs) = omega (arith, length_encoded_slots xs, fits.slots_32) in
    same_node
    (rw fits.slots_32 at (slots_back xs fits.each [] (little_endian 2 n.counter) 0 refl))
    (ap (number_at 2 (encode_slots xs ++ little_endian 2 n.counter)) behind ∙ counter_there (encode_slots xs) [] n.counter fits.counter)

pub encoded_is_node : EncodedIsNode
encoded_is_node n fits = eq-eqb _ _ (length_encoded n fits.slots_32)
