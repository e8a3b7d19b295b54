-- What a store does to the node that bytes are.
use mathlib.Core.Path.{◌≡◌, refl, sym, ap, ◌∙◌}
use mathlib.Core.Bool.{Bool, true, false}
use mathlib.Core.Logic.{◌⊎◌, inl, inr}
use mathlib.Core.List.{List, ◌++◌, append_assoc}
use Prim.Native.Nat.{ℕ, ◌+◌, ◌<◌}
use native.Mathlib.Omega.{arith}
use borrow.Author.Tests.{ltb-true, ltb-false, eqb-true, eqb-false}
use lib.ListN.{length, get_or, set, take, drop, length-set}
use lib.Seq.{sets, sets-eq, length-sets, length-take-le, ext_get_or, get_or-set_same, get_or-set_other}
use lib.Dec.{eqb, ltb}
use Rattle.wire.specs.Delivered.{little_endian, number_at}
use Rattle.node.specs.declared.slots.Slot.{Slot}
use Rattle.node.specs.declared.Node.{Node}
use Rattle.node.specs.Slots.{empty}
use Rattle.node.specs.Nodes.{slot_count}
use Rattle.node_bytes.specs.Layout.{slot_size, slot_start, counter_at, node_size}
use Rattle.node_bytes.specs.Decoding.{byte_at, bytes_at, slot_from, slot_at, decode}
use Rattle.node_bytes.specs.Encoding.{encode_slot}
use Rattle.node_bytes.specs.Lent.{with_slot, with_counter}
use Rattle.node_bytes.specs.Widths.{Fits16, SlotFits}
use Rattle.node_bytes.proofs.Elsewhere.{Outside, byte_elsewhere, counter_same, slot_moved, slot_same, byte_copied}
use Rattle.node_bytes.proofs.SlotRoundTrip.{slot_back}
use Rattle.node_bytes.proofs.NodeRoundTrip.{length_encoded_slot, counter_there}
use Rattle.node_bytes.proofs.ByIndex.{decoded_slot, decoded_length, decoded_counter, same_node}

either : (j i : ℕ) → (j ≡ i → ⊥) → (j < i) ⊎ (i < j)
either j i other = by_test (ltb j i) refl
  where
    by_test : (t : Bool) → ltb j i ≡ t → (j < i) ⊎ (i < j)
    by_test true e = inl (ltb-true j i e)
    by_test false e = inr (omega (arith, ltb-false j i e, other))

-- a store leaves the length
pub stored_length : (before after : List ℕ) (i : ℕ) (x : Slot) → after ≡ sets before (slot_start i) (encode_slot x) → length after ≡ length before
stored_length before after i x e = ap (λ (l : List ℕ). length l) e ∙ length-sets before (slot_start i) (encode_slot x)

-- ── a slot ──
-- where only bytes of slot i have changed, only that slot has
module _ (bytes after : List ℕ) (i : ℕ) (x : Slot) (inside : i < slot_count) (here : slot_at after i ≡ x)
    (outside : (j : ℕ) → Outside (slot_start i) slot_size j → byte_at after j ≡ byte_at bytes j) where
  elsewhere : (j : ℕ) → (j < i) ⊎ (i < j) → slot_at after j ≡ slot_at bytes j
  elsewhere j (inl h) = slot_same after bytes (slot_start j) (λ k p q. outside k (inl (omega arith)))
  elsewhere j (inr h) = slot_same after bytes (slot_start j) (λ k p q. outside k (inr (omega arith)))

  each_slot : (j : ℕ) (same : Bool) → eqb j i ≡ same → j < slot_count → slot_at after j ≡ get_or (set (decode bytes).slots i x) j empty
  each_slot j true e h =
      let same = eqb-true j i e in
      rw same (here ∙ sym (get_or-set_same (decode bytes).slots i x empty (omega (arith, decoded_length bytes))))
  each_slot j false e h =
      let other = eqb-false j i e in
      elsewhere j (either j i other)
      ∙ sym (get_or-set_other (decode bytes).slots i j x empty other ∙ decoded_slot bytes j empty h)

  pub decode_changed : decode after ≡ with_slot i x (decode bytes)
  decode_changed =
      same_node
      (ext_get_or empty (decode after).slots (set (decode bytes).slots i x)
      (decoded_length after ∙ sym (length-set (decode bytes).slots i x ∙ decoded_length bytes))
      (λ j h.
      let less : j < slot_count = omega (arith, decoded_length after) in
      decoded_slot after j empty less ∙ each_slot j (eqb j i) refl less))
      (decoded_counter after
      ∙ counter_same after bytes counter_at (λ k p q. outside k (inr (omega arith)))
      ∙ sym (decoded_counter bytes))

-- and slot i is what was stored
pub slot_there : (bytes after : List ℕ) (i : ℕ) (x : Slot) → i < slot_count → decode after ≡ with_slot i x (decode bytes) → slot_at after i ≡ x
slot_there bytes after i x inside left =
    sym (decoded_slot after i empty inside)
    ∙ ap (λ (n : Node). get_or n.slots i empty) left
    ∙ get_or-set_same (decode bytes).slots i x empty (omega (arith, decoded_length bytes))

-- the bytes of a slot are stored, whatever slot they are
module _ (bytes row : List ℕ) (i : ℕ) (whole : length bytes ≡ node_size) (inside : i < slot_count) (long : length row ≡ slot_size) where
  abbrev after : List ℕ
  after = sets bytes (slot_start i) row

  decode_row : (x : Slot) → slot_at after i ≡ x → decode after ≡ with_slot i x (decode bytes)
  decode_row x here = decode_changed bytes after i x inside here (λ j o. byte_elsewhere bytes row (slot_start i) j (rw long o))

-- those of a slot with numbers that fit
pub decode_stored : (bytes : List ℕ) (i : ℕ) (x : Slot) → length bytes ≡ node_size → i < slot_count → SlotFits x
    → decode (sets bytes (slot_start i) (encode_slot x)) ≡ with_slot i x (decode bytes)
decode_stored bytes i x whole inside fits = decode_row bytes (encode_slot x) i whole inside (length_encoded_slot x) x stored_here
  where
    stored_here : slot_at (sets bytes (slot_start i) (encode_slot x)) i ≡ x
    stored_here =
        let at : ℕ = slot_start i in
        let own : List ℕ = encode_slot x in
        let long = length_encoded_slot x in
        let front : at ≡ length (take at bytes) = sym (length-take-le at bytes (omega arith)) in
        rw (sets-eq own bytes at (omega arith), append_assoc (take at bytes) own (drop (at + length own) bytes))
        (ap (slot_from (take at bytes ++ (own ++ drop (at + length own) bytes))) front ∙ slot_back (take at bytes) _ x fits)

-- those of another slot
pub decode_copied : (bytes : List ℕ) (i j : ℕ) → length bytes ≡ node_size → i < slot_count
    → decode (sets bytes (slot_start i) (bytes_at slot_size bytes (slot_start j))) ≡ with_slot i (slot_at bytes j) (decode bytes)
decode_copied bytes i j whole inside =
    decode_row bytes (bytes_at slot_size bytes (slot_start j)) i whole inside refl (slot_at bytes j)
    (slot_moved _ bytes (slot_start i) (slot_start j) (byte_copied slot_size bytes bytes (slot_start i) (slot_start j) (omega arith)))

-- ── the counter ──
module _ (bytes : List ℕ) (c : ℕ) (whole : length bytes ≡ node_size) (fits : Fits16 c) where
  abbrev counted : List ℕ
  counted = sets bytes counter_at (little_endian 2 c)

  counter_here : number_at 2 counted counter_at ≡ c
  counter_here =
      let own : List ℕ = little_endian 2 c in
      let front : counter_at ≡ length (take counter_at bytes) = sym (length-take-le counter_at bytes (omega arith)) in
      rw (sets-eq own bytes counter_at (omega arith), append_assoc (take counter_at bytes) own (drop (counter_at + length own) bytes))
      (ap (number_at 2 (take counter_at bytes ++ (own ++ drop (counter_at + length own) bytes))) front ∙ counter_there (take counter_at bytes) _ c fits)

  slot_stays : (j : ℕ) → j < slot_count → slot_at counted j ≡ slot_at bytes j
  slot_stays j h =
      slot_same counted bytes (slot_start j) (λ k p q. byte_elsewhere bytes (little_endian 2 c) counter_at k (inl (omega arith)))

  pub decode_counted : decode counted ≡ with_counter c (decode bytes)
  decode_counted =
      same_node
      (ext_get_or empty (decode counted).slots (decode bytes).slots
      (decoded_length counted ∙ sym (decoded_length bytes))
      (λ j h.
      let less : j < slot_count = omega (arith, decoded_length counted) in
      decoded_slot counted j empty less ∙ slot_stays j less ∙ sym (decoded_slot bytes j empty less)))
      (decoded_counter counted ∙ counter_here)
