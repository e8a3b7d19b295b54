-- Payloads: comparing two, and the payload of a message.
use Rattle.std.proofs.Common.{◌≡◌, ℕ, suc, ◌+◌, ◌<◌, ◌≤◌, min, Bool, true, false, ◌&&◌, eqb, List, [], ◌∷◌, length, get_or, take, drop, sym, refl, ap, ◌∙◌, add-one, arith}
use Rattle.std.proofs.Common.{take-append-drop, drop_of_length-le, length-take, length-take-le, take_all, drop-cons, get_or-take, eq-eqb, ne_eqb}
use lib.Seq.{take-append_seam}
use Rattle.wire.specs.Frames.{max_payload}
use Rattle.node.specs.declared.slots.Message.{Message}
use Rattle.node.specs.Slots.{payload_of, same_bytes, same}

-- ── comparing ──
pub differ_in_length : (a b : List ℕ) → (length a ≡ length b → ⊥) → same_bytes a b ≡ false
unfolding same_bytes
differ_in_length [] [] h = absurd (h refl)
differ_in_length [] (y ∷ b) h = refl
differ_in_length (x ∷ a) [] h = refl
differ_in_length (x ∷ a) (y ∷ b) h = go (eqb x y) (differ_in_length a b (λ e. h (ap suc e)))
  where
    go : (t : Bool) → same_bytes a b ≡ false → (t && same_bytes a b) ≡ false
    go true e = e
    go false e = refl

-- the loop at i: what was compared before i was the same
abbrev pub Compared : (n : ℕ) (bytes payload : List ℕ) (i : ℕ) → Type 0
Compared n bytes payload i = same_bytes (take n bytes) payload ≡ same_bytes (drop i (take n bytes)) (drop i payload)

module _ (n : ℕ) (bytes payload : List ℕ) (enough : n ≤ length bytes) (as_long : length payload ≡ n) where
  module _ (i : ℕ) (here : i < n) where
    compared_at : same_bytes (drop i (take n bytes)) (drop i payload)
        ≡ (eqb (get_or bytes i 0) (get_or payload i 0) && same_bytes (drop (i + 1) (take n bytes)) (drop (i + 1) payload))
    unfolding same_bytes
    compared_at =
        let long = length-take-le n bytes enough in
        rw (add-one, drop-cons (take n bytes) i 0 (omega arith), drop-cons payload i 0 (omega arith), get_or-take n bytes i 0 here)

    pub same_so_far : Compared n bytes payload i → get_or bytes i 0 ≡ get_or payload i 0 → Compared n bytes payload (i + 1)
    same_so_far inv e = inv ∙ compared_at ∙ rw (eq-eqb _ _ e)

    pub another_byte : Compared n bytes payload i → (get_or bytes i 0 ≡ get_or payload i 0 → ⊥) → same_bytes (take n bytes) payload ≡ false
    another_byte inv e = inv ∙ compared_at ∙ rw (ne_eqb _ _ e)

  pub same_to_the_end : (i : ℕ) → n ≤ i → Compared n bytes payload i → same_bytes (take n bytes) payload ≡ true
  unfolding same_bytes
  same_to_the_end i past inv =
      let long = length-take-le n bytes enough in
      let a : length (take n bytes) ≤ i = omega arith in
      let b : length payload ≤ i = omega arith in
      inv ∙ rw (drop_of_length-le (take n bytes) a, drop_of_length-le payload b)

pub message_of_another_length : (m : Message) (payload : List ℕ) → (length payload ≡ m.len → ⊥) → same m payload ≡ false
message_of_another_length m payload h = let t = ne_eqb m.len (length payload) (λ e. h (sym e)) in rw t

pub message_of_equal_length : (m : Message) (payload : List ℕ) → length payload ≡ m.len → same m payload ≡ same_bytes (payload_of m) payload
message_of_equal_length m payload h = let t = eq-eqb m.len (length payload) (sym h) in rw t

-- ── the payload of a message, which has eight bytes ──
pub payload_length : (m : Message) → length m.bytes ≡ max_payload → length (payload_of m) ≡ min m.len max_payload
payload_length m eight = rw (length-take m.len m.bytes, eight)

take_as_many : (n : ℕ) (bytes : List ℕ) → take (length (take n bytes)) bytes ≡ take n bytes
take_as_many n bytes =
    ap (take (length (take n bytes))) (sym (take-append-drop n bytes)) ∙ take-append_seam (take n bytes) (drop n bytes)

-- it is lent as a part of them
module _ (m : Message) (bytes : List ℕ) (all : (bytes ≡ m.bytes) × (length bytes ≡ max_payload)) (n : ℕ) (e : n ≡ length (payload_of m)) where
  short : length (payload_of m) ≤ max_payload
  short = omega (arith, payload_length m (rw all.0 at all.1))

  pub part_within : n ≤ length bytes
  part_within = omega (arith, all.1, short)

  pub part_is_payload : take max_payload (take n bytes) ≡ payload_of m
  part_is_payload = rw (e, all.0, take_as_many m.len m.bytes) (take_all max_payload (payload_of m) short)
