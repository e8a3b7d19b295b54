-- The search in the bytes for the first slot of which a test is true.
use Rattle.std.proofs.Common.{◌≡◌, ℕ, ◌≤◌, ◌<◌, Bool, true, false, List, length, get_or, position, Option, Some, None, MatchOption, refl, ap, ◌∙◌, arith}
use Rattle.std.specs.List.{position_or_len}
use Rattle.std.specs.Option.{unwrap_or}
use Rattle.std.proofs.lemmas.List.Sums.{position_or_len_is}
use borrow.Author.Tests.{lt-ltb}
use Rattle.node.specs.declared.slots.Slot.{Slot}
use Rattle.node.specs.Slots.{empty}
use Rattle.node.specs.Nodes.{slot_count}
use Rattle.node.proofs.slots.Finding.{index_of, place_found, place_missed}
use Rattle.node_bytes.specs.Decoding.{slot_at, decode}
use Rattle.node_bytes.proofs.ByIndex.{decoded_slot, decoded_length}

module _ (test : Slot → Bool) (bytes : List ℕ) where
  abbrev pub Passes : (i : ℕ) → Type 0
  Passes i = test (slot_at bytes i) ≡ true

  abbrev pub Fails : (i : ℕ) → Type 0
  Fails i = test (slot_at bytes i) ≡ false

  -- what a search from slot 0 on tells
  abbrev pub Searched : Option ℕ → Type 0
  Searched r =
      MatchOption r ((k : ℕ) → 0 ≤ k → k < slot_count → Fails k)
      (λ i. (0 ≤ i) × (i < slot_count) × Passes i × ((k : ℕ) → 0 ≤ k → k < i → Fails k))

  abbrev slots : List Slot
  slots = (decode bytes).slots

  fails_there : (k : ℕ) → k < slot_count → Fails k → test (get_or slots k empty) ≡ false
  fails_there k inside e = ap test (decoded_slot bytes k empty inside) ∙ e

  pub searched : (r : Option ℕ) → Searched r → r ≡ position test slots
  searched None h =
      let long = decoded_length bytes in
      let e : position_or_len test slots ≡ slot_count =
      position_or_len_is test slots slot_count empty (omega arith) (λ k below. fails_there k below (h k (omega arith) below))
      (λ inside. absurd (omega arith)) in
      rw (e, long)
  searched (Some i) h =
      let long = decoded_length bytes in
      let e : position_or_len test slots ≡ i =
      position_or_len_is test slots i empty (omega arith) (λ k below. fails_there k (omega arith) (h.3 k (omega arith) below))
      (λ inside. ap test (decoded_slot bytes i empty h.1) ∙ h.2) in
      rw (e, long, lt-ltb i slot_count h.1)

-- ── what was found ──
-- where there is one, also as it is asked for
pub found_or : (test : Slot → Bool) (l : List Slot) (o : Option ℕ) → o ≡ position test l → index_of test l < length l → (d : ℕ)
    → unwrap_or o d ≡ index_of test l
found_or test l None e inside d = absurd (omega (arith, place_missed test l e refl))
found_or test l (Some i) e inside d = (place_found test l e refl).0
