-- Finding a slot by its index: what stands there is the first slot of which the test is true, and where the index is
-- the table's length there is none. Also a turn of the loop that finds it, from the front of the table on.
use Rattle.std.proofs.Common.{◌≡◌, ℕ, zero, suc, ◌+◌, ◌<◌, ◌≤◌, Bool, true, false, cond, not, ltb, List, [], ◌∷◌, map, length, get_or, drop, set}
use Rattle.std.proofs.Common.{Option, Some, None, position}
use Rattle.std.proofs.Common.{sym, refl, ap, ◌∙◌, add-one, arith, drop_of_length-le, drop-cons, ltb-true, ltb-false}
use Rattle.std.specs.List.{position_or_len}
use Rattle.std.specs.Option.{is_some}
use Rattle.std.proofs.lemmas.Option.{cond_some}
use lib.ListN.{length-map}
use Rattle.wire.specs.declared.ids.Stream.{Stream}
use Rattle.node.specs.declared.slots.Slot.{Slot}
use Rattle.node.specs.declared.Node.{Node}
use Rattle.wire.specs.Settings.{no_settings}
use Rattle.node.specs.Slots.{none_pending, empty, is_of, first, on_first, some}
use Rattle.node.specs.Nodes.{slot_of, with_slots, on_slot}

-- where the first slot stands of which the test is true; where there is none, the table's length
unfoldable pub index_of : (Slot → Bool) → List Slot → ℕ
index_of test [] = 0
index_of test (x ∷ xs) = cond (test x) 0 (suc (index_of test xs))

-- what the code reads past the end of the table
abbrev pub no_slot : Slot
no_slot =
    record {
      stream = record { 0 = 0 };
      settings = no_settings;
      message = record { stamp = 0; len = 0; held = false; confirmed = false; bytes = [] };
      pending = none_pending;
      used = false;
    }

-- a list is as long as its image: what `search` lacks at an array of structs in a struct
pub length_of_mapped : (X Y : Type 0) (f : X → Y) (l : List X) (n : ℕ) → length (map f l) ≡ n → length l ≡ n
length_of_mapped X Y f l n p = sym (length-map l f) ∙ p

module _ (test : Slot → Bool) where
  -- the index is below the length: what stands there, and what storing a slot made of it does
  pub record Found (l : List Slot) : Type 0 where
    pub there : some test l ≡ true
    pub holds : (d : Slot) → test (get_or l (index_of test l) d) ≡ true
    pub is_first : (d : Slot) → get_or l (index_of test l) d ≡ first test l
    pub changes : (change : Slot → Slot) (d : Slot) → set l (index_of test l) (change (get_or l (index_of test l) d)) ≡ on_first test change l

  pub found : (l : List Slot) → index_of test l < length l → Found l
  unfolding index_of first some on_first
  found [] h = absurd (omega arith)
  found (x ∷ xs) h = go (test x) refl (found xs) h
    where
      go : (b : Bool) → test x ≡ b → (index_of test xs < length xs → Found xs)
          → cond b 0 (suc (index_of test xs)) < suc (length xs) → Found (x ∷ xs)
      go true e rest h = record { there = rw e; holds = λ d. rw e e; is_first = λ d. rw e; changes = λ change d. rw e }
      go false e rest h =
          let r = rest (omega arith) in
          record {
            there = rw e r.there;
            holds = λ d. rw e (r.holds d);
            is_first = λ d. rw e (r.is_first d);
            changes = λ change d. rw e (ap (λ (l : List Slot). x ∷ l) (r.changes change d));
          }

  -- before the index it is true of none
  pub before_first : (l : List Slot) (k : ℕ) (d : Slot) → k < index_of test l → test (get_or l k d) ≡ false
  unfolding index_of
  before_first [] k d h = absurd (omega arith)
  before_first (x ∷ xs) k d h = go (test x) refl k h (λ j. before_first xs j d)
    where
      go : (b : Bool) → test x ≡ b → (j : ℕ) → j < cond b 0 (suc (index_of test xs))
          → ((i : ℕ) → i < index_of test xs → test (get_or xs i d) ≡ false) → test (get_or (x ∷ xs) j d) ≡ false
      go true e j h rest = absurd (omega arith)
      go false e zero h rest = e
      go false e (suc j) h rest = rest j (omega arith)

  -- the index is the length: there is no such slot
  pub record Missed (l : List Slot) : Type 0 where
    pub not_there : some test l ≡ false
    pub is_empty : first test l ≡ empty
    pub unchanged : (change : Slot → Slot) → on_first test change l ≡ l

  pub missed : (l : List Slot) → length l ≤ index_of test l → Missed l
  unfolding index_of first some on_first
  missed [] h = record { not_there = refl; is_empty = refl; unchanged = λ change. refl }
  missed (x ∷ xs) h = go (test x) refl (missed xs) h
    where
      go : (b : Bool) → test x ≡ b → (length xs ≤ index_of test xs → Missed xs)
          → suc (length xs) ≤ cond b 0 (suc (index_of test xs)) → Missed (x ∷ xs)
      go true e rest h = absurd (omega arith)
      go false e rest h =
          let r = rest (omega arith) in
          record {
            not_there = rw e r.not_there;
            is_empty = rw e r.is_empty;
            unchanged = λ change. rw e (ap (λ (l : List Slot). x ∷ l) (r.unchanged change));
          }

  -- ── the loop: of no slot before i the test is true ──
  abbrev pub NoneBefore : List Slot → (i : ℕ) → Type 0
  NoneBefore l i = index_of test l ≡ i + index_of test (drop i l)

  pub none_at_first : (l : List Slot) → NoneBefore l 0
  none_at_first l = omega arith

  pub found_nowhere : (l : List Slot) (i : ℕ) → length l ≤ i → NoneBefore l i → i ≡ index_of test l
  unfolding index_of
  found_nowhere l i past none = omega (arith, rw (drop_of_length-le l past) at none)

  module _ (l : List Slot) (i : ℕ) (d : Slot) (inside : i < length l) (none : NoneBefore l i) where
    pub found_here : test (get_or l i d) ≡ true → i ≡ index_of test l
    unfolding index_of
    found_here e = omega (arith, rw (drop-cons l i d inside, e) at none)

    pub not_here : test (get_or l i d) ≡ false → NoneBefore l (i + 1)
    unfolding index_of
    not_here e = rw add-one (omega (arith, rw (drop-cons l i d inside, e) at none))

  -- ── the place that the code finds ──
  index_is_place : (l : List Slot) → position_or_len test l ≡ index_of test l
  unfolding index_of
  index_is_place [] = refl
  index_is_place (x ∷ xs) = go (test x) (index_is_place xs)
    where
      go : (b : Bool) → position_or_len test xs ≡ index_of test xs
          → cond (not b) (1 + position_or_len test xs) 0 ≡ cond b 0 (suc (index_of test xs))
      go true rest = refl
      go false rest = omega (arith, rest)

  pub place_found : (l : List Slot) {o : Option ℕ} {i : ℕ} → o ≡ position test l → o ≡ Some i → (i ≡ index_of test l) × (i < length l)
  place_found l {o} {i} e some =
      let found = cond_some (ltb (position_or_len test l) (length l)) _ _ (sym e ∙ some) in
      (sym found.1 ∙ index_is_place l, rw found.1 at (ltb-true _ _ found.0))

  pub is_there : (l : List Slot) {o : Option ℕ} → o ≡ position test l → ltb (index_of test l) (length l) ≡ is_some o
  is_there l e = rw (e, ← (index_is_place l)) (go (ltb (position_or_len test l) (length l)))
    where
      go : (b : Bool) → b ≡ is_some (cond b (Some (position_or_len test l)) None)
      go true = refl
      go false = refl

  pub place_missed : (l : List Slot) {o : Option ℕ} → o ≡ position test l → o ≡ None → length l ≤ index_of test l
  place_missed l e none = ltb-false _ _ (is_there l e ∙ ap is_some none)

-- ── the slot of a stream, found in the node's table ──
module _ (n : Node) (s : Stream) (i : ℕ) (at_index : i ≡ index_of (is_of s) n.slots) where
  pub slot_found : (d : Slot) → i < length n.slots → get_or n.slots i d ≡ slot_of s n
  slot_found d h = rw at_index ((found (is_of s) n.slots (omega arith)).is_first d)

  pub slot_stored : (change : Slot → Slot) (d : Slot) → i < length n.slots
      → with_slots (set n.slots i (change (get_or n.slots i d))) n ≡ on_slot s change n
  slot_stored change d h = ap (λ (l : List Slot). with_slots l n) (rw at_index ((found (is_of s) n.slots (omega arith)).changes change d))

  pub slot_missed : length n.slots ≤ i → slot_of s n ≡ empty
  slot_missed h = (missed (is_of s) n.slots (omega arith)).is_empty
