-- The old layout's lowest of all pending bus identifiers: it is one of them, none is lower, and where none is pending there is none.
use Rattle.std.proofs.Common.{◌≡◌, ℕ, ◌+◌, ◌≤◌, min, Bool, true, false, ltb, leb, ◌⊎◌, List, [], ◌∷◌, ◌++◌, length, sym, refl, ap, inl, inr, ⊎_elim}
use Rattle.std.proofs.Common.{arith, le-ltb, leb-false, leb-true}
use mathlib.Core.List.Memᴰ
use mathlib.Core.List.{Memᴰ}
use Rattle.wire.specs.Identifiers.{max_bus_id}
use Rattle.wire.specs.declared.reply.Reply.TheVariants.{ShortOutput, Nothing}
use Rattle.wire.specs.Refusals.{Refusals}
use Rattle.node.specs.declared.slots.Slot.{Slot}
use Rattle.node.specs.declared.Node.{Node}
use Rattle.node.specs.Nodes.{unless_refused}
use Rattle.node.specs.NextFrame.{next_room}
use Rattle.node.specs.OldLayout.{is_none, lowest, pending_in, pending_ids, give_by_id, next_by_id_refusals, next_by_id}
use Rattle.node.proofs.Choices.{contrary}
use Rattle.node.proofs.next_frame.Lowest.{pending_from_slot}

-- ── of any identifiers ──
-- the lowest of them; one above the highest, where there are none
unfoldable pub lowest_or_above : List ℕ → ℕ
lowest_or_above [] = max_bus_id + 1
lowest_or_above (i ∷ is) = min i (lowest_or_above is)

pub lowest_at_most : (l : List ℕ) → lowest_or_above l ≤ max_bus_id + 1
unfolding lowest_or_above
lowest_at_most [] = omega arith
lowest_at_most (i ∷ is) = let h = lowest_at_most is in omega arith

pub lowest_append : (a b : List ℕ) → lowest_or_above (a ++ b) ≡ min (lowest_or_above a) (lowest_or_above b)
unfolding lowest_or_above
lowest_append [] b = let h = lowest_at_most b in omega arith
lowest_append (i ∷ a) b = let h = lowest_append a b in omega arith

pub none_lower : (l : List ℕ) {i : ℕ} → Memᴰ i l → lowest_or_above l ≤ i
unfolding lowest_or_above
none_lower [] m = absurd (Memᴰ.not-nil m)
none_lower (j ∷ l) {i} m = go (none_lower l) (Memᴰ.cases_cons m)
  where
    go : (Memᴰ i l → lowest_or_above l ≤ i) → (i ≡ j) ⊎ Memᴰ i l → min j (lowest_or_above l) ≤ i
    go rest (inl e) = omega arith
    go rest (inr below) = omega (arith, rest below)

pub lowest_is_one : (l : List ℕ) → lowest_or_above l ≤ max_bus_id → Memᴰ (lowest_or_above l) l
unfolding lowest_or_above
lowest_is_one [] h = absurd (omega arith)
lowest_is_one (i ∷ l) h = go (leb i (lowest_or_above l)) refl (lowest_is_one l)
  where
    go : (t : Bool) → leb i (lowest_or_above l) ≡ t → (lowest_or_above l ≤ max_bus_id → Memᴰ (lowest_or_above l) l) → Memᴰ (min i (lowest_or_above l)) (i ∷ l)
    go true e rest =
        let at_most = leb-true i (lowest_or_above l) e in
        let same : min i (lowest_or_above l) ≡ i = omega arith in
        Memᴰ.head same
    go false e rest =
        let above = leb-false i (lowest_or_above l) e in
        let same : min i (lowest_or_above l) ≡ lowest_or_above l = omega arith in
        Memᴰ.tail (Memᴰ.cast same (rest (omega arith)))

pending_in_range : (slots : List Slot) {i : ℕ} → Memᴰ i (pending_ids slots) → i ≤ max_bus_id
unfolding pending_ids
pending_in_range [] m = absurd (Memᴰ.not-nil m)
pending_in_range (x ∷ xs) {i} m =
    ⊎_elim
    (λ (here : Memᴰ i (pending_in x)). (pending_from_slot x here).in_range)
    (λ (there : Memᴰ i (pending_ids xs)). pending_in_range xs there)
    (Memᴰ.append_cases (pending_in x) m)

-- ── the definition, by the lowest or above ──
abbrev pub refusals_by_lowest : (output : List ℕ) → (low : ℕ) → Refusals
refusals_by_lowest output low =
    (ShortOutput, ltb (length output) next_room)
    ∷ (Nothing, ltb max_bus_id low)
    ∷ []

none_same : (ids : List ℕ) → ((i : ℕ) → Memᴰ i ids → i ≤ max_bus_id) → is_none ids ≡ ltb max_bus_id (lowest_or_above ids)
unfolding lowest_or_above
none_same [] small = refl
none_same (i ∷ ids) small = sym (le-ltb max_bus_id (min i (lowest_or_above ids)) (omega (arith, small i (Memᴰ.head refl))))

lowest_same : (ids : List ℕ) → ((i : ℕ) → Memᴰ i ids → i ≤ max_bus_id) → is_none ids ≡ false → lowest ids ≡ lowest_or_above ids
unfolding lowest lowest_or_above
lowest_same [] small some = absurd (contrary refl some)
lowest_same (i ∷ []) small some = omega (arith, small i (Memᴰ.head refl))
lowest_same (i ∷ j ∷ is) small some = ap (min i) (lowest_same (j ∷ is) (λ k m. small k (Memᴰ.tail m)) refl)

-- these being pending
pub by_lowest : (output : List ℕ) (n : Node) (ids : List ℕ) → ((i : ℕ) → Memᴰ i ids → i ≤ max_bus_id)
    → let low = lowest_or_above ids in
    unless_refused n (next_by_id_refusals output ids) (give_by_id (record { 0 = lowest ids }) n)
    ≡ unless_refused n (refusals_by_lowest output low) (give_by_id (record { 0 = low }) n)
by_lowest output n ids small = go (is_none ids) refl
  where
    go : (t : Bool) → is_none ids ≡ t
        → unless_refused n (next_by_id_refusals output ids) (give_by_id (record { 0 = lowest ids }) n)
        ≡ unless_refused n (refusals_by_lowest output (lowest_or_above ids)) (give_by_id (record { 0 = lowest_or_above ids }) n)
    go true e = rw (← (none_same ids small), e)
    go false e = rw (← (none_same ids small), e, lowest_same ids small e)

pub next_by_lowest : (output : List ℕ) (n : Node)
    → let low = lowest_or_above (pending_ids n.slots) in
    next_by_id output n ≡ unless_refused n (refusals_by_lowest output low) (give_by_id (record { 0 = low }) n)
unfolding next_by_id
next_by_lowest output n = by_lowest output n (pending_ids n.slots) (λ i m. pending_in_range n.slots m)
