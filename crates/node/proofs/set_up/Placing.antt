-- Putting a slot in its place: where it is to stand, and how the slots from there on move up.
use Rattle.std.proofs.Common.{◌≡◌, ℕ, zero, suc, ◌+◌, ◌-◌, ◌<◌, ◌≤◌, Bool, true, false, cond, not, ◌||◌, ltb, List, [], ◌∷◌, length, get_or}
use Rattle.std.proofs.Common.{take, set, Some, None, position, unwrap_or, refl, ap, ◌∙◌, arith, length-take, ltb-false}
use Rattle.std.specs.List.{position_or_len}
use Rattle.std.proofs.lemmas.List.Sums.{prefix_len-le-length}
use Rattle.wire.specs.declared.ids.Stream.{Stream}
use Rattle.node.specs.declared.slots.Slot.{Slot}
use Rattle.node.specs.declared.Node.{Node}
use Rattle.node.specs.Slots.{is_free}
use Rattle.node.specs.Nodes.{with_slots}
use Rattle.node.specs.SetUp.{less_free, in_place}
use Rattle.node.proofs.slots.Finding.{index_of}

-- ── where it is to stand ──
-- before the first slot of which this is true
abbrev pub is_after : Stream → Slot → Bool
is_after s y = is_free y || ltb s.0 y.stream.0

-- ── the slots from a place on, moved up to the first free one; at that place the old slot is still there ──
unfoldable pub moved_up : (k : ℕ) → List Slot → List Slot
moved_up k [] = []
moved_up zero (y ∷ ys) = y ∷ less_free (y ∷ ys)
moved_up (suc k) (y ∷ ys) = y ∷ moved_up k ys

pub none_moved : (xs : List Slot) → index_of is_free xs < length xs → moved_up (index_of is_free xs) xs ≡ xs
unfolding index_of moved_up less_free
none_moved [] h = refl
none_moved (y ∷ ys) h = go (is_free y) refl (none_moved ys) h
  where
    go : (t : Bool) → is_free y ≡ t → (index_of is_free ys < length ys → moved_up (index_of is_free ys) ys ≡ ys)
        → cond t 0 (suc (index_of is_free ys)) < suc (length ys) → moved_up (cond t 0 (suc (index_of is_free ys))) (y ∷ ys) ≡ y ∷ ys
    go true e rest h = rw e
    go false e rest h = ap (λ (l : List Slot). y ∷ l) (rest (omega arith))

front_moved : (x : Slot) (ys : List Slot) → 0 < length ys → set (moved_up 0 ys) 0 x ≡ x ∷ less_free ys
unfolding moved_up
front_moved x [] h = absurd (omega arith)
front_moved x (y ∷ ys) h = refl

-- one slot more
abbrev pub Moves : Slot → (k : ℕ) → List Slot → Type 0
Moves d k xs = set (moved_up (suc k) xs) (suc k) (get_or (moved_up (suc k) xs) k d) ≡ moved_up k xs

pub one_moved : (k : ℕ) (xs : List Slot) (d : Slot) → k < index_of is_free xs → index_of is_free xs < length xs → Moves d k xs
unfolding index_of moved_up less_free
one_moved k [] d before room = absurd (omega arith)
one_moved k (y ∷ ys) d before room = go (is_free y) refl k before room (λ j. one_moved j ys d)
  where
    go : (t : Bool) → is_free y ≡ t → (j : ℕ) → j < cond t 0 (suc (index_of is_free ys)) → cond t 0 (suc (index_of is_free ys)) < suc (length ys)
        → ((i : ℕ) → i < index_of is_free ys → index_of is_free ys < length ys → Moves d i ys) → Moves d j (y ∷ ys)
    go true e j before room rest = absurd (omega arith)
    go false e zero before room rest = rw e (ap (λ (l : List Slot). y ∷ l) (front_moved y ys (omega arith)))
    go false e (suc j) before room rest = ap (λ (l : List Slot). y ∷ l) (rest j (omega arith) (omega arith))

-- in the node's table
pub moved_in : (n m : Node) (i : ℕ) (d : Slot) → m ≡ with_slots (moved_up i n.slots) n → 0 < i → i ≤ index_of is_free n.slots
    → index_of is_free n.slots < length n.slots
    → with_slots (set m.slots (i - 1 + 1) (get_or m.slots (i - 1) d)) m ≡ with_slots (moved_up (i - 1) n.slots) n
moved_in n m i d moved some_left before room =
    let next : suc (i - 1) ≡ i = omega arith in
    let up : i - 1 + 1 ≡ i = omega arith in
    rw (moved, up, rw next at (one_moved (i - 1) n.slots d (omega arith) room))

-- as the code finds the place: the first with a higher stream before the first free one, or else there
place_or_length : (test : Slot → Bool) (xs : List Slot) (n : ℕ) → length xs ≡ n → unwrap_or (position test xs) n ≡ position_or_len test xs
place_or_length test xs n long = go (ltb (position_or_len test xs) (length xs)) refl
  where
    go : (b : Bool) → ltb (position_or_len test xs) (length xs) ≡ b → unwrap_or (cond b (Some (position_or_len test xs)) None) n ≡ position_or_len test xs
    go true h = refl
    go false h = omega (arith, long, ltb-false _ _ h, prefix_len-le-length (λ x. not (test x)) xs)

before_free : (s : Stream) (xs : List Slot)
    → position_or_len (λ y. ltb s.0 y.stream.0) (take (index_of is_free xs) xs) ≡ index_of (is_after s) xs
unfolding index_of
before_free s [] = refl
before_free s (y ∷ ys) = go (is_free y) (ltb s.0 y.stream.0) refl (before_free s ys)
  where
    higher : Slot → Bool
    higher z = ltb s.0 z.stream.0

    go : (t u : Bool) → higher y ≡ u → position_or_len higher (take (index_of is_free ys) ys) ≡ index_of (is_after s) ys
        → position_or_len higher (take (cond t 0 (suc (index_of is_free ys))) (y ∷ ys)) ≡ cond (t || u) 0 (suc (index_of (is_after s) ys))
    go true u e rest = refl
    go false true e rest = rw e
    go false false e rest = rw e (omega (arith, rest))

pub place_is : (s : Stream) (xs : List Slot) → index_of is_free xs < length xs
    → unwrap_or (position (λ y. ltb s.0 y.stream.0) (take (index_of is_free xs) xs)) (index_of is_free xs) ≡ index_of (is_after s) xs
place_is s xs room =
    let long : length (take (index_of is_free xs) xs) ≡ index_of is_free xs = length-take (index_of is_free xs) xs ∙ omega arith in
    place_or_length (λ y. ltb s.0 y.stream.0) (take (index_of is_free xs) xs) _ long ∙ before_free s xs

pub after_or_free : (s : Stream) (xs : List Slot) → index_of (is_after s) xs ≤ index_of is_free xs
unfolding index_of
after_or_free s [] = omega arith
after_or_free s (y ∷ ys) = go (is_free y) (ltb s.0 y.stream.0) (after_or_free s ys)
  where
    go : (t u : Bool) → index_of (is_after s) ys ≤ index_of is_free ys
        → cond (t || u) 0 (suc (index_of (is_after s) ys)) ≤ cond t 0 (suc (index_of is_free ys))
    go true u rest = omega arith
    go false true rest = omega arith
    go false false rest = omega (arith, rest)

-- and the slot in its place
pub placed : (x : Slot) (xs : List Slot) → index_of (is_after x.stream) xs < length xs
    → set (moved_up (index_of (is_after x.stream) xs) xs) (index_of (is_after x.stream) xs) x ≡ in_place x xs
unfolding index_of moved_up in_place
placed x [] h = refl
placed x (y ∷ ys) h = go (is_after x.stream y) (placed x ys) h
  where
    k : ℕ
    k = index_of (is_after x.stream) ys

    go : (t : Bool) → (k < length ys → set (moved_up k ys) k x ≡ in_place x ys) → cond t 0 (suc k) < suc (length ys)
        → set (moved_up (cond t 0 (suc k)) (y ∷ ys)) (cond t 0 (suc k)) x ≡ cond t (x ∷ less_free (y ∷ ys)) (y ∷ in_place x ys)
    go true rest h = refl
    go false rest h = ap (λ (l : List Slot). y ∷ l) (rest (omega arith))
