-- On slots in stream order the first slot with a frame pending has the lowest of all.
use Rattle.std.proofs.Common.{◌≡◌, ℕ, ◌+◌, ◌/◌, ◌<◌, ◌≤◌, min, Bool, true, false, cond, not, leb, List, [], ◌∷◌, length, sym, refl, ap, ◌∙◌, ⊎_elim}
use Rattle.std.proofs.Common.{arith, ltb-false, le-ltb, ne_eqb, eqb-true, leb-false, leb-true}
use mathlib.Core.Bool.{and-eq-true_iff}
use mathlib.Core.List.{Memᴰ}
use Rattle.wire.specs.declared.ids.Stream.{Stream}
use Rattle.wire.specs.declared.ids.BusId.{BusId}
use Rattle.wire.specs.Identifiers.{max_bus_id, stream_of, code_of, join}
use Rattle.node.specs.declared.slots.Slot.{Slot}
use Rattle.node.specs.declared.Node.{Node}
use Rattle.node.specs.Slots.{is_of, first, on_first, some}
use Rattle.node.specs.NextFrame.{next_room, given_out, has_frame, lowest_code, lowest_given, give, next_refusals, next_frame}
use Rattle.node.specs.OldLayout.{is_none, lowest, pending_in, pending_ids, give_by_id, next_by_id_refusals, next_by_id}
use Rattle.node.specs.Nodes.{Outcome, unless_refused}
use Rattle.node.specs.Reachable.{All, After, InOrder}
use Rattle.node.proofs.Choices.{contrary}
use Rattle.node.proofs.slots.Table.{all_first}
use Rattle.node.proofs.Cases.{Cases, cases}
use Rattle.node.proofs.next_frame.Lowest.{has_ids, frame_id, frame_code, lowest_among, none_in_empty, some_has_frame, pending_from_slot}
use Rattle.node.proofs.slot_order.LowestOfAll.{lowest_or_above, lowest_at_most, lowest_append, none_lower, lowest_is_one}
use Rattle.node.proofs.slot_order.LowestOfAll.{refusals_by_lowest, by_lowest, next_by_lowest}

from_later : (x : Slot) (ys : List Slot) → All (After x) ys → {i : ℕ} → Memᴰ i (pending_ids ys) → x.stream.0 < i / 4
unfolding pending_ids
from_later x [] later m = absurd (mathlib.Core.List.Memᴰ.not-nil m)
from_later x (y ∷ ys) later {i} m =
    ⊎_elim
    (λ (here : Memᴰ i (pending_in y)).
    let of_stream = (and-eq-true_iff y.used _).0 (pending_from_slot y here).of_stream in
    omega (arith, (later.0 of_stream.0).1, eqb-true y.stream.0 (i / 4) of_stream.1))
    (λ (there : Memᴰ i (pending_ids ys)). from_later x ys later.1 there)
    (mathlib.Core.List.Memᴰ.append_cases (pending_in y) m)

-- the lowest of a slot's is below all those of later slots
lowest_here : (x : Slot) (ys : List Slot) → All (After x) ys → is_none (pending_in x) ≡ false
    → lowest_or_above (pending_in x) ≤ lowest_or_above (pending_ids ys)
lowest_here x ys later pending = go (pending_in x) refl pending (leb (lowest_or_above (pending_ids ys)) max_bus_id) refl
  where
    go : (ids : List ℕ) → pending_in x ≡ ids → is_none ids ≡ false → (t : Bool) → leb (lowest_or_above (pending_ids ys)) max_bus_id ≡ t
        → lowest_or_above (pending_in x) ≤ lowest_or_above (pending_ids ys)
    go [] e some t p = contrary refl some
    go (i ∷ is) e some true p =
        let one : Memᴰ i (pending_in x) = rw e (mathlib.Core.List.Memᴰ.head refl) in
        let stream = eqb-true x.stream.0 (i / 4) ((and-eq-true_iff x.used _).0 (pending_from_slot x one).of_stream).1 in
        let small = leb-true (lowest_or_above (pending_ids ys)) max_bus_id p in
        omega (arith, none_lower (pending_in x) one, stream, from_later x ys later (lowest_is_one (pending_ids ys) small))
    go (i ∷ is) e some false p = omega (arith, lowest_at_most (pending_in x), leb-false (lowest_or_above (pending_ids ys)) max_bus_id p)

none_below : (ids : List ℕ) (low : ℕ) → is_none ids ≡ true → low ≤ max_bus_id + 1 → min (lowest_or_above ids) low ≡ low
unfolding lowest_or_above
none_below [] low none small = omega arith
none_below (i ∷ is) low none small = contrary none refl

lowest_in_order : (xs : List Slot) → InOrder xs → lowest_or_above (pending_in (first has_frame xs)) ≡ lowest_or_above (pending_ids xs)
unfolding pending_ids first
lowest_in_order [] h = ap lowest_or_above none_in_empty
lowest_in_order (x ∷ xs) h = rw (lowest_append (pending_in x) (pending_ids xs)) (arm (has_frame x) refl (lowest_in_order xs h.1))
  where
    arm : (t : Bool) → has_frame x ≡ t → lowest_or_above (pending_in (first has_frame xs)) ≡ lowest_or_above (pending_ids xs)
        → lowest_or_above (pending_in (cond t x (first has_frame xs))) ≡ min (lowest_or_above (pending_in x)) (lowest_or_above (pending_ids xs))
    arm true e ih = omega (arith, lowest_here x xs h.0 (has_ids x ∙ ap not e))
    arm false e ih = ih ∙ sym (none_below (pending_in x) (lowest_or_above (pending_ids xs)) (has_ids x ∙ ap not e) (lowest_at_most (pending_ids xs)))

-- ── the slot that gives it out is that of its stream ──
module _ (test : Slot → Bool) (s : Stream) where
  pub record OfStream (xs : List Slot) : Type 0 where
    pub found : first (is_of s) xs ≡ first test xs
    pub changed : (f : Slot → Slot) → on_first (is_of s) f xs ≡ on_first test f xs

  of_stream : (xs : List Slot) → InOrder xs → is_of s (first test xs) ≡ true → OfStream xs
  unfolding first on_first
  of_stream [] h own = contrary own refl
  of_stream (x ∷ xs) h own = arm (test x) refl own (of_stream xs h.1)
    where
      earlier : is_of s (first test xs) ≡ true → is_of s x ≡ false
      earlier later_own =
          let y = first test xs in
          let (used, stream) = (and-eq-true_iff y.used _).0 later_own in
          let after = all_first (After x) test (λ u. contrary u refl) xs h.0 used in
          rw (after.0, ne_eqb x.stream.0 s.0 (omega (arith, after.1, eqb-true y.stream.0 s.0 stream)))

      arm : (t : Bool) → test x ≡ t → is_of s (cond t x (first test xs)) ≡ true → (is_of s (first test xs) ≡ true → OfStream xs)
          → OfStream (x ∷ xs)
      arm true e own_x rest = record { found = rw (own_x, e); changed = λ f. rw (own_x, e) }
      arm false e own_later rest =
          let r = rest own_later in
          record { found = rw (earlier own_later, e) r.found; changed = λ f. rw (earlier own_later, e, r.changed f) }

-- only the slot that is found is changed
same_change : (test : Slot → Bool) (f g : Slot → Slot) (xs : List Slot) → f (first test xs) ≡ g (first test xs) → on_first test f xs ≡ on_first test g xs
unfolding first on_first
same_change test f g [] e = refl
same_change test f g (x ∷ xs) e = arm (test x) e (same_change test f g xs)
  where
    arm : (t : Bool) → f (cond t x (first test xs)) ≡ g (cond t x (first test xs))
        → (f (first test xs) ≡ g (first test xs) → on_first test f xs ≡ on_first test g xs)
        → cond t (f x ∷ xs) (x ∷ on_first test f xs) ≡ cond t (g x ∷ xs) (x ∷ on_first test g xs)
    arm true e rest = rw e
    arm false e rest = rw (rest e)

module _ (n : Node) where
  abbrev pub giver : Slot
  giver = first has_frame n.slots

  abbrev lowest_id : BusId
  lowest_id = record { 0 = lowest (pending_in giver) }

  -- its frame is of its stream
  own_frame : has_frame giver ≡ true → is_of (stream_of lowest_id) giver ≡ true
  own_frame frame = (pending_from_slot giver (lowest_among (pending_in giver) (has_ids giver ∙ ap not frame))).of_stream

  pub giver_of_stream : some has_frame n.slots ≡ true → is_of (stream_of (join giver.stream (lowest_code giver)).id) giver ≡ true
  giver_of_stream pending =
      let frame : has_frame giver ≡ true = sym (some_has_frame n.slots) ∙ pending in
      rw (frame_id giver frame) (own_frame frame)

  give_in_order : InOrder n.slots → has_frame giver ≡ true → give n ≡ give_by_id lowest_id n
  unfolding give give_by_id
  give_in_order h frame =
      let own = of_stream has_frame (stream_of lowest_id) n.slots h (own_frame frame) in
      let code = frame_code giver frame in
      let same = same_change has_frame lowest_given (given_out (code_of lowest_id)) n.slots (ap (λ (c : ℕ). given_out c giver) (sym code)) in
      rw (own.found, own.changed (given_out (code_of lowest_id)), ← same, code, frame_id giver frame)

-- ── the next frame ──
giver_in_range : (n : Node) (i : ℕ) → Memᴰ i (pending_in (giver n)) → i ≤ max_bus_id
giver_in_range n i m = (pending_from_slot (giver n) m).in_range

pub next_in_order : (output : List ℕ) (n : Node) → InOrder n.slots → next_frame output n ≡ next_by_id output n
unfolding next_frame
next_in_order output n h =
    by_giver (has_frame (giver n)) refl
    ∙ (by_lowest output n (pending_in (giver n)) (giver_in_range n)
    ∙ rw (lowest_in_order n.slots h) (sym (next_by_lowest output n)))
  where
    by_giver : (t : Bool) → has_frame (giver n) ≡ t
        → unless_refused n (next_refusals output n) (give n)
        ≡ unless_refused n (next_by_id_refusals output (pending_in (giver n))) (give_by_id (lowest_id n) n)
    by_giver true e = rw (some_has_frame n.slots, has_ids (giver n), e, give_in_order n h e)
    by_giver false e = rw (some_has_frame n.slots, has_ids (giver n), e)

-- by cases, as in the old layout: refused, or the lowest of all is given out
module _ (output : List ℕ) (n : Node) (h : InOrder n.slots) where
  abbrev pub low : ℕ
  low = lowest_or_above (pending_ids n.slots)

  pub record LowestFacts : Type 0 where
    pub room : next_room ≤ length output
    pub pending : low ≤ max_bus_id

  abbrev pub lowest_given_out : Outcome
  lowest_given_out = give_by_id (record { 0 = low }) n

  pub next_by_id_cases : Cases n (refusals_by_lowest output low) LowestFacts lowest_given_out (next_frame output n)
  next_by_id_cases =
      rw (next_in_order output n h, next_by_lowest output n)
      (cases n (refusals_by_lowest output low) lowest_given_out refl
      (λ (room, (pending, end)). record { room = ltb-false _ _ room; pending = ltb-false _ _ pending })
      (λ facts. (le-ltb _ _ facts.room, (le-ltb _ _ facts.pending, tt))))
