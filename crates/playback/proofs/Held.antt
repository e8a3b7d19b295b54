-- How many messages a node holds: none after set up, one more at most when a frame was heard, and fewer after the tick that ends the quiet.
use Rattle.std.proofs.Common.{◌≡◌, ℕ, suc, ◌+◌, ◌-◌, ◌<◌, ◌≤◌, min, Bool, true, false, cond, ◌||◌, ltb, leb, ◌⊎◌, List, [], ◌∷◌, ◌++◌, map, length, refl, ap}
use Rattle.std.proofs.Common.{◌∙◌, subst, inl, inr, le_of_lt, arith, leb-false, leb-true}
use native.Mathlib.Nat.{min-eq_left, min-eq_right}
use lib.ListN.{replicate-append-replicate}
use Rattle.wire.specs.declared.ids.Stream.{Stream}
use Rattle.wire.specs.declared.ids.BusId.{BusId}
use Rattle.wire.specs.declared.settings.Settings.{Settings}
use Rattle.node.specs.declared.slots.Slot.{Slot}
use Rattle.node.specs.declared.Node.{Node}
use Rattle.node.specs.Slots.{slot_for, is_free, on_first}
use Rattle.node.specs.Nodes.{Outcome}
use Rattle.node.specs.SetUp.{less_free, in_place, set_up}
use Rattle.node.specs.Hear.{hear}
use Rattle.node.specs.Tick.{late, due, hold_over, dropped, delivered, hold_ended, lapsed, age_of, tick_slot, tick_room, tick}
use Rattle.node.specs.Clock.{unbounded}
use Rattle.node.specs.Calls.{Call, outcome, after_from}
use Rattle.node.specs.Reachable.{longest, KeptSlot, All, Kept}
use Rattle.node.proofs.Cases.{by_case}
use Rattle.node.proofs.set_up.Cases.{set_up_cases}
use Rattle.node.proofs.hear.Cases.{hear_cases}
use Rattle.node.proofs.tick.Cases.{tick_cases}
use Rattle.node.proofs.kept.EachSlot.{kept_lapsed}
use Rattle.node.proofs.kept.EveryCall.{kept_from}
use Rattle.playback.specs.Deliveries.{room}
use Rattle.playback.specs.Quiet.{with_slot, quiet_in, quiet, standing, ticks, held_in, NoLongerQuiet}
use Rattle.playback.proofs.Stretches.{jump_is_ticking}

abbrev one : Slot → ℕ
one x = cond x.message.held 1 0

one_at_most : (held : Bool) → cond held 1 0 ≤ 1
one_at_most true = omega arith
one_at_most false = omega arith

-- ── a tick ──
same_or_unheld : (age : ℕ) (x : Slot) → (lapsed age x ≡ x) ⊎ ((lapsed age x).message.held ≡ false)
unfolding lapsed
same_or_unheld age x = go (late age x) (due age x) (hold_over age x)
  where
    by : (l d o : Bool) → Slot
    by l d o = cond l (dropped x) (cond d (delivered x) (cond o (hold_ended x) x))

    go : (l d o : Bool) → (by l d o ≡ x) ⊎ ((by l d o).message.held ≡ false)
    go true d o = inr refl
    go false true o = inr refl
    go false false true = inr refl
    go false false false = inl refl

no_more : (age : ℕ) (x : Slot) → one (lapsed age x) ≤ one x
no_more age x = by (same_or_unheld age x)
  where
    by : (lapsed age x ≡ x) ⊎ ((lapsed age x).message.held ≡ false) → one (lapsed age x) ≤ one x
    by (inl e) = rw e (omega arith)
    by (inr e) = rw e (omega arith)

none_more : (now : ℕ) (xs : List Slot) → held_in (map (tick_slot unbounded now) xs) ≤ held_in xs
none_more now [] = omega arith
none_more now (x ∷ xs) = omega (arith, no_more (age_of unbounded now x) x, none_more now xs)

-- what gets older than it gets at the longest is held no more
too_old : (now : ℕ) (x : Slot) → KeptSlot now x → longest x.settings x.message < now + 1 - x.message.stamp
    → (lapsed (now + 1 - x.message.stamp) x).message.held ≡ false
too_old now x k old = by (same_or_unheld (now + 1 - x.message.stamp) x)
  where
    y : Slot
    y = lapsed (now + 1 - x.message.stamp) x

    by_held : (held : Bool) → x.message.held ≡ held → y ≡ x → held ≡ false
    by_held false e same = refl
    by_held true e same = absurd (omega (arith, old, (subst (KeptSlot (now + 1)) same (kept_lapsed now x k)).message.young e))

    by : (y ≡ x) ⊎ (y.message.held ≡ false) → y.message.held ≡ false
    by (inl same) = ap (λ (z : Slot). z.message.held) same ∙ by_held x.message.held refl same
    by (inr e) = e

-- the tick that ends the quiet
module _ (now k : ℕ) where
  abbrev Fewer : List Slot → Type 0
  Fewer xs = held_in (map (tick_slot unbounded (now + k + 1)) xs) < held_in xs

  fewer_behind : (x : Slot) (xs : List Slot) → Fewer xs → Fewer (x ∷ xs)
  fewer_behind x xs less = omega (arith, no_more (age_of unbounded (now + k + 1) x) x, less)

  fewer_here : (x : Slot) (xs : List Slot) → KeptSlot now x → KeptSlot (now + k) x → x.message.held ≡ true
      → k ≡ longest x.settings x.message - (now - x.message.stamp) → Fewer (x ∷ xs)
  fewer_here x xs kx lx held mine =
      let gone = too_old (now + k) x lx (omega (arith, mine, kx.message.stamped held, kx.message.young held)) in
      let was : one x ≡ 1 = ap (λ (h : Bool). cond h 1 0) held in
      let is : one (tick_slot unbounded (now + k + 1) x) ≡ 0 = ap (λ (h : Bool). cond h 1 0) gone in
      omega (arith, was, is, none_more (now + k + 1) xs)

  fewer_by : (x : Slot) (xs : List Slot) → KeptSlot now x → KeptSlot (now + k) x → (others : ℕ) → k ≡ with_slot unbounded now x others
      → (k ≡ others → Fewer xs) → Fewer (x ∷ xs)
  unfolding with_slot
  fewer_by x xs kx lx others e behind = by_held x.message.held refl e
    where
      mine : ℕ
      mine = longest x.settings x.message - (now - x.message.stamp)

      by_least : x.message.held ≡ true → k ≡ min mine others → (t : Bool) → leb mine others ≡ t → Fewer (x ∷ xs)
      by_least h f true t = fewer_here x xs kx lx h (f ∙ min-eq_left (leb-true mine others t))
      by_least h f false t = fewer_behind x xs (behind (f ∙ min-eq_right (le_of_lt (leb-false mine others t))))

      by_held : (held : Bool) → x.message.held ≡ held → k ≡ cond held (min mine others) others → Fewer (x ∷ xs)
      by_held false h f = fewer_behind x xs (behind f)
      by_held true h f = by_least h f (leb mine others) refl

  fewer : (most : ℕ) (xs : List Slot) → All (KeptSlot now) xs → All (KeptSlot (now + k)) xs → k ≡ quiet_in unbounded now most xs → k < most → Fewer xs
  unfolding quiet_in
  fewer most [] ks ls e less = absurd (omega arith)
  fewer most (x ∷ xs) (kx, ks) (lx, ls) e less = fewer_by x xs kx lx (quiet_in unbounded now most xs) e (λ same. fewer most xs ks ls same less)

-- ── the calls ──
after_behind : (n : Node) (xs ys : List Call) → after_from unbounded n (xs ++ ys) ≡ after_from unbounded (after_from unbounded n xs) ys
after_behind n [] ys = refl
after_behind n (c ∷ xs) ys = after_behind (outcome unbounded c n).node xs ys

-- the slots after a tick
pub ticked_slots : (output : List ℕ) (n : Node) → tick_room ≤ length output
    → ((tick unbounded output n).node.slots ≡ map (tick_slot unbounded (n.counter + 1)) n.slots) × ((tick unbounded output n).node.counter ≡ n.counter + 1)
ticked_slots output n long = let e = (tick_cases output unbounded n).accepted_if (record { room = long }) in (rw e, rw e)

pub kept_standing : (most k : ℕ) (n : Node) → Kept n → k ≤ quiet unbounded most n → Kept (standing (n.counter + k) n)
kept_standing most k n kept h = subst Kept (jump_is_ticking most k n h).0 (kept_from n kept (ticks k))

pub fewer_held : (most : ℕ) (n : Node) (output : List ℕ) → Kept n → quiet unbounded most n < most → tick_room ≤ length output
    → held_in (tick unbounded output (standing (n.counter + quiet unbounded most n) n)).node.slots < held_in n.slots
fewer_held most n output kept less long =
    let k : ℕ = quiet unbounded most n in
    rw (ticked_slots output (standing (n.counter + k) n) long).0
    (fewer n.counter k most n.slots kept.each (kept_standing most k n kept (omega arith)).each refl less)

pub no_longer_quiet : NoLongerQuiet
no_longer_quiet most n kept less =
    let k : ℕ = quiet unbounded most n in
    let more : k + 1 ≡ suc k = omega arith in
    let last : ticks k ++ ticks 1 ≡ ticks (suc k) = replicate-append-replicate k 1 (Call.tick room) ∙ ap (λ (j : ℕ). ticks j) more in
    let then = after_behind n (ticks k) (ticks 1) in
    rw (← last, then, (jump_is_ticking most k n (omega arith)).0) (fewer_held most n room kept less (omega arith))

-- ── hearing and setting up ──
on_first_held : (test : Slot → Bool) (change : Slot → Slot) (xs : List Slot) → held_in (on_first test change xs) ≤ held_in xs + 1
unfolding on_first
on_first_held test change [] = omega arith
on_first_held test change (x ∷ xs) = go (on_first_held test change xs) (test x)
  where
    go : held_in (on_first test change xs) ≤ held_in xs + 1 → (t : Bool) → held_in (cond t (change x ∷ xs) (x ∷ on_first test change xs)) ≤ held_in (x ∷ xs) + 1
    go behind true = omega (arith, one_at_most (change x).message.held, one_at_most x.message.held)
    go behind false = omega (arith, behind)

pub heard_held : (id : BusId) (dlc : ℕ) (payload output : List ℕ) (n : Node)
    → (held_in (hear id dlc payload output n).node.slots ≤ held_in n.slots + 1) × ((hear id dlc payload output n).node.counter ≡ n.counter)
heard_held id dlc payload output n =
    by_case (λ (o : Outcome). (held_in o.node.slots ≤ held_in n.slots + 1) × (o.node.counter ≡ n.counter)) (λ r why. (omega arith, refl))
    (λ facts. (on_first_held _ _ n.slots, refl)) (hear_cases id dlc payload output n).case

without_free_held : (ys : List Slot) → held_in (less_free ys) ≤ held_in ys
unfolding less_free
without_free_held [] = omega arith
without_free_held (y ∷ ys) = go (without_free_held ys) (is_free y)
  where
    go : held_in (less_free ys) ≤ held_in ys → (t : Bool) → held_in (cond t ys (y ∷ less_free ys)) ≤ held_in (y ∷ ys)
    go behind true = omega arith
    go behind false = omega (arith, behind)

in_place_held : (s : Stream) (x : Settings) (xs : List Slot) → held_in (in_place (slot_for s x) xs) ≤ held_in xs
unfolding in_place
in_place_held s x [] = omega arith
in_place_held s x (y ∷ ys) = go (in_place_held s x ys) (is_free y || ltb s.0 y.stream.0)
  where
    go : held_in (in_place (slot_for s x) ys) ≤ held_in ys → (t : Bool)
        → held_in (cond t (slot_for s x ∷ less_free (y ∷ ys)) (y ∷ in_place (slot_for s x) ys)) ≤ held_in (y ∷ ys)
    go behind true = omega (arith, without_free_held (y ∷ ys))
    go behind false = omega (arith, behind)

pub set_up_held : (s : Stream) (x : Settings) (n : Node)
    → (held_in (set_up s x n).node.slots ≤ held_in n.slots) × ((set_up s x n).node.counter ≡ n.counter)
set_up_held s x n =
    by_case (λ (o : Outcome). (held_in o.node.slots ≤ held_in n.slots) × (o.node.counter ≡ n.counter)) (λ r why. (omega arith, refl))
    (λ facts. (in_place_held s x n.slots, refl)) (set_up_cases s x n).case
