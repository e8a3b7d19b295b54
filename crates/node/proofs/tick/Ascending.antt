-- The records of a tick: by ascending stream, of each stream what its slot holds, if that is due.
use Rattle.std.proofs.Common.{◌≡◌, ℕ, ◌<◌, Bool, true, false, cond, List, [], ◌∷◌, sym, refl, ap, ◌∙◌, eqb-true}
use mathlib.Core.Bool.{and-eq-true_iff}
use Rattle.wire.specs.declared.ids.Stream.{Stream}
use Rattle.node.specs.declared.slots.Slot.{Slot}
use Rattle.node.specs.Slots.{empty, is_of, first}
use Rattle.node.specs.Clock.{Clock}
use Rattle.node.specs.Tick.{due, age_of, due_slots}
use Rattle.node.specs.Reachable.{All, After, InOrder}
use Rattle.node.specs.SlotOrder.{Distinct}
use Rattle.node.proofs.Choices.{either_way}
use Rattle.node.proofs.slots.Table.{none_first}
use Rattle.node.proofs.tick.Tests.{Due, due_tells}

abbrev pub Before : Slot → Slot → Type 0
Before x y = x.stream.0 < y.stream.0

-- each stream is below all that follow
abbrev pub Ascends : List Slot → Type 0
Ascends [] = Unit {0}
Ascends (x ∷ xs) = All (Before x) xs × Ascends xs

module _ (clock : Clock) (now : ℕ) where
  -- what is due of the slots that may stand after x
  pub later_due : (x : Slot) (ys : List Slot) → All (After x) ys → All (Before x) (due_slots clock now ys)
  unfolding due_slots
  later_due x [] later = tt
  later_due x (y ∷ ys) later = by_due (due (age_of clock now y) y) refl (later_due x ys later.1)
    where
      by_due : (d : Bool) → due (age_of clock now y) y ≡ d → All (Before x) (due_slots clock now ys)
          → All (Before x) (cond d (y ∷ due_slots clock now ys) (due_slots clock now ys))
      by_due true e rest = ((later.0 ((due_tells (age_of clock now y) y).says e).used).1, rest)
      by_due false e rest = rest

  pub due_ascend : (xs : List Slot) → InOrder xs → Ascends (due_slots clock now xs)
  unfolding due_slots
  due_ascend [] h = tt
  due_ascend (x ∷ xs) h = by_due (due (age_of clock now x) x) (due_ascend xs h.1)
    where
      by_due : (d : Bool) → Ascends (due_slots clock now xs) → Ascends (cond d (x ∷ due_slots clock now xs) (due_slots clock now xs))
      by_due true a = (later_due x xs h.0, a)
      by_due false a = a

  -- each is due
  pub only_due : (xs : List Slot) → All (λ x. Due (age_of clock now x) x) (due_slots clock now xs)
  unfolding due_slots
  only_due [] = tt
  only_due (x ∷ xs) = by_due (due (age_of clock now x) x) refl (only_due xs)
    where
      IsDue : Slot → Type 0
      IsDue y = Due (age_of clock now y) y

      by_due : (d : Bool) → due (age_of clock now x) x ≡ d → All IsDue (due_slots clock now xs)
          → All IsDue (cond d (x ∷ due_slots clock now xs) (due_slots clock now xs))
      by_due true e ps = ((due_tells (age_of clock now x) x).says e, ps)
      by_due false e ps = ps

-- ── of each stream ──
module _ (clock : Clock) (now : ℕ) (s : Stream) where
  abbrev pub if_due : Slot → Slot
  if_due x = cond (due (age_of clock now x) x) x empty

  none_due : if_due empty ≡ empty
  none_due = either_way (λ (z : Slot). z) (due (age_of clock now empty) empty) refl refl

  -- of a stream its slot, if that is due, and no other
  pub due_of_stream : (xs : List Slot) → Distinct xs → first (is_of s) (due_slots clock now xs) ≡ if_due (first (is_of s) xs)
  unfolding first due_slots
  due_of_stream [] ds = sym none_due
  due_of_stream (x ∷ xs) ds = by_slot (is_of s x) (due (age_of clock now x) x) refl refl (due_of_stream xs ds.1)
    where
      rest : List Slot
      rest = due_slots clock now xs

      -- no other slot has the stream of this one
      alone : is_of s x ≡ true → first (is_of s) xs ≡ empty
      alone here =
          let h = (and-eq-true_iff x.used _).0 here in
          let same : x.stream ≡ s = ap (λ (i : ℕ). record { 0 = i }) (eqb-true x.stream.0 s.0 h.1) in
          none_first (is_of s) xs (rw same at (ds.0 h.0))

      by_slot : (o d : Bool) → is_of s x ≡ o → due (age_of clock now x) x ≡ d → first (is_of s) rest ≡ if_due (first (is_of s) xs)
          → first (is_of s) (cond d (x ∷ rest) rest) ≡ if_due (cond o x (first (is_of s) xs))
      by_slot true true eo ed below = rw (eo, ed)
      by_slot true false eo ed below = below ∙ (ap if_due (alone eo) ∙ (none_due ∙ sym (ap (λ (b : Bool). cond b x empty) ed)))
      by_slot false true eo ed below = rw eo below
      by_slot false false eo ed below = below
