-- On slots in stream order the due slots stand in the order in which the old layout places them, so that a tick writes the same records.
use Rattle.std.proofs.Common.{◌≡◌, ℕ, Bool, true, false, cond, List, [], ◌∷◌, sym, refl}
use Rattle.node.specs.declared.slots.Slot.{Slot}
use Rattle.node.specs.declared.Node.{Node}
use Rattle.node.specs.Clock.{Clock}
use Rattle.node.specs.Tick.{due, age_of, due_slots, tick}
use Rattle.node.specs.OldLayout.{place, due_by_stream, tick_by_stream}
use Rattle.node.specs.Reachable.{All, InOrder}
use Rattle.node.proofs.tick.Ascending.{Before, later_due}
use Rattle.node.proofs.slot_order.Placed.{placed_before}

placed_first : (x : Slot) (l : List Slot) → All (Before x) l → place x l ≡ x ∷ l
placed_first x [] later = refl
placed_first x (y ∷ ys) later = placed_before x y ys later.0

module _ (clock : Clock) (now : ℕ) where
  abbrev is_due : Slot → Bool
  is_due x = due (age_of clock now x) x

  due_in_order : (xs : List Slot) → InOrder xs → due_slots clock now xs ≡ due_by_stream clock now xs
  unfolding due_slots due_by_stream
  due_in_order [] h = refl
  due_in_order (x ∷ xs) h =
      rw (← (due_in_order xs h.1)) (arm (is_due x))
    where
      arm : (t : Bool) → cond t (x ∷ due_slots clock now xs) (due_slots clock now xs) ≡ cond t (place x (due_slots clock now xs)) (due_slots clock now xs)
      arm true = sym (placed_first x (due_slots clock now xs) (later_due clock now x xs h.0))
      arm false = refl

pub tick_in_order : (clock : Clock) (output : List ℕ) (n : Node) → InOrder n.slots → tick clock output n ≡ tick_by_stream clock output n
unfolding tick
tick_in_order clock output n h = rw (due_in_order clock (clock.next n.counter) n.slots h)
