-- What a tick delivers: of the slots exactly those that are due.
use Rattle.std.proofs.Common.{◌≡◌, ℕ, Bool, true, false, cond, ◌⊎◌, List, [], ◌∷◌, sym, refl, ap, ◌∙◌, inl, inr, ⊎_elim, true≢false}
use mathlib.Core.List.Memᴰ
use mathlib.Core.List.{Memᴰ}
use Rattle.wire.specs.Tells.{Tells}
use Rattle.node.specs.declared.slots.Slot.{Slot}
use Rattle.node.specs.Clock.{Clock}
use Rattle.node.specs.Tick.{due, age_of, due_slots}

module _ (clock : Clock) (now : ℕ) where
  abbrev is_due : Slot → Bool
  is_due x = due (age_of clock now x) x

  delivered_if_due : (xs : List Slot) (z : Slot) → Memᴰ z xs → is_due z ≡ true → Memᴰ z (due_slots clock now xs)
  unfolding due_slots
  delivered_if_due [] z i d = absurd (Memᴰ.not-nil i)
  delivered_if_due (x ∷ xs) z i d = go (is_due x) refl (λ j. delivered_if_due xs z j d) (Memᴰ.cases_cons i)
    where
      go : (t : Bool) → is_due x ≡ t → (Memᴰ z xs → Memᴰ z (due_slots clock now xs)) → (z ≡ x) ⊎ Memᴰ z xs
          → Memᴰ z (cond t (x ∷ due_slots clock now xs) (due_slots clock now xs))
      go true e ih (inl same) = Memᴰ.head same
      go true e ih (inr j) = Memᴰ.tail (ih j)
      go false e ih (inl same) = absurd (true≢false (sym d ∙ ap is_due same ∙ e))
      go false e ih (inr j) = ih j

  due_if_delivered : (xs : List Slot) (z : Slot) → Memᴰ z (due_slots clock now xs) → Memᴰ z xs × (is_due z ≡ true)
  unfolding due_slots
  due_if_delivered [] z i = absurd (Memᴰ.not-nil i)
  due_if_delivered (x ∷ xs) z i = go (is_due x) refl (due_if_delivered xs z) i
    where
      go : (t : Bool) → is_due x ≡ t → (Memᴰ z (due_slots clock now xs) → Memᴰ z xs × (is_due z ≡ true))
          → Memᴰ z (cond t (x ∷ due_slots clock now xs) (due_slots clock now xs)) → Memᴰ z (x ∷ xs) × (is_due z ≡ true)
      go true e ih i =
          ⊎_elim (λ same. (Memᴰ.head same, ap is_due same ∙ e)) (λ j. (Memᴰ.tail (ih j).0, (ih j).1)) (Memᴰ.cases_cons i)
      go false e ih i = let others = ih i in (Memᴰ.tail others.0, others.1)

  -- a slot of the table is delivered exactly if it is due
  pub delivered_exactly_if_due : (xs : List Slot) (z : Slot) → Memᴰ z xs → Tells (is_due z) (Memᴰ z (due_slots clock now xs))
  delivered_exactly_if_due xs z i = record { says = delivered_if_due xs z i; back = λ j. (due_if_delivered xs z j).1 }

  -- and what is delivered is a slot of the table
  pub delivered_from_table : (xs : List Slot) (z : Slot) → Memᴰ z (due_slots clock now xs) → Memᴰ z xs
  delivered_from_table xs z i = (due_if_delivered xs z i).0
