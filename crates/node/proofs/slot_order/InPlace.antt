-- A slot put in its place takes that of a free one.
use Rattle.std.proofs.Common.{◌≡◌, Bool, true, false, cond, ◌||◌, ltb, List, [], ◌∷◌, refl}
use mathlib.Core.List.Permᴰ
use mathlib.Core.List.{Permᴰ}
use Rattle.node.specs.declared.slots.Slot.{Slot}
use Rattle.node.specs.Slots.{is_free, on_first, some}
use Rattle.node.specs.SetUp.{less_free, in_place}
use Rattle.node.specs.OldLayout.{first_free}
use Rattle.node.specs.SlotOrder.{Fills}
use Rattle.node.proofs.Choices.{contrary}

-- in front of all it does
in_front_fills : (x : Slot) (ys : List Slot) → some is_free ys ≡ true → Permᴰ (x ∷ less_free ys) (first_free x ys)
unfolding some on_first less_free
in_front_fills x [] room = contrary room refl
in_front_fills x (y ∷ ys) room = arm (is_free y) refl (in_front_fills x ys)
  where
    arm : (t : Bool) → is_free y ≡ t → (some is_free ys ≡ true → Permᴰ (x ∷ less_free ys) (first_free x ys))
        → Permᴰ (x ∷ cond t ys (y ∷ less_free ys)) (cond t (x ∷ ys) (y ∷ first_free x ys))
    arm true e rest = Permᴰ.refl (x ∷ ys)
    arm false e rest = Permᴰ.trans (Permᴰ.swap refl refl) (Permᴰ.cons refl (rest (rw e at room)))

pub in_place_fills : Fills in_place
unfolding some on_first in_place
in_place_fills x [] room = contrary room refl
in_place_fills x (y ∷ ys) room = arm (is_free y) (ltb x.stream.0 y.stream.0) refl (in_place_fills x ys)
  where
    arm : (t u : Bool) → is_free y ≡ t → (some is_free ys ≡ true → Permᴰ (in_place x ys) (first_free x ys))
        → Permᴰ (cond (t || u) (x ∷ less_free (y ∷ ys)) (y ∷ in_place x ys)) (first_free x (y ∷ ys))
    arm true u e rest = in_front_fills x (y ∷ ys) room
    arm false true e rest = in_front_fills x (y ∷ ys) room
    arm false false e rest = rw e (Permᴰ.cons refl (rest (rw e at room)))
