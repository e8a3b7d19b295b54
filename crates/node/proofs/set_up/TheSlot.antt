-- The slot of a stream, after one was put in its place: the new one, or what it was.
use Rattle.std.proofs.Common.{◌≡◌, Bool, true, false, cond, ◌||◌, ltb, List, [], ◌∷◌, refl, ap}
use borrow.Author.Tests.{not-true}
use Rattle.wire.specs.declared.ids.Stream.{Stream}
use Rattle.node.specs.declared.slots.Slot.{Slot}
use Rattle.node.specs.Slots.{is_free, is_of, first, some}
use Rattle.node.specs.SetUp.{less_free, in_place}
use Rattle.node.proofs.Choices.{contrary, neither}

module _ (s : Stream) (x : Slot) where
  -- a free slot is of no stream
  without_free : (ys : List Slot) → first (is_of s) (less_free ys) ≡ first (is_of s) ys
  unfolding first less_free
  without_free [] = refl
  without_free (y ∷ ys) = arm (is_free y) refl (without_free ys)
    where
      arm : (t : Bool) → is_free y ≡ t → first (is_of s) (less_free ys) ≡ first (is_of s) ys
          → first (is_of s) (cond t ys (y ∷ less_free ys)) ≡ cond (is_of s y) y (first (is_of s) ys)
      arm true e rest = rw (not-true y.used e)
      arm false e rest = ap (cond (is_of s y) y) rest

  pub other_stays : is_of s x ≡ false → (ys : List Slot) → first (is_of s) (in_place x ys) ≡ first (is_of s) ys
  unfolding first in_place
  other_stays other [] = refl
  other_stays other (y ∷ ys) = arm (is_free y || ltb x.stream.0 y.stream.0) (other_stays other ys)
    where
      arm : (t : Bool) → first (is_of s) (in_place x ys) ≡ first (is_of s) ys
          → first (is_of s) (cond t (x ∷ less_free (y ∷ ys)) (y ∷ in_place x ys)) ≡ cond (is_of s y) y (first (is_of s) ys)
      arm true rest = rw other (without_free (y ∷ ys))
      arm false rest = ap (cond (is_of s y) y) rest

  pub own_is_found : is_of s x ≡ true → (ys : List Slot) → some (is_of s) ys ≡ false → some is_free ys ≡ true → first (is_of s) (in_place x ys) ≡ x
  unfolding first some in_place
  own_is_found own [] new room = contrary room refl
  own_is_found own (y ∷ ys) new room =
      let h = neither (is_of s y) (some (is_of s) ys) new in
      arm (is_free y) (ltb x.stream.0 y.stream.0) refl h.0 (own_is_found own ys h.1)
    where
      arm : (t u : Bool) → is_free y ≡ t → is_of s y ≡ false → (some is_free ys ≡ true → first (is_of s) (in_place x ys) ≡ x)
          → first (is_of s) (cond (t || u) (x ∷ less_free (y ∷ ys)) (y ∷ in_place x ys)) ≡ x
      arm true u e other rest = rw own
      arm false true e other rest = rw own
      arm false false e other rest = rw other (rest (rw e at room))
