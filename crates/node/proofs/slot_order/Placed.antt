-- How a slot is placed in a list that ascends by stream: before a slot of a greater stream, after one of a lower, instead of one of its own.
use Rattle.std.proofs.Common.{◌≡◌, ℕ, ◌<◌, Bool, true, false, ltb, List, ◌∷◌, refl, arith, ltb-false, ltb-true, le-ltb, lt-ltb, eq-eqb, ne_eqb}
use Rattle.node.specs.declared.slots.Slot.{Slot}
use Rattle.node.specs.OldLayout.{place}

pub data Compared (a b : ℕ) : Type 0 where
  below : a < b → Compared a b
  equal : a ≡ b → Compared a b
  above : b < a → Compared a b

pub compared : (a b : ℕ) → Compared a b
compared a b = go (ltb b a) (ltb a b) refl refl
  where
    go : (t u : Bool) → ltb b a ≡ t → ltb a b ≡ u → Compared a b
    go true u p q = above (ltb-true b a p)
    go false true p q = below (ltb-true a b q)
    go false false p q = let h = ltb-false b a p in let k = ltb-false a b q in equal (omega arith)

module _ (x y : Slot) (ys : List Slot) where
  pub placed_after : y.stream.0 < x.stream.0 → place x (y ∷ ys) ≡ y ∷ place x ys
  placed_after h = rw (lt-ltb y.stream.0 x.stream.0 h)

  pub placed_instead : x.stream.0 ≡ y.stream.0 → place x (y ∷ ys) ≡ x ∷ ys
  placed_instead e = rw (le-ltb y.stream.0 x.stream.0 (omega arith), eq-eqb x.stream.0 y.stream.0 e)

  pub placed_before : x.stream.0 < y.stream.0 → place x (y ∷ ys) ≡ x ∷ y ∷ ys
  placed_before h =
      rw (le-ltb y.stream.0 x.stream.0 (omega arith), ne_eqb x.stream.0 y.stream.0 (λ e. omega arith))
