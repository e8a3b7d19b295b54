-- Slots in another order: what `some`, `first`, `onFirst` and `map` make of them, and what all of them keep.
use Rattle.std.proofs.Common.{◌≡◌, Bool, true, false, cond, ◌||◌, List, [], ◌∷◌, sym, refl, ap, ◌∙◌, subst}
use mathlib.Core.List.Permᴰ
use mathlib.Core.List.{Permᴰ}
use Rattle.node.specs.declared.slots.Slot.{Slot}
use Rattle.node.specs.Slots.{first, on_first, some}
use Rattle.node.specs.Reachable.{All}

or_swap : (a b c : Bool) → (a || (b || c)) ≡ (b || (a || c))
or_swap true true c = refl
or_swap true false c = refl
or_swap false true c = refl
or_swap false false c = refl

pub some_reordered : (test : Slot → Bool) {xs ys : List Slot} → Permᴰ xs ys → some test xs ≡ some test ys
unfolding some
some_reordered test Permᴰ.nil = refl
some_reordered test (Permᴰ.cons e d) = rw (e, some_reordered test d)
some_reordered test (Permᴰ.swap {a' = a} {b' = b} {l = l} e₁ e₂) = rw (e₁, e₂) (or_swap (test b) (test a) (some test l))
some_reordered test (Permᴰ.trans d₁ d₂) = some_reordered test d₁ ∙ some_reordered test d₂

pub all_reordered : (P : Slot → Type 0) {xs ys : List Slot} → Permᴰ xs ys → All P xs → All P ys
all_reordered P Permᴰ.nil ps = ps
all_reordered P (Permᴰ.cons e d) ps = (rw (← e) ps.0, all_reordered P d ps.1)
all_reordered P (Permᴰ.swap e₁ e₂) ps = (rw (← e₂) ps.1.0, (rw (← e₁) ps.0, ps.1.1))
all_reordered P (Permᴰ.trans d₁ d₂) ps = all_reordered P d₂ (all_reordered P d₁ ps)

-- ── slots of which a test is true are all the same slot ──
module _ (test : Slot → Bool) where
  abbrev pub Both : Slot → Slot → Type 0
  Both x y = test x ≡ true → test y ≡ true → x ≡ y

  abbrev pub Alike : List Slot → Type 0
  Alike [] = Unit {0}
  Alike (x ∷ xs) = All (Both x) xs × Alike xs

  alike_reordered : {xs ys : List Slot} → Permᴰ xs ys → Alike xs → Alike ys
  alike_reordered Permᴰ.nil alike = alike
  alike_reordered (Permᴰ.cons e d) alike = (rw (← e) (all_reordered (Both _) d alike.0), alike_reordered d alike.1)
  alike_reordered (Permᴰ.swap {a = a} {b = b} {a' = a'} {b' = b'} {l = l} e₁ e₂) alike =
      subst (λ (x : Slot). Alike (a' ∷ x ∷ l)) e₁
      (subst (λ (y : Slot). Alike (y ∷ a ∷ l)) e₂ ((λ p q. sym (alike.0.0 q p), alike.1.0), (alike.0.1, alike.1.1)))
  alike_reordered (Permᴰ.trans d₁ d₂) alike = alike_reordered d₂ (alike_reordered d₁ alike)

  -- the first is the same one
  pub first_reordered : {xs ys : List Slot} → Permᴰ xs ys → Alike xs → first test xs ≡ first test ys
  unfolding first
  first_reordered Permᴰ.nil alike = refl
  first_reordered (Permᴰ.cons e d) alike = rw (e, first_reordered d alike.1)
  first_reordered (Permᴰ.swap {a} {b} {l = l} e₁ e₂) alike = rw (← e₁, ← e₂) (arm (test a) (test b) refl refl)
    where
      arm : (t u : Bool) → test a ≡ t → test b ≡ u → cond t a (cond u b (first test l)) ≡ cond u b (cond t a (first test l))
      arm true true p q = alike.0.0 p q
      arm true false p q = refl
      arm false true p q = refl
      arm false false p q = refl
  first_reordered (Permᴰ.trans d₁ d₂) alike = first_reordered d₁ alike ∙ first_reordered d₂ (alike_reordered d₁ alike)

  -- and a change of it changes the same one
  pub on_first_reordered : (change : Slot → Slot) {xs ys : List Slot} → Permᴰ xs ys → Alike xs
      → Permᴰ (on_first test change xs) (on_first test change ys)
  unfolding on_first
  on_first_reordered change Permᴰ.nil alike = Permᴰ.nil
  on_first_reordered change (Permᴰ.cons {a} {l₁ = l₁} {l₂ = l₂} e d) alike = rw (← e) (arm (test a) (on_first_reordered change d alike.1))
    where
      arm : (t : Bool) → Permᴰ (on_first test change l₁) (on_first test change l₂)
          → Permᴰ (cond t (change a ∷ l₁) (a ∷ on_first test change l₁)) (cond t (change a ∷ l₂) (a ∷ on_first test change l₂))
      arm true rest = Permᴰ.cons refl d
      arm false rest = Permᴰ.cons refl rest
  on_first_reordered change (Permᴰ.swap {a} {b} {l = l} e₁ e₂) alike = rw (← e₁, ← e₂) (arm (test a) (test b) refl refl)
    where
      arm : (t u : Bool) → test a ≡ t → test b ≡ u
          → Permᴰ (cond t (change a ∷ b ∷ l) (a ∷ cond u (change b ∷ l) (b ∷ on_first test change l)))
          (cond u (change b ∷ a ∷ l) (b ∷ cond t (change a ∷ l) (a ∷ on_first test change l)))
      arm true true p q = let same = alike.0.0 p q in Permᴰ.cons (ap change same) (Permᴰ.cons (sym same) (Permᴰ.refl l))
      arm true false p q = Permᴰ.swap refl refl
      arm false true p q = Permᴰ.swap refl refl
      arm false false p q = Permᴰ.swap refl refl
  on_first_reordered change (Permᴰ.trans d₁ d₂) alike =
      Permᴰ.trans (on_first_reordered change d₁ alike) (on_first_reordered change d₂ (alike_reordered d₁ alike))
