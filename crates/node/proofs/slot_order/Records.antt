-- What a tick delivers and tells, and the lowest pending identifier, from slots in another order.
use Rattle.std.proofs.Common.{◌≡◌, ℕ, ◌<◌, Bool, true, false, cond, List, [], ◌∷◌, ◌++◌, sym, refl, ap, ◌∙◌, arith}
use borrow.Author.Tests.{eqb-false}
use mathlib.Core.List.{Permᴰ}
use Rattle.node.specs.declared.slots.Slot.{Slot}
use Rattle.node.specs.Slots.{is_of, some, many}
use Rattle.node.specs.Clock.{Clock}
use Rattle.node.specs.Tick.{due, age_of}
use Rattle.node.specs.OldLayout.{place, due_by_stream, pending_in, pending_ids}
use Rattle.node.specs.SlotOrder.{Distinct}
use Rattle.node.proofs.Choices.{neither}
use Rattle.node.proofs.tick.Tests.{due_tells}
use Rattle.node.proofs.slot_order.Placed.{Compared, below, equal, above, compared, placed_before, placed_instead, placed_after}
use Rattle.node.proofs.slot_order.LowestOfAll.{lowest_or_above, lowest_append}
use Rattle.node.proofs.slot_order.Settled.{distinct_reordered}

-- ── two slots placed, in either order ──
module _ (x y : Slot) (lower : x.stream.0 < y.stream.0) where
  placed_either_way : (l : List Slot) → place x (place y l) ≡ place y (place x l)
  placed_either_way [] = placed_before x y [] lower ∙ sym (placed_after y x [] lower)
  placed_either_way (z ∷ zs) = go (placed_either_way zs) (compared x.stream.0 z.stream.0) (compared y.stream.0 z.stream.0)
    where
      by : {a b : List Slot} → place y (z ∷ zs) ≡ a → place x (z ∷ zs) ≡ b → place x a ≡ place y b
          → place x (place y (z ∷ zs)) ≡ place y (place x (z ∷ zs))
      by p q same = ap (place x) p ∙ same ∙ sym (ap (place y) q)

      -- x stays before y and the rest
      before_rest : (l : List Slot) {k : List Slot} → place y l ≡ k → x ∷ k ≡ place y (x ∷ l)
      before_rest l p = ap (λ (k : List Slot). x ∷ k) (sym p) ∙ sym (placed_after y x l lower)

      go : place x (place y zs) ≡ place y (place x zs) → Compared x.stream.0 z.stream.0 → Compared y.stream.0 z.stream.0
          → place x (place y (z ∷ zs)) ≡ place y (place x (z ∷ zs))
      go ih (below p) (below q) =
          let y_placed = placed_before y z zs q in
          by y_placed (placed_before x z zs p) (placed_before x y (z ∷ zs) lower ∙ before_rest (z ∷ zs) y_placed)
      go ih (below p) (equal q) =
          let y_placed = placed_instead y z zs q in
          by y_placed (placed_before x z zs p) (placed_before x y zs lower ∙ before_rest (z ∷ zs) y_placed)
      go ih (below p) (above q) =
          let y_placed = placed_after y z zs q in
          by y_placed (placed_before x z zs p) (placed_before x z (place y zs) p ∙ before_rest (z ∷ zs) y_placed)
      go ih (equal p) (above q) =
          by (placed_after y z zs q) (placed_instead x z zs p) (placed_instead x z (place y zs) p ∙ before_rest zs refl)
      go ih (above p) (above q) =
          by (placed_after y z zs q) (placed_after x z zs p)
          (placed_after x z (place y zs) p ∙ ap (λ (l : List Slot). z ∷ l) ih ∙ sym (placed_after y z (place x zs) q))
      go ih (equal p) (below q) = absurd (omega arith)
      go ih (equal p) (equal q) = absurd (omega arith)
      go ih (above p) (below q) = absurd (omega arith)
      go ih (above p) (equal q) = absurd (omega arith)

placed_any_way : (x y : Slot) → (x.stream.0 ≡ y.stream.0 → ⊥) → (l : List Slot) → place x (place y l) ≡ place y (place x l)
placed_any_way x y apart l = go (compared x.stream.0 y.stream.0)
  where
    go : Compared x.stream.0 y.stream.0 → place x (place y l) ≡ place y (place x l)
    go (below p) = placed_either_way x y p l
    go (equal p) = absurd (apart p)
    go (above p) = sym (placed_either_way y x p l)

-- ── the due slots ──
module _ (clock : Clock) (now : ℕ) where
  abbrev is_due : Slot → Bool
  is_due x = due (age_of clock now x) x

  pub due_reordered : {xs ys : List Slot} → Permᴰ xs ys → Distinct xs → due_by_stream clock now xs ≡ due_by_stream clock now ys
  unfolding due_by_stream some
  due_reordered Permᴰ.nil ds = refl
  due_reordered (Permᴰ.cons e d) ds = rw (e, due_reordered d ds.1)
  due_reordered (Permᴰ.swap {a} {b} {l = l} e₁ e₂) ds = rw (← e₁, ← e₂) (arm (is_due a) (is_due b) refl refl)
    where
      rest : List Slot
      rest = due_by_stream clock now l

      apart : is_due a ≡ true → is_due b ≡ true → a.stream.0 ≡ b.stream.0 → ⊥
      apart p q same =
          let other = (neither (is_of a.stream b) _ (ds.0 ((due_tells (age_of clock now a) a).says p).used)).0 in
          eqb-false b.stream.0 a.stream.0 (rw ((due_tells (age_of clock now b) b).says q).used at other) (sym same)

      arm : (t u : Bool) → is_due a ≡ t → is_due b ≡ u
          → cond t (place a (cond u (place b rest) rest)) (cond u (place b rest) rest)
          ≡ cond u (place b (cond t (place a rest) rest)) (cond t (place a rest) rest)
      arm true true p q = placed_any_way a b (apart p q) rest
      arm true false p q = refl
      arm false true p q = refl
      arm false false p q = refl
  due_reordered (Permᴰ.trans d₁ d₂) ds = due_reordered d₁ ds ∙ due_reordered d₂ (distinct_reordered d₁ ds)

-- ── how many are late, or due ──
pub many_reordered : (test : Slot → Bool) {xs ys : List Slot} → Permᴰ xs ys → many test xs ≡ many test ys
unfolding many
many_reordered test Permᴰ.nil = refl
many_reordered test (Permᴰ.cons e d) = rw (e, many_reordered test d)
many_reordered test (Permᴰ.swap {a} {b} {l = l} e₁ e₂) = rw (← e₁, ← e₂) (omega arith)
many_reordered test (Permᴰ.trans d₁ d₂) = many_reordered test d₁ ∙ many_reordered test d₂

-- ── the lowest pending identifier ──
pub lowest_reordered : {xs ys : List Slot} → Permᴰ xs ys → lowest_or_above (pending_ids xs) ≡ lowest_or_above (pending_ids ys)
unfolding pending_ids
lowest_reordered Permᴰ.nil = refl
lowest_reordered (Permᴰ.cons {a} {b} {l₁} {l₂} e d) =
    rw (e, lowest_append (pending_in b) (pending_ids l₁), lowest_append (pending_in b) (pending_ids l₂), lowest_reordered d)
lowest_reordered (Permᴰ.swap {a} {b} {l = l} e₁ e₂) =
    rw (
      ← e₁,
      ← e₂,
      lowest_append (pending_in a) (pending_in b ++ pending_ids l),
      lowest_append (pending_in b) (pending_ids l),
      lowest_append (pending_in b) (pending_in a ++ pending_ids l),
      lowest_append (pending_in a) (pending_ids l),
    )
    (omega arith)
lowest_reordered (Permᴰ.trans d₁ d₂) = lowest_reordered d₁ ∙ lowest_reordered d₂
