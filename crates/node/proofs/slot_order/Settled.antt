-- Settled slots: a test for a stream or for a free slot is true of one kind of slot alone; they are settled in every order, and after every change.
use Rattle.std.proofs.Common.{◌≡◌, ℕ, Bool, true, false, List, [], ◌∷◌, map, sym, refl, ap, ◌∙◌, subst, ne_eqb, eqb-true}
use mathlib.Core.Bool.{and-eq-true_iff}
use mathlib.Core.List.{Permᴰ}
use borrow.Author.Tests.{eqb-false, not-true}
use Rattle.wire.specs.declared.ids.Stream.{Stream}
use Rattle.wire.specs.declared.settings.Settings.{Settings}
use Rattle.node.specs.declared.slots.Slot.{Slot}
use Rattle.node.specs.Slots.{empty, slot_for, is_free, is_of, on_first, some}
use Rattle.node.specs.Clock.{Clock}
use Rattle.node.specs.Tick.{late, due, hold_over, lapsed, age_of, tick_slot}
use Rattle.node.specs.Reachable.{All}
use Rattle.node.specs.SlotOrder.{Distinct, Settled}
use Rattle.node.proofs.Choices.{contrary, neither}
use Rattle.node.proofs.slots.Table.{all_map, all_weaken, all_on_first}
use Rattle.node.proofs.slots.Streams.{Kind, KeepsKind, lapsed_keeps, distinct_map, distinct_on_first, distinct_set_up}
use Rattle.node.proofs.slot_order.Reordered.{some_reordered, all_reordered, Both, Alike}

abbrev pub EmptyIfFree : Slot → Type 0
EmptyIfFree x = x.used ≡ false → x ≡ empty

-- ── of one stream there is one slot ──
module _ (s : Stream) where
  no_other : (x : Slot) (ys : List Slot) → (x.used ≡ true → some (is_of x.stream) ys ≡ false) → All (Both (is_of s) x) ys
  unfolding some
  no_other x [] apart = tt
  no_other x (y ∷ ys) apart = (
    λ p q.
        let h = (and-eq-true_iff x.used _).0 p in
        let same : x.stream ≡ s = ap (λ (i : ℕ). record { 0 = i }) (eqb-true x.stream.0 s.0 h.1) in
        let other = (neither (is_of x.stream y) _ (apart h.0)).0 in
        contrary q (rw same at other),
    no_other x ys (λ used. (neither (is_of x.stream y) _ (apart used)).1),
  )

  pub one_of_stream : (xs : List Slot) → Distinct xs → Alike (is_of s) xs
  one_of_stream [] ds = tt
  one_of_stream (x ∷ xs) ds = (no_other x xs ds.0, one_of_stream xs ds.1)

-- free slots are the same slot
pub free_alike : (xs : List Slot) → All EmptyIfFree xs → Alike is_free xs
free_alike [] es = tt
free_alike (x ∷ xs) es = (
  all_weaken EmptyIfFree (Both is_free x) (λ y e p q. es.0 (not-true x.used p) ∙ sym (e (not-true y.used q))) xs es.1,
  free_alike xs es.1,
)

-- ── in every order ──
pub distinct_reordered : {xs ys : List Slot} → Permᴰ xs ys → Distinct xs → Distinct ys
unfolding some
distinct_reordered Permᴰ.nil ds = ds
distinct_reordered (Permᴰ.cons {a} e d) ds =
    rw (← e) (λ used. sym (some_reordered (is_of a.stream) d) ∙ ds.0 used, distinct_reordered d ds.1)
distinct_reordered (Permᴰ.swap {a = a} {b = b} {a' = a'} {b' = b'} {l = l} e₁ e₂) ds =
    subst (λ (x : Slot). Distinct (a' ∷ x ∷ l)) e₁
    (subst (λ (y : Slot). Distinct (y ∷ a ∷ l)) e₂
    (λ used. rw (other a.used refl used) (ds.1.0 used), (λ used. (neither (is_of a.stream b) _ (ds.0 used)).1, ds.1.1)))
  where
    other : (u : Bool) → a.used ≡ u → b.used ≡ true → is_of b.stream a ≡ false
    other true e used =
        let apart = (neither (is_of a.stream b) _ (ds.0 e)).0 in
        rw e (ne_eqb _ _ (λ same. eqb-false b.stream.0 a.stream.0 (rw used at apart) (sym same)))
    other false e used = rw e
distinct_reordered (Permᴰ.trans d₁ d₂) ds = distinct_reordered d₂ (distinct_reordered d₁ ds)

pub settled_reordered : {xs ys : List Slot} → Permᴰ xs ys → Settled xs → Settled ys
settled_reordered d h = record { distinct = distinct_reordered d h.distinct; free = all_reordered EmptyIfFree d h.free }

-- ── after every change ──
module _ (f : Slot → Slot) (keeps : KeepsKind f) (xs : List Slot) (h : Settled xs) where
  still_used : (x : Slot) → (f x).used ≡ x.used
  still_used x = ap (λ (k : Kind). k.used) (keeps x)

  pub settled_on_slot : (s : Stream) → Settled (on_first (is_of s) f xs)
  settled_on_slot s =
      record {
        distinct = distinct_on_first f keeps (is_of s) xs h.distinct;
        free = all_on_first EmptyIfFree (is_of s) f xs h.free
            (λ here e free. contrary ((and-eq-true_iff _ _).0 here).0 (sym (still_used _) ∙ free));
      }

  pub settled_map : f empty ≡ empty → Settled (map f xs)
  settled_map none =
      record {
        distinct = distinct_map f keeps xs h.distinct;
        free = all_map EmptyIfFree EmptyIfFree f (λ x e free. ap f (e (sym (still_used x) ∙ free)) ∙ none) xs h.free;
      }

module _ (clock : Clock) (now : ℕ) where
  pub tick_keeps : KeepsKind (tick_slot clock now)
  tick_keeps x = lapsed_keeps (age_of clock now x) x

  pub none_ticked : tick_slot clock now empty ≡ empty
  unfolding lapsed late due hold_over
  none_ticked = refl

pub settled_set_up : (s : Stream) (settings : Settings) (xs : List Slot) → some (is_of s) xs ≡ false → Settled xs
    → Settled (on_first is_free (λ x. slot_for s settings) xs)
settled_set_up s settings xs new h =
    record {
      distinct = distinct_set_up s settings xs new h.distinct;
      free = all_on_first EmptyIfFree is_free (λ x. slot_for s settings) xs h.free (λ here e free. contrary refl free);
    }
