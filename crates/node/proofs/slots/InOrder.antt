-- Slots in stream order stay so, with another slot in its place and through every change; and then no two are of one stream.
use Rattle.std.proofs.Common.{◌≡◌, ℕ, zero, suc, ◌<◌, Bool, true, false, cond, ◌||◌, ltb, List, [], ◌∷◌, map, length, replicate, sym, refl, ap, subst}
use Rattle.std.proofs.Common.{arith, ltb-false, ltb-true, ne_eqb}
use borrow.Author.Tests.{eqb-false, not-true, not-false}
use Rattle.wire.specs.declared.ids.Stream.{Stream}
use Rattle.wire.specs.declared.settings.Settings.{Settings}
use Rattle.node.specs.declared.slots.Slot.{Slot}
use Rattle.node.specs.Slots.{empty, slot_for, is_free, is_of, on_first, some}
use Rattle.node.specs.SetUp.{less_free, in_place}
use Rattle.node.specs.Reachable.{All, After, InOrder}
use Rattle.node.specs.SlotOrder.{Distinct}
use Rattle.node.proofs.Choices.{contrary, neither}
use Rattle.node.proofs.slots.Table.{all_map, all_weaken, all_replicate, all_on_first}
use Rattle.node.proofs.slots.Streams.{Kind, kind_of, KeepsKind}

-- ── with a slot put in its place ──
module _ (P : Slot → Type 0) where
  all_less_free : (ys : List Slot) → All P ys → All P (less_free ys)
  unfolding less_free
  all_less_free [] ps = tt
  all_less_free (y ∷ ys) ps = arm (is_free y) (all_less_free ys ps.1)
    where
      arm : (t : Bool) → All P (less_free ys) → All P (cond t ys (y ∷ less_free ys))
      arm true rest = ps.1
      arm false rest = (ps.0, rest)

  pub all_in_place : (x : Slot) → P x → (ys : List Slot) → All P ys → All P (in_place x ys)
  unfolding in_place
  all_in_place x p [] ps = tt
  all_in_place x p (y ∷ ys) ps = arm (is_free y || ltb x.stream.0 y.stream.0) (all_in_place x p ys ps.1)
    where
      arm : (t : Bool) → All P (in_place x ys) → All P (cond t (x ∷ less_free (y ∷ ys)) (y ∷ in_place x ys))
      arm true rest = (p, all_less_free (y ∷ ys) ps)
      arm false rest = (ps.0, rest)

length_less_free : (ys : List Slot) → some is_free ys ≡ true → suc (length (less_free ys)) ≡ length ys
unfolding some less_free
length_less_free [] room = contrary room refl
length_less_free (y ∷ ys) room = arm (is_free y) refl (length_less_free ys)
  where
    arm : (t : Bool) → is_free y ≡ t → (some is_free ys ≡ true → suc (length (less_free ys)) ≡ length ys)
        → suc (length (cond t ys (y ∷ less_free ys))) ≡ suc (length ys)
    arm true e rest = refl
    arm false e rest = ap suc (rest (rw e at room))

pub length_in_place : (x : Slot) (ys : List Slot) → some is_free ys ≡ true → length (in_place x ys) ≡ length ys
unfolding some in_place
length_in_place x [] room = refl
length_in_place x (y ∷ ys) room = arm (is_free y) (ltb x.stream.0 y.stream.0) refl (length_in_place x ys)
  where
    arm : (t u : Bool) → is_free y ≡ t → (some is_free ys ≡ true → length (in_place x ys) ≡ length ys)
        → length (cond (t || u) (x ∷ less_free (y ∷ ys)) (y ∷ in_place x ys)) ≡ suc (length ys)
    arm true u e rest = length_less_free (y ∷ ys) room
    arm false true e rest = length_less_free (y ∷ ys) room
    arm false false e rest = ap suc (rest (rw e at room))

less_free_in_order : (ys : List Slot) → InOrder ys → InOrder (less_free ys)
unfolding less_free
less_free_in_order [] h = tt
less_free_in_order (y ∷ ys) h = arm (is_free y) (less_free_in_order ys h.1)
  where
    arm : (t : Bool) → InOrder (less_free ys) → InOrder (cond t ys (y ∷ less_free ys))
    arm true rest = h.1
    arm false rest = (all_less_free (After y) ys h.0, rest)

abbrev Apart : Slot → Slot → Type 0
Apart x y = y.used ≡ true → x.stream.0 ≡ y.stream.0 → ⊥

in_place_in_order : (x : Slot) → x.used ≡ true → (ys : List Slot) → All (Apart x) ys → InOrder ys → InOrder (in_place x ys)
unfolding in_place
in_place_in_order x used [] apart h = tt
in_place_in_order x used (y ∷ ys) apart h =
    arm (is_free y) (ltb x.stream.0 y.stream.0) refl refl (in_place_in_order x used ys apart.1 h.1)
  where
    in_front : After x y → ((z : Slot) → After y z → After x z) → InOrder (x ∷ less_free (y ∷ ys))
    in_front first later =
        (all_less_free (After x) (y ∷ ys) (first, all_weaken (After y) (After x) later ys h.0), less_free_in_order (y ∷ ys) h)

    arm : (t u : Bool) → is_free y ≡ t → ltb x.stream.0 y.stream.0 ≡ u → InOrder (in_place x ys)
        → InOrder (cond (t || u) (x ∷ less_free (y ∷ ys)) (y ∷ in_place x ys))
    -- what follows a free slot is free
    arm true u e f rest =
        let free = not-true y.used e in
        in_front (λ used_y. contrary used_y free) (λ z a used_z. contrary (a used_z).0 free)
    arm false true e f rest =
        let lower = ltb-true x.stream.0 y.stream.0 f in
        in_front (λ used_y. (used, lower)) (λ z a used_z. (used, omega (arith, (a used_z).1)))
    arm false false e f rest =
        let used_y = not-false y.used e in
        let lower : y.stream.0 < x.stream.0 = omega (arith, ltb-false x.stream.0 y.stream.0 f, apart.0 used_y) in
        (all_in_place (After y) x (λ u. (used_y, lower)) ys h.0, rest)

-- a stream that has no slot is that of none in use
new_apart : (s : Stream) (settings : Settings) (xs : List Slot) → some (is_of s) xs ≡ false → All (Apart (slot_for s settings)) xs
unfolding some
new_apart s settings [] new = tt
new_apart s settings (x ∷ xs) new =
    let h = neither (is_of s x) (some (is_of s) xs) new in
    (λ used same. eqb-false x.stream.0 s.0 (rw used at h.0) (sym same), new_apart s settings xs h.1)

pub set_up_in_order : (s : Stream) (settings : Settings) (xs : List Slot) → some (is_of s) xs ≡ false → InOrder xs
    → InOrder (in_place (slot_for s settings) xs)
set_up_in_order s settings xs new h = in_place_in_order (slot_for s settings) refl xs (new_apart s settings xs new) h

pub fresh_in_order : (n : ℕ) → InOrder (replicate n empty)
fresh_in_order zero = tt
fresh_in_order (suc n) = (all_replicate (After empty) n empty (λ used. contrary used refl), fresh_in_order n)

-- ── a change that keeps kinds ──
abbrev AfterKind : Kind → Kind → Type 0
AfterKind j k = k.used ≡ true → (j.used ≡ true) × (j.stream.0 < k.stream.0)

module _ (f : Slot → Slot) (keeps : KeepsKind f) where
  after_from : (x y : Slot) → After x y → After (f x) y
  after_from x y = subst (λ (k : Kind). AfterKind k (kind_of y)) (sym (keeps x))

  after_to : (x y : Slot) → After x y → After x (f y)
  after_to x y = subst (λ (k : Kind). AfterKind (kind_of x) k) (sym (keeps y))

  pub map_in_order : (xs : List Slot) → InOrder xs → InOrder (map f xs)
  map_in_order [] h = tt
  map_in_order (x ∷ xs) h = (
    all_map (After x) (After (f x)) f (λ y a. after_to (f x) y (after_from x y a)) xs h.0,
    map_in_order xs h.1,
  )

  pub on_first_in_order : (test : Slot → Bool) (xs : List Slot) → InOrder xs → InOrder (on_first test f xs)
  unfolding on_first
  on_first_in_order test [] h = tt
  on_first_in_order test (x ∷ xs) h = arm (test x) (on_first_in_order test xs h.1)
    where
      arm : (t : Bool) → InOrder (on_first test f xs) → InOrder (cond t (f x ∷ xs) (x ∷ on_first test f xs))
      arm true rest = (all_weaken (After x) (After (f x)) (after_from x) xs h.0, h.1)
      arm false rest = (all_on_first (After x) test f xs h.0 (λ here a. after_to x _ a), rest)

-- ── of one stream there is one slot ──
none_later : (x : Slot) → x.used ≡ true → (ys : List Slot) → All (After x) ys → some (is_of x.stream) ys ≡ false
unfolding some
none_later x used [] later = refl
none_later x used (y ∷ ys) later = rw (other y.used refl, none_later x used ys later.1)
  where
    other : (u : Bool) → y.used ≡ u → is_of x.stream y ≡ false
    other true e = rw e (ne_eqb y.stream.0 x.stream.0 (λ same. omega (arith, (later.0 e).1)))
    other false e = rw e

pub in_order_distinct : (xs : List Slot) → InOrder xs → Distinct xs
in_order_distinct [] h = tt
in_order_distinct (x ∷ xs) h = (λ used. none_later x used xs h.0, in_order_distinct xs h.1)
