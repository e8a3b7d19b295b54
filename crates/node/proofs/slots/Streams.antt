-- No call changes the stream or the settings of a slot that is set up, and distinct streams stay distinct.
use Rattle.std.proofs.Common.{◌≡◌, ℕ, zero, suc, Bool, true, false, cond, ◌&&◌, eqb, List, [], ◌∷◌, map, replicate, sym, refl, ap, ◌∙◌, subst, ne_eqb}
use mathlib.Core.Bool.{false≢true}
use borrow.Author.Tests.{eqb-false}
use Rattle.wire.specs.declared.ids.Stream.{Stream}
use Rattle.wire.specs.declared.settings.Settings.{Settings}
use Rattle.node.specs.declared.slots.Slot.{Slot}
use Rattle.node.specs.declared.Node.{Node}
use Rattle.node.specs.Slots.{slot_for, empty, is_free, is_of, on_first, some}
use Rattle.node.specs.Nodes.{slot_of, on_slot}
use Rattle.node.specs.SlotOrder.{Distinct}
use Rattle.node.specs.Hear.{heard_by}
use Rattle.node.specs.Clock.{Clock}
use Rattle.node.specs.Tick.{late, due, hold_over, lapsed, age_of, tick_slot, ticked}
use Rattle.node.specs.Request.{requested}
use Rattle.node.specs.NextFrame.{given_out, lowest_code, lowest_given}
use Rattle.node.proofs.Choices.{either_way, neither}
use Rattle.node.proofs.slots.Table.{some_map, first_map, some_on_first, first_on_first}

-- what set up gave a slot
pub record Kind : Type 0 where
  pub used : Bool
  pub stream : Stream
  pub settings : Settings

abbrev pub kind_of : Slot → Kind
kind_of x = record { used = x.used; stream = x.stream; settings = x.settings }

abbrev pub KeepsKind : (Slot → Slot) → Type 0
KeepsKind f = (x : Slot) → kind_of (f x) ≡ kind_of x

pub heard_keeps : (now code : ℕ) (payload : List ℕ) → KeepsKind (heard_by now code payload)
unfolding heard_by
heard_keeps now code payload x =
    either_way kind_of (eqb code 0) refl
    (either_way kind_of (eqb code 1) (either_way kind_of x.message.held refl refl)
    (either_way kind_of (eqb code 2) (either_way kind_of x.message.held refl refl) refl))

pub lapsed_keeps : (age : ℕ) → KeepsKind (lapsed age)
unfolding lapsed
lapsed_keeps age x =
    either_way kind_of (late age x) refl (either_way kind_of (due age x) refl (either_way kind_of (hold_over age x) refl refl))

pub requested_keeps : (now : ℕ) (payload : List ℕ) → KeepsKind (requested now payload)
unfolding requested
requested_keeps now payload x = refl

pub given_out_keeps : (code : ℕ) → KeepsKind (given_out code)
unfolding given_out
given_out_keeps code x = refl

pub lowest_given_keeps : KeepsKind lowest_given
lowest_given_keeps x = given_out_keeps (lowest_code x) x

abbrev is_of_law : Stream → Kind → Bool
is_of_law s k = k.used && eqb k.stream.0 s.0

-- ── the slot of a stream, after a change ──
pub slot_of_changed : (s : Stream) (f : Slot → Slot) → KeepsKind f → (n : Node) → (slot_of s n).used ≡ true
    → slot_of s (on_slot s f n) ≡ f (slot_of s n)
slot_of_changed s f keeps n used = first_on_first (is_of s) f (λ x. ap (is_of_law s) (keeps x)) n.slots used

pub slot_of_ticked : (clock : Clock) (s : Stream) (n : Node) → slot_of s (ticked clock n) ≡ tick_slot clock (clock.next n.counter) (slot_of s n)
unfolding lapsed late due hold_over
slot_of_ticked clock s n =
    let f : Slot → Slot = tick_slot clock (clock.next n.counter) in
    first_map (is_of s) f (λ x. ap (is_of_law s) (lapsed_keeps (age_of clock (clock.next n.counter) x) x)) refl n.slots

-- ── distinct streams ──
abbrev Apart : Kind → List Slot → Type 0
Apart k xs = k.used ≡ true → some (is_of k.stream) xs ≡ false

-- free slots have no stream
pub distinct_fresh : (n : ℕ) → Distinct (replicate n empty)
distinct_fresh zero = tt
distinct_fresh (suc n) = (λ used. absurd (false≢true used), distinct_fresh n)

module _ (f : Slot → Slot) (keeps : KeepsKind f) where
  pub distinct_map : (xs : List Slot) → Distinct xs → Distinct (map f xs)
  distinct_map [] ds = tt
  distinct_map (x ∷ xs) ds = (
    subst (λ (k : Kind). Apart k (map f xs)) (sym (keeps x))
        (λ used. some_map (is_of x.stream) f (λ y. ap (is_of_law x.stream) (keeps y)) xs ∙ ds.0 used),
    distinct_map xs ds.1,
  )

  pub distinct_on_first : (test : Slot → Bool) (xs : List Slot) → Distinct xs → Distinct (on_first test f xs)
  unfolding on_first
  distinct_on_first test [] ds = tt
  distinct_on_first test (x ∷ xs) ds = arm (test x)
      (λ used. some_on_first test (is_of x.stream) f (λ y. ap (is_of_law x.stream) (keeps y)) xs ∙ ds.0 used)
      (distinct_on_first test xs ds.1)
    where
      arm : (t : Bool) → Apart (kind_of x) (on_first test f xs) → Distinct (on_first test f xs) → Distinct (cond t (f x ∷ xs) (x ∷ on_first test f xs))
      arm true a d = (subst (λ (k : Kind). Apart k xs) (sym (keeps x)) ds.0, ds.1)
      arm false a d = (a, d)

-- a stream that has no slot gets one
module _ (s : Stream) (settings : Settings) where
  abbrev with_slot : List Slot → List Slot
  with_slot xs = on_first is_free (λ x. slot_for s settings) xs

  others_apart : (t : Stream) → eqb s.0 t.0 ≡ false → (xs : List Slot) → some (is_of t) xs ≡ false → some (is_of t) (with_slot xs) ≡ false
  unfolding on_first some
  others_apart t other [] none = refl
  others_apart t other (x ∷ xs) none =
      let h = neither (is_of t x) (some (is_of t) xs) none in
      either_way (some (is_of t)) (is_free x) (rw (other, h.1)) (rw (h.0, others_apart t other xs h.1))

  pub distinct_set_up : (xs : List Slot) → some (is_of s) xs ≡ false → Distinct xs → Distinct (with_slot xs)
  unfolding on_first some
  distinct_set_up [] none ds = tt
  distinct_set_up (x ∷ xs) none ds =
      let h = neither (is_of s x) (some (is_of s) xs) none in
      arm (is_free x) (λ used. others_apart x.stream (other used h.0) xs (ds.0 used)) h.1 (distinct_set_up xs h.1 ds.1)
    where
      other : x.used ≡ true → is_of s x ≡ false → eqb s.0 x.stream.0 ≡ false
      other used e = ne_eqb _ _ (λ same. eqb-false x.stream.0 s.0 (rw used at e) (sym same))

      arm : (t : Bool) → Apart (kind_of x) (with_slot xs) → some (is_of s) xs ≡ false → Distinct (with_slot xs)
          → Distinct (cond t (slot_for s settings ∷ xs) (x ∷ with_slot xs))
      arm true a n d = (λ used. n, ds.1)
      arm false a n d = (a, d)
