-- A slot at a tick, in the bytes: which of the three tests fail by its role and class, and what is left of it.
use mathlib.Core.Path.{◌≡◌, refl, sym, ap}
use mathlib.Core.Bool.{Bool, true, false, cond, and-false}
use mathlib.Core.List.{List}
use Prim.Native.Nat.{ℕ, ◌+◌, ◌*◌, ◌≤◌, ◌<◌}
use native.Mathlib.Omega.{arith}
use borrow.Author.Tests.{eq-eqb, ne_eqb, eqb-true}
use lib.ListN.{length, set}
use lib.Seq.{set-get_or}
use Rattle.wire.specs.Settings.{receives, is_imd, is_two_message}
use Rattle.node.specs.declared.slots.Slot.{Slot}
use Rattle.node.specs.Slots.{empty}
use Rattle.node.specs.Nodes.{slot_count, with_slots}
use Rattle.node.specs.Tick.{late, due, hold_over, lapsed}
use Rattle.node.proofs.tick.Stirring.{Still, still_stays, other_is_not_over, unconfirmed_is_not_due}
use Rattle.node_bytes.specs.declared.tick.Lapse.{Lapse}
use Rattle.node_bytes.specs.declared.tick.Lapse.TheVariants.{Stays, Dropped, Due}
use Rattle.node_bytes.specs.Decoding.{slot_at, decode}
use Rattle.node_bytes.specs.Lent.{with_slot}
use Rattle.node_bytes.proofs.ByIndex.{decoded_slot}

-- ── by role and class ──
module _ (age : ℕ) (x : Slot) where
  pub confirmed_is_not_late : x.message.confirmed ≡ true → late age x ≡ false
  unfolding late
  confirmed_is_not_late e = rw e (simp and-false)

  -- as one number
  module _ {kind : ℕ} (k : (kind ≡ x.settings.role + 256 * x.settings.class) × (x.settings.role ≤ 255)) where
    receiver_is_not_over : x.settings.role ≡ 0 → hold_over age x ≡ false
    receiver_is_not_over role = other_is_not_over age x (ne_eqb x.settings.role 1 (λ (e : x.settings.role ≡ 1). omega (arith, role, e)))

    pub imd_is_not_over : kind ≡ 256 → hold_over age x ≡ false
    imd_is_not_over e = receiver_is_not_over (omega (arith, k))

    pub two_message_is_not_over : kind ≡ 512 → hold_over age x ≡ false
    two_message_is_not_over e = receiver_is_not_over (omega (arith, k))

    pub waiting_is_not_due : kind ≡ 512 → x.message.confirmed ≡ false → due age x ≡ false
    waiting_is_not_due e waits = let two : x.settings.class ≡ 2 = omega (arith, k) in unconfirmed_is_not_due age x (eq-eqb _ _ two) waits

    pub another_is_not_late : (kind ≡ 512 → ⊥) → late age x ≡ false
    unfolding late
    another_is_not_late other = go (receives x.settings) (is_two_message x.settings) refl refl
      where
        go : (r two : Bool) → receives x.settings ≡ r → is_two_message x.settings ≡ two → late age x ≡ false
        go false two e f = rw e (simp and-false)
        go true false e f = rw f (simp and-false)
        go true true e f = absurd (other (omega (arith, k, eqb-true x.settings.role 0 e, eqb-true x.settings.class 2 f)))

    pub another_is_not_due : (kind ≡ 512 → ⊥) → (kind ≡ 256 → ⊥) → due age x ≡ false
    unfolding due
    another_is_not_due not_two not_imd = go (receives x.settings) (is_imd x.settings) (is_two_message x.settings) refl refl refl
      where
        go : (r imd two : Bool) → receives x.settings ≡ r → is_imd x.settings ≡ imd → is_two_message x.settings ≡ two → due age x ≡ false
        go false imd two e f g = rw e (simp and-false)
        go true true two e f g = absurd (not_imd (omega (arith, k, eqb-true x.settings.role 0 e, eqb-true x.settings.class 1 f)))
        go true false true e f g = absurd (not_two (omega (arith, k, eqb-true x.settings.role 0 e, eqb-true x.settings.class 2 g)))
        go true false false e f g = rw (f, g) (simp and-false)

-- ── what is left ──
-- slot i is due, and as it was, or has lapsed
abbrev pub Lapses : (age : ℕ) (bytes after : List ℕ) (i : ℕ) → Lapse → Type 0
Lapses age bytes after i r =
    (r ≡ cond (due age (slot_at bytes i)) Due (cond (late age (slot_at bytes i)) Dropped Stays)) × (length after ≡ length bytes)
    × (decode after ≡ with_slot i (cond (due age (slot_at bytes i)) (slot_at bytes i) (lapsed age (slot_at bytes i))) (decode bytes))

module _ (bytes : List ℕ) (i : ℕ) (inside : i < slot_count) where
  pub same_slot : decode bytes ≡ with_slot i (slot_at bytes i) (decode bytes)
  same_slot =
      let here = decoded_slot bytes i empty inside in
      let back : set (decode bytes).slots i (slot_at bytes i) ≡ (decode bytes).slots =
      rw (← here) (set-get_or (decode bytes).slots i empty) in
      ap (λ (l : List Slot). with_slots l (decode bytes)) (sym back)

  -- with what was counted for the age
  module _ (age : ℕ) {counted : ℕ} (aged : age ≡ counted) where
    abbrev x : Slot
    x = slot_at bytes i

    pub stays : Still age x → Lapses counted bytes bytes i Stays
    stays s =
        let left : Lapses age bytes bytes i Stays = (rw (s.not_due, s.not_late), refl, rw (s.not_due, still_stays age x s) same_slot) in rw aged at left

    pub may_be_due : (is_due : Bool) → is_due ≡ due age x → late age x ≡ false → hold_over age x ≡ false
        → (r : Lapse) → r ≡ cond is_due Due Stays → Lapses counted bytes bytes i r
    may_be_due true e not_late not_over r said =
        let left : Lapses age bytes bytes i r = (rw (← e) said, refl, rw (← e) same_slot) in rw aged at left
    may_be_due false e not_late not_over r said =
        let left = stays (record { not_late = not_late; not_due = sym e; not_over = not_over }) in rw said left

    pub lapses : due age x ≡ false → (y : Slot) → y ≡ lapsed age x → (after : List ℕ)
        → (length after ≡ length bytes) × (decode after ≡ with_slot i y (decode bytes))
        → (r : Lapse) → r ≡ cond (late age x) Dropped Stays → Lapses counted bytes after i r
    lapses not_due y made after put r said =
        let left : Lapses age bytes after i r = (rw not_due said, put.0, rw (not_due, ← made) put.1) in rw aged at left
