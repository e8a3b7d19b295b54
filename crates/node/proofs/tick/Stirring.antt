-- The three tests of a tick, and what a slot lapses to by them. Each fails of what is too young. A sender's hold may be over; a
-- receiver's message is late, if it is unconfirmed in 2M, or else due.
use Rattle.std.proofs.Common.{◌≡◌, ℕ, ◌+◌, ◌<◌, ◌≤◌, Bool, true, false, not, ◌&&◌, ◌||◌, ltb, List, [], ◌∷◌, map, sym, refl, arith, ltb-false, le-ltb}
use Rattle.std.proofs.Common.{lt-ltb, eqb-true}
use mathlib.Core.Bool.{and-true, and-false, and_assoc, false≢true}
use Rattle.wire.specs.Settings.{is_imd, is_two_message, sends}
use Rattle.node.specs.declared.slots.Slot.{Slot}
use Rattle.node.specs.Slots.{is_receiver}
use Rattle.node.specs.Clock.{Clock}
use Rattle.node.specs.Tick.{late, due, hold_over, dropped, delivered, hold_ended, lapsed, age_of, tick_slot, due_slots}
use Rattle.node.specs.Stirring.{may_stir}
use Rattle.node.specs.Reachable.{All}
use Rattle.node.proofs.Choices.{contrary, neither}

both_sides : (two confirmed : Bool) → two && not confirmed ≡ true → (two ≡ true) × (confirmed ≡ false)
both_sides true false e = (refl, refl)
both_sides true true e = absurd (false≢true e)
both_sides false confirmed e = absurd (false≢true e)

module _ (age : ℕ) (x : Slot) where
  pub young_is_not_late : age ≤ x.settings.dc → false ≡ late age x
  unfolding late
  young_is_not_late h = rw (le-ltb x.settings.dc age h) (simp and-false)

  pub young_is_not_due : age ≤ x.settings.dd → false ≡ due age x
  unfolding due
  young_is_not_due h = rw (le-ltb x.settings.dd age h) (simp and-false)

  pub old_is_due : x.settings.dd < age
      → is_receiver x && x.message.held && (is_imd x.settings || is_two_message x.settings && x.message.confirmed) ≡ due age x
  unfolding due
  old_is_due h = rw (lt-ltb x.settings.dd age h) (simp and-true)

  pub young_is_held_on : age ≤ x.settings.rd + x.settings.dd → false ≡ hold_over age x
  unfolding hold_over
  young_is_held_on h = rw (le-ltb (x.settings.rd + x.settings.dd) age h) (simp and-false)

  -- ── by role, class and confirmation ──
  module _ (own : sends x.settings ≡ true) where
    role : x.settings.role ≡ 1
    role = eqb-true x.settings.role 1 own

    pub sender_is_not_late : late age x ≡ false
    unfolding late
    sender_is_not_late = rw role (simp and-false)

    pub sender_is_not_due : due age x ≡ false
    unfolding due
    sender_is_not_due = rw role (simp and-false)

  pub other_is_not_over : sends x.settings ≡ false → hold_over age x ≡ false
  unfolding hold_over
  other_is_not_over e = rw e (simp and-false)

  -- unconfirmed in 2M
  abbrev waits : Bool
  waits = is_two_message x.settings && not x.message.confirmed

  pub unconfirmed_is_not_due : is_two_message x.settings ≡ true → x.message.confirmed ≡ false → due age x ≡ false
  unfolding due
  unconfirmed_is_not_due two unconfirmed = rw (eqb-true x.settings.class 2 two, unconfirmed) (simp and-false)

  pub waiting_is_not_due : waits ≡ true → due age x ≡ false
  waiting_is_not_due t =
      let w = both_sides (is_two_message x.settings) x.message.confirmed t in unconfirmed_is_not_due w.0 w.1

  pub ready_is_not_late : waits ≡ false → late age x ≡ false
  unfolding late
  ready_is_not_late t =
      rw (and_assoc (is_receiver x && x.message.held) (is_two_message x.settings) (not x.message.confirmed), t) (simp and-false)

  pub due_is_not_late : due age x ≡ true → late age x ≡ false
  due_is_not_late d = go waits refl
    where
      go : (w : Bool) → waits ≡ w → late age x ≡ false
      go true e = contrary d (waiting_is_not_due e)
      go false e = ready_is_not_late e

  -- ── what it lapses to ──
  pub late_is_dropped : late age x ≡ true → dropped x ≡ lapsed age x
  unfolding lapsed
  late_is_dropped e = rw e

  pub due_is_delivered : due age x ≡ true → delivered x ≡ lapsed age x
  unfolding lapsed
  due_is_delivered e = rw (due_is_not_late e, e)

  pub over_is_ended : late age x ≡ false → due age x ≡ false → hold_over age x ≡ true → hold_ended x ≡ lapsed age x
  unfolding lapsed
  over_is_ended l d o = rw (l, d, o)

  -- ── a slot that stays ──
  pub record Still : Type 0 where
    pub not_late : late age x ≡ false
    pub not_due : due age x ≡ false
    pub not_over : hold_over age x ≡ false

  pub still_stays : Still → lapsed age x ≡ x
  unfolding lapsed
  still_stays s = rw (s.not_late, s.not_due, s.not_over)

  pub unheld_is_still : x.message.held ≡ false → Still
  unfolding late due hold_over
  unheld_is_still h = record { not_late = rw h (simp and-false); not_due = rw h (simp and-false); not_over = rw h (simp and-false) }

  young_in_2m : (two : Bool) → is_two_message x.settings ≡ two → two && ltb x.settings.dc age ≡ false → late age x ≡ false
  unfolding late
  young_in_2m true t young = rw young (simp and-false)
  young_in_2m false t young = rw t (simp and-false)

  pub young_is_still : may_stir age x ≡ false → Still
  unfolding may_stir
  young_is_still e = go x.message.held refl e
    where
      go : (held : Bool) → x.message.held ≡ held
          → held && (ltb x.settings.dd age || is_two_message x.settings && ltb x.settings.dc age) ≡ false → Still
      go false h e = unheld_is_still h
      go true h e =
          let n = neither (ltb x.settings.dd age) (is_two_message x.settings && ltb x.settings.dc age) e in
          let young = ltb-false x.settings.dd age n.0 in
          record {
            not_late = young_in_2m _ refl n.1;
            not_due = sym (young_is_not_due young);
            not_over = sym (young_is_held_on (omega arith));
          }

-- ── a tick at which no slot changes ──
module _ (clock : Clock) (now : ℕ) where
  abbrev pub StillAt : Slot → Type 0
  StillAt x = Still (age_of clock now x) x

  pub still_tick : (slots : List Slot) → All StillAt slots → (map (tick_slot clock now) slots ≡ slots) × (due_slots clock now slots ≡ [])
  unfolding due_slots
  still_tick [] all = (refl, refl)
  still_tick (x ∷ xs) (here, others) =
      let rest = still_tick xs others in (rw (still_stays (age_of clock now x) x here, rest.0), rw here.not_due rest.1)
