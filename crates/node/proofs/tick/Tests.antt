-- What the three tests of a tick tell of a slot: late, due, hold over.
use Rattle.std.proofs.Common.{◌≡◌, ℕ, ◌+◌, ◌<◌, Bool, true, false, not, ◌⊎◌, refl, true≢false}
use mathlib.Core.Bool.{false≢true}
use Rattle.wire.specs.Settings.{receives, sends, is_imd, is_two_message}
use Rattle.wire.specs.Tells.{Tells, at_most, ◌and◌, ◌or◌}
use Rattle.node.specs.declared.slots.Slot.{Slot}
use Rattle.node.specs.Tick.{late, due, hold_over}

-- unconfirmed in 2M, and older than the confirm delay
pub record Late (age : ℕ) (x : Slot) : Type 0 where
  pub used : x.used ≡ true
  pub receiver : receives x.settings ≡ true
  pub held : x.message.held ≡ true
  pub two_message : is_two_message x.settings ≡ true
  pub unconfirmed : x.message.confirmed ≡ false
  pub over : x.settings.dc < age

-- IMD, or confirmed in 2M
abbrev pub Settled : Slot → Type 0
Settled x = (is_imd x.settings ≡ true) ⊎ ((is_two_message x.settings ≡ true) × (x.message.confirmed ≡ true))

-- settled, and older than the deliver delay
pub record Due (age : ℕ) (x : Slot) : Type 0 where
  pub used : x.used ≡ true
  pub receiver : receives x.settings ≡ true
  pub held : x.message.held ≡ true
  pub settled : Settled x
  pub over : x.settings.dd < age

-- a sender's hold, older than data reach and deliver delay
pub record HoldOver (age : ℕ) (x : Slot) : Type 0 where
  pub used : x.used ≡ true
  pub sender : sends x.settings ≡ true
  pub held : x.message.held ≡ true
  pub over : x.settings.rd + x.settings.dd < age

itself : (b : Bool) → Tells b (b ≡ true)
itself b = record { says = λ e. e; back = λ e. e }

negated : (b : Bool) → Tells (not b) (b ≡ false)
negated true = record { says = λ e. absurd (false≢true e); back = λ e. absurd (true≢false e) }
negated false = record { says = λ e. refl; back = λ e. refl }

module _ (age : ℕ) (x : Slot) where
  pub late_tells : Tells (late age x) (Late age x)
  unfolding late
  late_tells =
      let t = itself _ and itself _ and itself _ and itself _ and negated _ and at_most _ _ in
      record {
        says = λ e.
            let h = t.says e in
            let r = h.0.0.0 in
            record { used = r.0.0; receiver = r.0.1; held = r.1; two_message = h.0.0.1; unconfirmed = h.0.1; over = h.1 };
        back = λ k. t.back (((((k.used, k.receiver), k.held), k.two_message), k.unconfirmed), k.over);
      }

  pub due_tells : Tells (due age x) (Due age x)
  unfolding due
  due_tells =
      let t = itself _ and itself _ and itself _ and (itself _ or itself _ and itself _) and at_most _ _ in
      record {
        says = λ e.
            let h = t.says e in
            let r = h.0.0 in
            record { used = r.0.0; receiver = r.0.1; held = r.1; settled = h.0.1; over = h.1 };
        back = λ k. t.back ((((k.used, k.receiver), k.held), k.settled), k.over);
      }

  pub hold_over_tells : Tells (hold_over age x) (HoldOver age x)
  unfolding hold_over
  hold_over_tells =
      let t = itself _ and itself _ and itself _ and at_most _ _ in
      record {
        says = λ e. let h = t.says e in record { used = h.0.0.0; sender = h.0.0.1; held = h.0.1; over = h.1 };
        back = λ k. t.back (((k.used, k.sender), k.held), k.over);
      }
