-- What a reached slot keeps, through every change that a call makes of a slot.
use Rattle.std.proofs.Common.{◌≡◌, ℕ, zero, suc, ◌+◌, ◌-◌, ◌<◌, ◌≤◌, Bool, true, false, cond, not, ◌&&◌, eqb, List, length, take, refl, ap, inl, inr}
use Rattle.std.proofs.Common.{⊎_elim, arith, length-append, length-drop, ne_eqb, eqb-true}
use mathlib.Core.Bool.{and-eq-true_iff}
use lib.Seq.{take-append_seam}
use lib.Dec.{eqb-suc-zero}
use Rattle.wire.specs.declared.ids.Stream.{Stream}
use Rattle.wire.specs.declared.settings.Settings.{Settings}
use Rattle.wire.specs.Settings.{receives, sends, is_plain, is_imd, is_two_message, legal}
use Rattle.wire.specs.Classes.{carries}
use Rattle.wire.specs.Frames.{max_payload}
use Rattle.node.specs.declared.slots.Message.{Message}
use Rattle.node.specs.declared.slots.Pending.{Pending}
use Rattle.node.specs.declared.slots.Slot.{Slot}
use Rattle.node.specs.Slots.{padded, no_message, holding, keeping, restamped, confirmed, released, none_pending, abort_pending, empty, is_receiver}
use Rattle.node.specs.Slots.{payload_given, confirmation_given, abort_given, slot_for, is_sender, with_parts, with_message}
use Rattle.node.specs.Reachable.{longest, KeptMessage, KeptPending, KeptSlot}
use Rattle.node.specs.Hear.{data_heard, confirmation_heard, abort_heard, heard_by}
use Rattle.node.specs.Request.{requested}
use Rattle.node.specs.NextFrame.{given_out}
use Rattle.node.specs.Tick.{late, due, hold_over, dropped, delivered, hold_ended, lapsed}
use Rattle.node.proofs.Choices.{contrary}
use Rattle.node.proofs.kept.LawfulSettings.{Lawful, lawful}
use Rattle.node.proofs.tick.Tests.{Settled, late_tells, due_tells, hold_over_tells}

not_both : (s : Settings) {A : Type 0} → receives s ≡ true → sends s ≡ true → A
not_both s r t = absurd (omega (arith, eqb-true s.role 0 r, eqb-true s.role 1 t))

-- ── the message ──
-- at most eight bytes of payload, and zeros after them, eight bytes in all
record Padded (len : ℕ) (bytes : List ℕ) : Type 0 where
  short : len ≤ max_payload
  eight_bytes : length bytes ≡ max_payload
  zeros_after : bytes ≡ padded (take len bytes)

kept_padded : {now : ℕ} {s : Settings} {m : Message} → KeptMessage now s m → Padded m.len m.bytes
kept_padded k = record { short = k.short; eight_bytes = k.eight_bytes; zeros_after = k.zeros_after }

payload_padded : (payload : List ℕ) → length payload ≤ max_payload → Padded (length payload) (padded payload)
payload_padded payload small =
    record {
      short = small;
      eight_bytes = simp (length-append, length-drop) (omega arith);
      zeros_after = rw take-append_seam;
    }

module _ (now : ℕ) (s : Settings) (m : Message) (p : Padded m.len m.bytes) where
  kept_unheld : m.held ≡ false → m.confirmed ≡ false → m.stamp ≡ 0 → (receives s ≡ true → m ≡ no_message) → KeptMessage now s m
  kept_unheld unheld unconfirmed no_stamp idle =
      record {
        short = p.short;
        eight_bytes = p.eight_bytes;
        zeros_after = p.zeros_after;
        never_plain = λ h. contrary h unheld;
        stamped = λ h. contrary h unheld;
        young = λ h. contrary h unheld;
        no_stamp = λ h. no_stamp;
        idle = λ r h. idle r;
        confirmed_held = λ h. contrary h unconfirmed;
      }

  kept_held : m.held ≡ true → is_plain s ≡ false → m.stamp ≤ now → now - m.stamp ≤ longest s m
      → (m.confirmed ≡ true → (receives s ≡ true) × (is_two_message s ≡ true)) → KeptMessage now s m
  kept_held held other stamped young given =
      record {
        short = p.short;
        eight_bytes = p.eight_bytes;
        zeros_after = p.zeros_after;
        never_plain = λ h. other;
        stamped = λ h. stamped;
        young = λ h. young;
        no_stamp = λ h. contrary held h;
        idle = λ r h. contrary held h;
        confirmed_held = λ h. (held, (given h).0, (given h).1);
      }

pub kept_nothing : (now : ℕ) (s : Settings) → KeptMessage now s no_message
kept_nothing now s =
    kept_unheld now s no_message (record { short = omega arith; eight_bytes = refl; zeros_after = refl }) refl refl refl (λ r. refl)

-- a message taken up now
kept_holding : (now : ℕ) (s : Settings) (payload : List ℕ) → length payload ≤ max_payload → is_plain s ≡ false
    → KeptMessage now s (holding now payload)
kept_holding now s payload small other =
    kept_held now s (holding now payload) (payload_padded payload small) refl other (omega arith) (omega arith) (λ h. contrary h refl)

-- a plain message, kept for the frame that is pending
kept_keeping : (now : ℕ) (s : Settings) (payload : List ℕ) → length payload ≤ max_payload → sends s ≡ true
    → KeptMessage now s (keeping payload)
kept_keeping now s payload small own =
    kept_unheld now s (keeping payload) (payload_padded payload small) refl refl refl (λ r. not_both s r own)

module _ (now : ℕ) (s : Settings) (m : Message) (k : KeptMessage now s m) where
  kept_restamped : m.held ≡ true → KeptMessage now s (restamped now m)
  kept_restamped held =
      kept_held now s (restamped now m) (kept_padded k) held (k.never_plain held) (omega arith) (omega arith)
      (λ h. ((k.confirmed_held h).1, (k.confirmed_held h).2))

  kept_released : sends s ≡ true → KeptMessage (now + 1) s (released m)
  kept_released own =
      kept_unheld (now + 1) s (released m) (kept_padded k) refl refl refl (λ r. not_both s r own)

  longest_confirmed : s.dc ≤ s.dd → longest s m ≤ longest s (confirmed m)
  longest_confirmed first = by_role (sends s) (is_two_message s) m.confirmed
    where
      limit : (own two given : Bool) → ℕ
      limit own two given = cond own (s.rd + s.dd) (cond (two && not given) s.dc s.dd)

      by_role : (own two given : Bool) → limit own two given ≤ limit own two true
      by_role true two given = omega arith
      by_role false true true = omega arith
      by_role false true false = omega arith
      by_role false false given = omega arith

  kept_confirmed : Lawful s → receives s ≡ true → is_two_message s ≡ true → m.held ≡ true → KeptMessage now s (confirmed m)
  kept_confirmed l r two held =
      let longer = longest_confirmed l.confirmed_first in
      kept_held now s (confirmed m) (kept_padded k) held (k.never_plain held) (k.stamped held) (omega (arith, k.young held)) (λ h. (r, two))

  -- one tick older, and still not too old
  kept_older : (m.held ≡ true → now + 1 - m.stamp ≤ longest s m) → KeptMessage (now + 1) s m
  kept_older still =
      record {
        short = k.short;
        eight_bytes = k.eight_bytes;
        zeros_after = k.zeros_after;
        never_plain = k.never_plain;
        stamped = λ h. omega (arith, k.stamped h);
        young = still;
        no_stamp = k.no_stamp;
        idle = k.idle;
        confirmed_held = k.confirmed_held;
      }

-- ── pending frames ──
pub kept_none : (s : Settings) → KeptPending s none_pending
kept_none s = record { payload_sent = λ h. contrary h refl; confirmation_sent = λ h. contrary h refl; abort_received = λ h. contrary h refl }

kept_abort : (s : Settings) (p : Pending) → KeptPending s p → receives s ≡ true → is_two_message s ≡ true → KeptPending s (abort_pending p)
kept_abort s p k r two = record { payload_sent = k.payload_sent; confirmation_sent = k.confirmation_sent; abort_received = λ h. (r, two) }

-- ── the slot ──
pub kept_empty : (now : ℕ) → KeptSlot now empty
kept_empty now = record { free = λ h. refl; lawful = λ h. contrary h refl; message = kept_nothing now _; pending = kept_none _ }

pub kept_set_up : (now : ℕ) (s : Stream) (settings : Settings) → legal s settings ≡ true → KeptSlot now (slot_for s settings)
kept_set_up now s settings ok =
    record { free = λ h. contrary refl h; lawful = λ h. ok; message = kept_nothing now settings; pending = kept_none settings }

-- a used slot, with other parts
kept_parts : (now : ℕ) (x : Slot) {then : ℕ} → KeptSlot then x → x.used ≡ true → (m : Message) (p : Pending)
    → KeptMessage now x.settings m → KeptPending x.settings p → KeptSlot now (with_parts x m p)
kept_parts now x k used m p km kp = record { free = λ h. contrary used h; lawful = k.lawful; message = km; pending = kp }

pub not_sender : (s : Settings) → receives s ≡ true → sends s ≡ false
not_sender s r = ne_eqb s.role 1 (λ e. omega (arith, eqb-true s.role 0 r))

imd_not_two : (s : Settings) → is_imd s ≡ true → is_two_message s ≡ false
imd_not_two s i = ne_eqb s.class 2 (λ e. omega (arith, eqb-true s.class 1 i))

pub two_not_plain : (s : Settings) → is_two_message s ≡ true → is_plain s ≡ false
two_not_plain s two = ne_eqb s.class 0 (λ e. omega (arith, eqb-true s.class 2 two))

-- what is neither late nor due nor over is not too old
module _ (age : ℕ) (x : Slot) (used : x.used ≡ true) (held : x.message.held ≡ true) where
  sender_bound : sends x.settings ≡ true → hold_over age x ≡ false → ¬ (x.settings.rd + x.settings.dd < age)
  sender_bound own e h = contrary ((hold_over_tells age x).back (record { used = used; sender = own; held = held; over = h })) e

  waiting_bound : receives x.settings ≡ true → is_two_message x.settings ≡ true → x.message.confirmed ≡ false
      → late age x ≡ false → ¬ (x.settings.dc < age)
  waiting_bound r two c e h =
      contrary ((late_tells age x).back (record { used = used; receiver = r; held = held; two_message = two; unconfirmed = c; over = h })) e

  settled_bound : receives x.settings ≡ true → Settled x → due age x ≡ false → ¬ (x.settings.dd < age)
  settled_bound r settled e h =
      contrary ((due_tells age x).back (record { used = used; receiver = r; held = held; settled = settled; over = h })) e

  settled_young : receives x.settings ≡ true → Settled x → due age x ≡ false → age ≤ longest x.settings x.message
  settled_young r settled e =
      let bound = settled_bound r settled e in
      ⊎_elim (λ i. rw (not_sender x.settings r, imd_not_two x.settings i) (omega arith))
      (λ t. rw (not_sender x.settings r, t.0, t.1) (omega arith)) settled

  still_young : Lawful x.settings → is_plain x.settings ≡ false → late age x ≡ false → due age x ≡ false → hold_over age x ≡ false
      → age ≤ longest x.settings x.message
  still_young l other not_late not_due not_over =
      ⊎_elim (λ r. ⊎_elim (λ c. ⊎_elim (λ p. contrary p other) (λ i. settled_young r (inl i) not_due) c)
      (λ two. by_confirmed r two x.message.confirmed refl) l.a_class)
      (λ own. rw own (omega (arith, sender_bound own not_over))) l.a_role
    where
      by_confirmed : receives x.settings ≡ true → is_two_message x.settings ≡ true → (c : Bool) → x.message.confirmed ≡ c
          → age ≤ longest x.settings x.message
      by_confirmed r two true c = settled_young r (inr (two, c)) not_due
      by_confirmed r two false c = rw (not_sender x.settings r, two, c) (omega (arith, waiting_bound r two c not_late))

-- a free slot holds nothing
pub held_used : (now : ℕ) (x : Slot) → KeptSlot now x → x.message.held ≡ true → x.used ≡ true
held_used now x k held = by_used x.used refl
  where
    by_used : (u : Bool) → x.used ≡ u → x.used ≡ true
    by_used true e = e
    by_used false e = contrary held (ap (λ (y : Slot). y.message.held) (k.free e))

pub kept_lapsed : (now : ℕ) (x : Slot) → KeptSlot now x → KeptSlot (now + 1) (lapsed (now + 1 - x.message.stamp) x)
unfolding lapsed
kept_lapsed now x k = by_tests (late age x) (due age x) (hold_over age x) refl refl refl
  where
    age : ℕ
    age = now + 1 - x.message.stamp

    by_tests : (l d o : Bool) → late age x ≡ l → due age x ≡ d → hold_over age x ≡ o
        → KeptSlot (now + 1) (cond l (dropped x) (cond d (delivered x) (cond o (hold_ended x) x)))
    by_tests true d o is_late _ _ =
        let t = (late_tells age x).says is_late in
        kept_parts (now + 1) x k t.used _ _ (kept_nothing _ _) (kept_abort _ _ k.pending t.receiver t.two_message)
    by_tests false true o _ is_due _ =
        kept_parts (now + 1) x k ((due_tells age x).says is_due).used _ _ (kept_nothing _ _) k.pending
    by_tests false false true _ _ is_over_here =
        let t = (hold_over_tells age x).says is_over_here in
        kept_parts (now + 1) x k t.used _ _ (kept_released _ _ _ k.message t.sender) k.pending
    by_tests false false false not_late not_due not_over =
        record {
          free = k.free;
          lawful = k.lawful;
          message = kept_older _ _ _ k.message (λ held.
              let used = held_used now x k held in
              still_young age x used held (lawful _ _ (k.lawful used)) (k.message.never_plain held) not_late not_due not_over);
          pending = k.pending;
        }

-- ── which classes carry data and confirmations ──
data_not_plain : (class : ℕ) → carries class 0 ≡ true → eqb class 0 ≡ false
unfolding carries
data_not_plain zero e = contrary e refl
data_not_plain (suc class) e = eqb-suc-zero class

confirmation_two : (class : ℕ) → carries class 1 ≡ true → eqb class 2 ≡ true
unfolding carries
confirmation_two zero e = contrary e refl
confirmation_two (suc zero) e = contrary e refl
confirmation_two (suc (suc zero)) e = refl
confirmation_two (suc (suc (suc class))) e = contrary e refl

module _ (now : ℕ) (x : Slot) (k : KeptSlot now x) where
  kept_data : (payload : List ℕ) → x.used ≡ true → is_plain x.settings ≡ false → length payload ≤ max_payload
      → KeptSlot now (with_message (cond x.message.held (restamped now x.message) (holding now payload)) x)
  kept_data payload used other small =
      kept_parts now x k used _ _ (by_held x.message.held refl) k.pending
    where
      by_held : (h : Bool) → x.message.held ≡ h → KeptMessage now x.settings (cond h (restamped now x.message) (holding now payload))
      by_held true held = kept_restamped now _ _ k.message held
      by_held false held = kept_holding now _ payload small other

  kept_confirmation : x.used ≡ true → receives x.settings ≡ true → is_two_message x.settings ≡ true → KeptSlot now (confirmation_heard x)
  kept_confirmation used r two = by_held x.message.held refl
    where
      by_held : (h : Bool) → x.message.held ≡ h
          → KeptSlot now (cond h (with_message (confirmed x.message) x) (with_parts x x.message (abort_pending x.pending)))
      by_held true held = kept_parts now x k used _ _ (kept_confirmed now _ _ k.message (lawful _ _ (k.lawful used)) r two held) k.pending
      by_held false held = kept_parts now x k used _ _ k.message (kept_abort _ _ k.pending r two)

  kept_aborted : x.used ≡ true → KeptSlot now (abort_heard x)
  kept_aborted used = by_held x.message.held
    where
      by_held : (h : Bool) → KeptSlot now (cond h (with_message no_message x) x)
      by_held true = kept_parts now x k used _ _ (kept_nothing now _) k.pending
      by_held false = k

  pub kept_heard : (code : ℕ) (payload : List ℕ) → is_receiver x ≡ true → carries x.settings.class code ≡ true
      → length payload ≤ max_payload → KeptSlot now (heard_by now code payload x)
  unfolding heard_by
  kept_heard code payload r fits small = by_code (eqb code 0) (eqb code 1) (eqb code 2) refl refl
    where
      used : x.used ≡ true
      used = ((and-eq-true_iff x.used _).0 r).0

      by_code : (c₀ c₁ c₂ : Bool) → eqb code 0 ≡ c₀ → eqb code 1 ≡ c₁
          → KeptSlot now (cond c₀ (data_heard now payload x) (cond c₁ (confirmation_heard x) (cond c₂ (abort_heard x) x)))
      by_code true c₁ c₂ e₀ e₁ = kept_data payload used (data_not_plain _ (rw (eqb-true code 0 e₀) at fits)) small
      by_code false true c₂ e₀ e₁ =
          kept_confirmation used ((and-eq-true_iff x.used _).0 r).1 (confirmation_two _ (rw (eqb-true code 1 e₁) at fits))
      by_code false false true e₀ e₁ = kept_aborted used
      by_code false false false e₀ e₁ = k

  pub kept_requested : (payload : List ℕ) → is_sender x ≡ true → length payload ≤ max_payload → KeptSlot now (requested now payload x)
  unfolding requested
  kept_requested payload r small =
      kept_parts now x k ((and-eq-true_iff x.used _).0 r).0 _ _ (by_class (is_plain x.settings) refl)
      (record { payload_sent = λ h. own; confirmation_sent = λ h. (own, h); abort_received = λ h. contrary h refl })
    where
      own : sends x.settings ≡ true
      own = ((and-eq-true_iff x.used _).0 r).1

      by_class : (p : Bool) → is_plain x.settings ≡ p → KeptMessage now x.settings (cond p (keeping payload) (holding now payload))
      by_class true plain = kept_keeping now _ payload small own
      by_class false other = kept_holding now _ payload small other

  pub kept_given_out : (code : ℕ) → x.used ≡ true → KeptSlot now (given_out code x)
  unfolding given_out
  kept_given_out code used = kept_parts now x k used _ _ k.message (by_code (eqb code 1) (eqb code 2))
    where
      p : Pending
      p = x.pending

      by_code : (c₁ c₂ : Bool) → KeptPending x.settings (cond c₁ (confirmation_given p) (cond c₂ (abort_given p) (payload_given p)))
      by_code true c₂ =
          record { payload_sent = k.pending.payload_sent; confirmation_sent = λ h. contrary h refl; abort_received = k.pending.abort_received }
      by_code false true =
          record { payload_sent = k.pending.payload_sent; confirmation_sent = k.pending.confirmation_sent; abort_received = λ h. contrary h refl }
      by_code false false =
          record { payload_sent = λ h. contrary h refl; confirmation_sent = k.pending.confirmation_sent; abort_received = k.pending.abort_received }
