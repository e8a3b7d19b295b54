-- `lapse_at` meets its contract: each way through it says which of the slot's three tests fail, by what was read, and asks the slot for the one that is left.
use Rattle.std.proofs.Common.{rules, false}
use native.Mathlib.Omega.{arith}
use mathlib.Core.Path.{◌≡◌, refl, sym, ap, ◌∙◌}
use Prim.Native.Nat.{ℕ, ◌≤◌}
use Rattle.node.specs.declared.slots.Slot.{Slot}
use Rattle.node.specs.Clock.{rolled}
use Rattle.node.specs.Tick.{late, due, hold_over, dropped, hold_ended, age_of}
use Rattle.node.proofs.tick.Stirring.{unheld_is_still, young_is_not_late, young_is_not_due, young_is_held_on, late_is_dropped, over_is_ended}
use Rattle.node_bytes.specs.Decoding.{slot_at}
use Rattle.node_bytes.proofs.CallingTick.{message_put, abort_put}
use Rattle.node_bytes.proofs.Lapses.{confirmed_is_not_late, imd_is_not_over, two_message_is_not_over, waiting_is_not_due}
use Rattle.node_bytes.proofs.Lapses.{another_is_not_late, another_is_not_due}
use Rattle.node_bytes.proofs.Lapses.{stays, may_be_due, lapses}
use Rattle.node_bytes.proofs.tick.lapse_at.Goals as goal
use Rattle.node_bytes.proofs.tick.lapse_at.Goals.{Start}

abbrev slot : Start → Slot
slot s = slot_at s.args.bytes.now s.args.i

-- what was counted is the age of the slot's message
aged : (s : Start) (a stamp : ℕ) → a ≡ rolled.age s.args.counter stamp → stamp ≡ (slot s).message.stamp → a ≡ age_of rolled s.args.counter (slot s)
aged s a stamp is_age is_stamp = is_age ∙ ap (λ (stamp : ℕ). rolled.age s.args.counter stamp) is_stamp

pub returns-then-not-held_at : goal.returns-then-not-held_at
returns-then-not-held_at c =
    let nothing : c.held_at.result ≡ false = search rules in
    stays c.args.bytes.now c.args.i c.requires.1 _ refl (unheld_is_still _ (slot (goal.at.returns-then-not-held_at c).Start) (sym c.held_at.ensures ∙ nothing))

-- ── received in 2M, and confirmed ──
pub returns-then-a-deliver_delay_at : goal.returns-then-a-deliver_delay_at
returns-then-a-deliver_delay_at c =
    let s = (goal.at.returns-then-a-deliver_delay_at c).Start in
    let a = c.age-a.result in
    let is_confirmed = sym c.confirmed_at.ensures ∙ c.if-confirmed_at.true in
    let young : a ≤ (slot s).settings.dd = omega (arith, c.if-a-deliver_delay_at.true, c.deliver_delay_at.ensures) in
    stays s.args.bytes.now s.args.i c.requires.1 a (aged s _ _ c.age-a.ensures c.stamp_at.ensures)
    (record {
      not_late = confirmed_is_not_late a (slot s) is_confirmed;
      not_due = sym (young_is_not_due a (slot s) young);
      not_over = two_message_is_not_over a (slot s) c.kind_at-kind.ensures c.if-kind-eq-RECEIVES_TWO_MESSAGE.true;
    })

pub returns-then-confirmed_at : goal.returns-then-confirmed_at
returns-then-confirmed_at c =
    let s = (goal.at.returns-then-confirmed_at c).Start in
    let a = c.age-a.result in
    let is_confirmed = sym c.confirmed_at.ensures ∙ c.if-confirmed_at.true in
    may_be_due s.args.bytes.now s.args.i c.requires.1 a (aged s _ _ c.age-a.ensures c.stamp_at.ensures) _
    (c.due.ensures ∙ ap (due a) c.slot_at-confirmed.ensures)
    (confirmed_is_not_late a (slot s) is_confirmed)
    (two_message_is_not_over a (slot s) c.kind_at-kind.ensures c.if-kind-eq-RECEIVES_TWO_MESSAGE.true)
    _ c.due_or_stays.ensures

-- ── received in 2M, and unconfirmed ──
pub returns-then-a-confirm_delay_at : goal.returns-then-a-confirm_delay_at
returns-then-a-confirm_delay_at c =
    let s = (goal.at.returns-then-a-confirm_delay_at c).Start in
    let a = c.age-a.result in
    let waits = sym c.confirmed_at.ensures ∙ c.if-confirmed_at.false in
    let young : a ≤ (slot s).settings.dc = omega (arith, c.if-a-confirm_delay_at.true, c.confirm_delay_at.ensures) in
    stays s.args.bytes.now s.args.i c.requires.1 a (aged s _ _ c.age-a.ensures c.stamp_at.ensures)
    (record {
      not_late = sym (young_is_not_late a (slot s) young);
      not_due = waiting_is_not_due a (slot s) c.kind_at-kind.ensures c.if-kind-eq-RECEIVES_TWO_MESSAGE.true waits;
      not_over = two_message_is_not_over a (slot s) c.kind_at-kind.ensures c.if-kind-eq-RECEIVES_TWO_MESSAGE.true;
    })

pub returns-then-not-late : goal.returns-then-not-late
returns-then-not-late c =
    let s = (goal.at.returns-then-not-late c).Start in
    let a = c.age-a.result in
    let waits = sym c.confirmed_at.ensures ∙ c.if-confirmed_at.false in
    let on_time : c.late.result ≡ false = search rules in
    let not_late = ap (late a) (sym c.slot_at-waiting.ensures) ∙ sym c.late.ensures ∙ on_time in
    stays s.args.bytes.now s.args.i c.requires.1 a (aged s _ _ c.age-a.ensures c.stamp_at.ensures)
    (record {
      not_late = not_late;
      not_due = waiting_is_not_due a (slot s) c.kind_at-kind.ensures c.if-kind-eq-RECEIVES_TWO_MESSAGE.true waits;
      not_over = two_message_is_not_over a (slot s) c.kind_at-kind.ensures c.if-kind-eq-RECEIVES_TWO_MESSAGE.true;
    })

pub put_abort-requires : goal.put_abort-requires
put_abort-requires c =
    (c.put_message.ensures.0 ∙ c.requires.0, c.requires.1)

pub returns-then-kind-eq-RECEIVES_TWO_MESSAGE : goal.returns-then-kind-eq-RECEIVES_TWO_MESSAGE
returns-then-kind-eq-RECEIVES_TWO_MESSAGE c =
    let s = (goal.at.returns-then-kind-eq-RECEIVES_TWO_MESSAGE c).Start in
    let a = c.age-a.result in
    let there = c.slot_at-waiting.ensures in
    let waits = sym c.confirmed_at.ensures ∙ c.if-confirmed_at.false in
    let is_late = ap (late a) (sym there) ∙ sym c.late.ensures ∙ c.if-not-late.false in
    let drop = c.dropped-t.ensures ∙ ap dropped there in
    let stored = abort_put _ _ _ c.requires.1 _ c.put_message.ensures _ c.put_abort.ensures drop in
    lapses s.args.bytes.now s.args.i c.requires.1 a (aged s _ _ c.age-a.ensures c.stamp_at.ensures)
    (waiting_is_not_due a (slot s) c.kind_at-kind.ensures c.if-kind-eq-RECEIVES_TWO_MESSAGE.true waits)
    _ (drop ∙ late_is_dropped a (slot s) is_late) _ stored _ (rw is_late)

-- ── received in IMD, sent, or none of these ──
pub returns-then-a-deliver_delay_at-2 : goal.returns-then-a-deliver_delay_at-2
returns-then-a-deliver_delay_at-2 c =
    let s = (goal.at.returns-then-a-deliver_delay_at-2 c).Start in
    let a = c.age-a.result in
    let delay = c.deliver_delay_at-2.ensures in
    stays s.args.bytes.now s.args.i c.requires.1 a (aged s _ _ c.age-a.ensures c.stamp_at.ensures)
    (record {
      not_late = another_is_not_late a (slot s) c.kind_at-kind.ensures c.if-kind-eq-RECEIVES_TWO_MESSAGE.false;
      not_due = sym (young_is_not_due a (slot s) (omega (arith, c.if-a-deliver_delay_at-2.true, delay)));
      not_over = sym (young_is_held_on a (slot s) (omega (arith, c.if-a-deliver_delay_at-2.true, delay)));
    })

pub returns-then-kind-eq-RECEIVES_IMD : goal.returns-then-kind-eq-RECEIVES_IMD
returns-then-kind-eq-RECEIVES_IMD c =
    let s = (goal.at.returns-then-kind-eq-RECEIVES_IMD c).Start in
    let a = c.age-a.result in
    may_be_due s.args.bytes.now s.args.i c.requires.1 a (aged s _ _ c.age-a.ensures c.stamp_at.ensures) _
    (c.due-then-kind-eq-RECEIVES_IMD.ensures ∙ ap (due a) c.slot_at-old.ensures)
    (another_is_not_late a (slot s) c.kind_at-kind.ensures c.if-kind-eq-RECEIVES_TWO_MESSAGE.false)
    (imd_is_not_over a (slot s) c.kind_at-kind.ensures c.if-kind-eq-RECEIVES_IMD.true)
    _ c.due_or_stays-then-kind-eq-RECEIVES_IMD.ensures

pub returns-then-not-hold_over : goal.returns-then-not-hold_over
returns-then-not-hold_over c =
    let s = (goal.at.returns-then-not-hold_over c).Start in
    let a = c.age-a.result in
    let k = c.kind_at-kind.ensures in
    let goes_on : c.hold_over.result ≡ false = search rules in
    stays s.args.bytes.now s.args.i c.requires.1 a (aged s _ _ c.age-a.ensures c.stamp_at.ensures)
    (record {
      not_late = another_is_not_late a (slot s) k c.if-kind-eq-RECEIVES_TWO_MESSAGE.false;
      not_due = another_is_not_due a (slot s) k c.if-kind-eq-RECEIVES_TWO_MESSAGE.false c.if-kind-eq-RECEIVES_IMD.false;
      not_over = ap (hold_over a) (sym c.slot_at-old.ensures) ∙ sym c.hold_over.ensures ∙ goes_on;
    })

pub returns : goal.returns
returns c =
    let s = (goal.at.returns c).Start in
    let a = c.age-a.result in
    let k = c.kind_at-kind.ensures in
    let there = c.slot_at-old.ensures in
    let is_over_here = ap (hold_over a) (sym there) ∙ sym c.hold_over.ensures ∙ c.if-not-hold_over.false in
    let not_late = another_is_not_late a (slot s) k c.if-kind-eq-RECEIVES_TWO_MESSAGE.false in
    let not_due = another_is_not_due a (slot s) k c.if-kind-eq-RECEIVES_TWO_MESSAGE.false c.if-kind-eq-RECEIVES_IMD.false in
    let ends = c.hold_ended-t.ensures ∙ ap hold_ended there in
    let stored = message_put _ _ _ c.requires.1 _ c.put_message-2.ensures _ ends in
    lapses s.args.bytes.now s.args.i c.requires.1 a (aged s _ _ c.age-a.ensures c.stamp_at.ensures) not_due _
    (ends ∙ over_is_ended a (slot s) not_late not_due is_over_here) _ stored _ (rw not_late)
