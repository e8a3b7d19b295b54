-- The errors seen in earlier versions, each ruled out for every slot and every node.
use Rattle.std.proofs.Common.{◌≡◌, ℕ, ◌+◌, ◌%◌, ◌<◌, ◌≤◌, true, false, List, sym, refl, ap, ◌∙◌, arith}
use mathlib.Core.Bool.{and-eq-true_iff}
use Rattle.wire.specs.declared.ids.Stream.{Stream}
use Rattle.wire.specs.declared.ids.BusId.{BusId}
use Rattle.wire.specs.Identifiers.{stream_of, code_of}
use Rattle.wire.specs.Settings.{receives, is_two_message}
use Rattle.node.specs.declared.slots.Slot.{Slot}
use Rattle.node.specs.declared.Node.{Node}
use Rattle.node.specs.Nodes.{slot_of}
use Rattle.node.specs.Slots.{holding, restamped, with_message}
use Rattle.node.specs.Clock.{Clock, period, rolled}
use Rattle.node.specs.Hear.{clashes, heard_by, hear}
use Rattle.node.specs.Tick.{late, due, hold_over, dropped, delivered, lapsed, age_of, tick_slot, due_slots, ticked}
use Rattle.node.specs.Calls.{Call, after}
use Rattle.node.proofs.Choices.{contrary, refuted}
use Rattle.node.proofs.Cases.{by_case}
use Rattle.node.proofs.hear.Cases.{hear_cases}
use Rattle.node.proofs.slots.Streams.{heard_keeps, slot_of_changed, slot_of_ticked}
use Rattle.node.proofs.tick.Tests.{Late, late_tells, due_tells, hold_over_tells}
use Rattle.node.proofs.tick.Stirring.{unconfirmed_is_not_due, late_is_dropped, due_is_delivered}
use Rattle.node.proofs.tick.Ascending.{Ascends, due_ascend}
use Rattle.node.proofs.kept.EachSlot.{not_sender}
use Rattle.node.proofs.slot_order.InStreamOrder.{stream_order_unseen}

-- ── delivering on age alone ──
-- an unconfirmed 2M message is not due at any age
pub unconfirmed_never_due : (age : ℕ) (x : Slot) → is_two_message x.settings ≡ true → x.message.confirmed ≡ false → due age x ≡ false
unconfirmed_never_due = unconfirmed_is_not_due

-- ── `age >= dc` ──
-- all three tests are strict
pub not_late_at_dc : (x : Slot) → late x.settings.dc x ≡ false
not_late_at_dc x = refuted (late x.settings.dc x) (λ l. omega (arith, ((late_tells x.settings.dc x).says l).over))

pub not_due_at_dd : (x : Slot) → due x.settings.dd x ≡ false
not_due_at_dd x = refuted (due x.settings.dd x) (λ d. omega (arith, ((due_tells x.settings.dd x).says d).over))

pub not_over_at_reach : (x : Slot) → hold_over (x.settings.rd + x.settings.dd) x ≡ false
not_over_at_reach x =
    let age = x.settings.rd + x.settings.dd in
    refuted (hold_over age x) (λ o. omega (arith, ((hold_over_tells age x).says o).over))

-- what is unconfirmed in 2M is held at age dc, and at every age before it
pub held_up_to_dc : (age : ℕ) (x : Slot) → receives x.settings ≡ true → is_two_message x.settings ≡ true
    → x.message.confirmed ≡ false → age ≤ x.settings.dc → lapsed age x ≡ x
unfolding lapsed
held_up_to_dc age x r two unconfirmed young =
    let not_late : late age x ≡ false = refuted (late age x) (λ l. omega (arith, ((late_tells age x).says l).over)) in
    let not_over : hold_over age x ≡ false =
    refuted (hold_over age x) (λ o. contrary ((hold_over_tells age x).says o).sender (not_sender x.settings r)) in
    rw (not_late, unconfirmed_never_due age x two unconfirmed, not_over)

-- and dropped with an abort pending at the next
pub dropped_after_dc : (age : ℕ) (x : Slot) → Late age x → lapsed age x ≡ dropped x
dropped_after_dc age x l = sym (late_is_dropped age x ((late_tells age x).back l))

-- ── a delivered message left in the table ──
module _ (age : ℕ) (x : Slot) (is_due : due age x ≡ true) where
  -- the slot of a delivered message holds nothing
  pub delivered_leaves : lapsed age x ≡ delivered x
  delivered_leaves = sym (due_is_delivered age x is_due)

  -- and data heard then is new, whatever it is: no duplicate, and no Clash
  pub heard_anew : (now : ℕ) (payload : List ℕ)
      → ((heard_by now 0 payload (lapsed age x)).message ≡ holding now payload) × (clashes 0 payload (lapsed age x) ≡ false)
  unfolding heard_by
  heard_anew now payload = rw delivered_leaves (refl, refl)

-- so it is in the node that a tick leaves
pub delivered_leaves_node : (clock : Clock) (s : Stream) (n : Node)
    → let now = clock.next n.counter in due (age_of clock now (slot_of s n)) (slot_of s n) ≡ true
    → slot_of s (ticked clock n) ≡ delivered (slot_of s n)
delivered_leaves_node clock s n is_due =
    slot_of_ticked clock s n ∙ delivered_leaves (age_of clock (clock.next n.counter) (slot_of s n)) (slot_of s n) is_due

-- ── unconfirming on a duplicate ──
-- a duplicate changes the stamp and nothing else
pub duplicate_restamps : (now : ℕ) (payload : List ℕ) (x : Slot) → x.message.held ≡ true
    → heard_by now 0 payload x ≡ with_message (restamped now x.message) x
unfolding heard_by
duplicate_restamps now payload x held = rw held

-- whatever the node, and whatever is answered: data for a stream that holds a message leaves it confirmed or not, as it was
pub duplicate_keeps_confirmed : (n : Node) (id : BusId) (dlc : ℕ) (payload output : List ℕ)
    → code_of id ≡ 0 → (slot_of (stream_of id) n).message.held ≡ true
    → (slot_of (stream_of id) (hear id dlc payload output n).node).message.confirmed ≡ (slot_of (stream_of id) n).message.confirmed
duplicate_keeps_confirmed n id dlc payload output is_data held =
    let x = slot_of (stream_of id) n in
    by_case (λ o. (slot_of (stream_of id) o.node).message.confirmed ≡ x.message.confirmed) (λ r why. refl)
    (λ h.
    ap (λ (y : Slot). y.message.confirmed)
    (slot_of_changed (stream_of id) _ (heard_keeps n.counter (code_of id) payload) n ((and-eq-true_iff x.used _).0 h.own).0)
    ∙ rw (is_data, duplicate_restamps n.counter payload x held))
    (hear_cases id dlc payload output n).case

-- ── comparing counters by size ──
-- k ticks after the stamp the age is k, also where the counter has rolled over and is below the stamp
pub age_counts : (stamp k : ℕ) → stamp < period → k < period → rolled.age ((stamp + k) % period) stamp ≡ k
age_counts stamp k small few = omega arith

-- so a tick treats a slot by its age on either side of the rollover
pub lapsed_by_age : (k : ℕ) (x : Slot) → x.message.stamp < period → k < period
    → tick_slot rolled ((x.message.stamp + k) % period) x ≡ lapsed k x
lapsed_by_age k x small few = rw (age_counts x.message.stamp k small few)

-- ── delivering in slot order ──
-- a tick's records ascend by stream, in whatever order the slots were set up
pub records_ascend : (clock : Clock) (h : List Call) → let n = after clock h in Ascends (due_slots clock (clock.next n.counter) n.slots)
records_ascend clock h = let n = after clock h in due_ascend clock (clock.next n.counter) n.slots (stream_order_unseen clock h).in_order
