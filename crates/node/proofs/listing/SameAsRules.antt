-- The rules paper's 2M receiver does what the listing in HURRAY-TR-0014 does, in every history in which all data is equal to what is held.
use Rattle.std.proofs.Common.{◌≡◌, ℕ, ◌+◌, ◌-◌, Bool, true, false, ◌||◌, ltb, List, [], ◌∷◌, sym, refl, ap, ◌∙◌, subst, ap₂, arith, ltb-false}
use Rattle.std.proofs.Common.{ltb-true, le-ltb, lt-ltb}
use mathlib.Core.Bool.{or-false, or-true}
use lib.Seq.{take-append_seam}
use Rattle.wire.specs.Settings.{receives, sends, is_imd, is_two_message}
use Rattle.node.specs.declared.slots.Slot.{Slot}
use Rattle.node.specs.Hear.{heard_by}
use Rattle.node.specs.Request.{requested}
use Rattle.node.specs.NextFrame.{payload_for, given_out}
use Rattle.node.specs.Tick.{late, due, hold_over, dropped, delivered, lapsed}
use Rattle.node.specs.Listing.{Frame, Intervals, ReceivedSet, Ruled, leaves, aborts, delivers, receive, deliver_or_abort}
use Rattle.node.specs.SameAsListing.{intervals, received, listed, code_for, payload_in, Reliable, forgotten, delivered_by, Event, heard_frame}
use Rattle.node.specs.SameAsListing.{ticked_slot, slot_shows, listing_shows, Fair, SameAsListing, SendsAsListing}
use Rattle.node.proofs.Choices.{contrary, refuted}
use Rattle.node.proofs.slots.Streams.{Kind, kind_of, heard_keeps, lapsed_keeps}
use Rattle.node.proofs.tick.Tests.{late_tells, due_tells}
use Rattle.node.proofs.tick.Stirring.{late_is_dropped, due_is_delivered}
use Rattle.node.proofs.kept.EachSlot.{not_sender, two_not_plain}
use Rattle.node.proofs.EarlierErrors.{unconfirmed_never_due}

-- ── hearing ──
-- after a rule the slot y, that was x, stands for the set; an abort is pending if one was, or if one was sent
pub record Follows (x y : Slot) (set : ReceivedSet) (sends_abort : Bool) : Type 0 where
  pub same_set : listed y ≡ set
  pub same_aborts : y.pending.abort ≡ (x.pending.abort || sends_abort)

abbrev pub Heard : ℕ → Slot → Frame → Type 0
Heard now x f =
    let ruled = receive (intervals x) now f (listed x) in
    Follows x (heard_by now (code_for f) (payload_in f) x) ruled.set ruled.sends_abort

pub heard_follows : (now : ℕ) (x : Slot) (f : Frame) → Reliable f → Heard now x f
unfolding heard_by
heard_follows now x f r = by_held x.message.held refl f r
  where
    by_held : (h : Bool) → x.message.held ≡ h → (f : Frame) → Reliable f → Heard now x f
    by_held true e (Frame.message payload) r = rw e (record { same_set = refl; same_aborts = sym (or-false x.pending.abort) })
    by_held true e Frame.confirmation r = rw e (record { same_set = refl; same_aborts = sym (or-false x.pending.abort) })
    by_held true e Frame.abort r = rw e (record { same_set = refl; same_aborts = sym (or-false x.pending.abort) })
    by_held true e (Frame.unreliable payload) r = absurd r
    by_held false e (Frame.message payload) r = rw e (record { same_set = rw take-append_seam; same_aborts = sym (or-false x.pending.abort) })
    by_held false e Frame.confirmation r = rw e (record { same_set = refl; same_aborts = sym (or-true x.pending.abort) })
    by_held false e Frame.abort r = rw e (record { same_set = refl; same_aborts = sym (or-false x.pending.abort) })
    by_held false e (Frame.unreliable payload) r = absurd r

-- ── ticking ──
-- what a slot holds is not delivered yet
listed_stays : (x : Slot) → forgotten (listed x) ≡ listed x
listed_stays x = by_message x.message.held x.message.confirmed refl refl
  where
    by_message : (h c : Bool) → x.message.held ≡ h → x.message.confirmed ≡ c → forgotten (listed x) ≡ listed x
    by_message false c e ec = rw e
    by_message true true e ec = rw (e, ec)
    by_message true false e ec = rw (e, ec)

-- an age above d is a time stamp + d that has passed
age_passed : (d now stamp : ℕ) → ltb d (now - stamp) ≡ ltb (stamp + d) now
age_passed d now stamp = by_test (ltb (stamp + d) now) refl
  where
    by_test : (t : Bool) → ltb (stamp + d) now ≡ t → ltb d (now - stamp) ≡ t
    by_test true e = lt-ltb d (now - stamp) (omega (arith, ltb-true (stamp + d) now e))
    by_test false e = le-ltb d (now - stamp) (omega (arith, ltb-false (stamp + d) now e))

-- the table after a tick, the aborts, and the payloads delivered
abbrev pub Ticked : ℕ → Slot → Ruled → Type 0
Ticked now x ruled =
    let age = now - x.message.stamp in
    Follows x (lapsed age x) (forgotten ruled.set) ruled.sends_abort × (delivered_by age x ≡ ruled.delivers)

module _ (now : ℕ) (x : Slot) (used : x.used ≡ true) (r : receives x.settings ≡ true) (two : is_two_message x.settings ≡ true) where
  abbrev age : ℕ
  age = now - x.message.stamp

  own : sends x.settings ≡ false
  own = not_sender x.settings r

  not_over : hold_over age x ≡ false
  unfolding hold_over
  not_over = rw (used, own)

  late_is : x.message.held ≡ true → x.message.confirmed ≡ false → late age x ≡ ltb (x.message.stamp + x.settings.dc) now
  unfolding late
  late_is e ec = rw (used, r, e, two, ec) (age_passed x.settings.dc now x.message.stamp)

  due_is : x.message.held ≡ true → x.message.confirmed ≡ true → due age x ≡ ltb (x.message.stamp + x.settings.dd) now
  unfolding due
  due_is e ec = rw (used, r, e, two, ec, or-true (is_imd x.settings)) (age_passed x.settings.dd now x.message.stamp)

  -- neither late nor due
  still_follows : late age x ≡ false → due age x ≡ false → deliver_or_abort now (listed x) ≡ leaves (listed x)
      → Ticked now x (deliver_or_abort now (listed x))
  unfolding lapsed
  still_follows not_late not_due still =
      let same : lapsed age x ≡ x = rw (not_late, not_due, not_over) in
      rw still (record { same_set = rw same (sym (listed_stays x)); same_aborts = rw same (sym (or-false x.pending.abort)) }, rw not_due)

  unheld_follows : x.message.held ≡ false → Ticked now x (deliver_or_abort now (listed x))
  unheld_follows e =
      still_follows (refuted (late age x) (λ l. contrary ((late_tells age x).says l).held e))
      (refuted (due age x) (λ d. contrary ((due_tells age x).says d).held e)) (rw e)

  -- unstable
  waiting_follows : x.message.held ≡ true → x.message.confirmed ≡ false → Ticked now x (deliver_or_abort now (listed x))
  unfolding lapsed
  waiting_follows e ec = by_time (ltb (x.message.stamp + x.settings.dc) now) refl
    where
      not_due : due age x ≡ false
      not_due = unconfirmed_never_due age x two ec

      by_time : (t : Bool) → ltb (x.message.stamp + x.settings.dc) now ≡ t → Ticked now x (deliver_or_abort now (listed x))
      by_time true et =
          let gone : lapsed age x ≡ dropped x = sym (late_is_dropped age x (late_is e ec ∙ et)) in
          let ruled : deliver_or_abort now (listed x) ≡ aborts = rw (e, ec, et) in
          rw ruled (record { same_set = rw gone; same_aborts = rw gone (sym (or-true x.pending.abort)) }, rw not_due)
      by_time false et = still_follows (late_is e ec ∙ et) not_due (rw (e, ec, et))

  -- confirmed
  settled_follows : x.message.held ≡ true → x.message.confirmed ≡ true → Ticked now x (deliver_or_abort now (listed x))
  unfolding lapsed
  settled_follows e ec = by_time (ltb (x.message.stamp + x.settings.dd) now) refl
    where
      not_late : late age x ≡ false
      not_late = refuted (late age x) (λ l. contrary ec ((late_tells age x).says l).unconfirmed)

      by_time : (t : Bool) → ltb (x.message.stamp + x.settings.dd) now ≡ t → Ticked now x (deliver_or_abort now (listed x))
      by_time true et =
          let is_due : due age x ≡ true = due_is e ec ∙ et in
          let gone : lapsed age x ≡ delivered x = sym (due_is_delivered age x is_due) in
          let m = received x.settings x.message in
          let ruled : deliver_or_abort now (listed x) ≡ delivers m.payload m.times = rw (e, ec, et) in
          rw ruled (record { same_set = rw gone; same_aborts = rw gone (sym (or-false x.pending.abort)) }, rw is_due)
      by_time false et = still_follows not_late (due_is e ec ∙ et) (rw (e, ec, et))

  pub tick_follows : Ticked now x (deliver_or_abort now (listed x))
  tick_follows = by_message x.message.held x.message.confirmed refl refl
    where
      by_message : (h c : Bool) → x.message.held ≡ h → x.message.confirmed ≡ c → Ticked now x (deliver_or_abort now (listed x))
      by_message false c e ec = unheld_follows e
      by_message true false e ec = waiting_follows e ec
      by_message true true e ec = settled_follows e ec

-- ── every history of a 2M receive slot ──
record TwoReceiver (k : Kind) : Type 0 where
  pub used : k.used ≡ true
  pub receiver : receives k.settings ≡ true
  pub two_message : is_two_message k.settings ≡ true

abbrev intervals_of : Kind → Intervals
intervals_of k = record { to_confirm = k.settings.dc; to_deliver = k.settings.dd }

reliable_delivers_nothing : (i : Intervals) (now : ℕ) (f : Frame) (set : ReceivedSet) → Reliable f → (receive i now f set).delivers ≡ []
reliable_delivers_nothing i now (Frame.message payload) ReceivedSet.absent r = refl
reliable_delivers_nothing i now (Frame.message payload) (ReceivedSet.present m) r = refl
reliable_delivers_nothing i now Frame.confirmation ReceivedSet.absent r = refl
reliable_delivers_nothing i now Frame.confirmation (ReceivedSet.present m) r = refl
reliable_delivers_nothing i now Frame.abort ReceivedSet.absent r = refl
reliable_delivers_nothing i now Frame.abort (ReceivedSet.present m) r = refl
reliable_delivers_nothing i now (Frame.unreliable payload) set r = absurd r

-- for every history that is fair the slot shows what the listing shows
by_kind : (es : List Event) (now : ℕ) (x : Slot) → TwoReceiver (kind_of x) → Fair now x es
    → slot_shows now x es ≡ listing_shows (intervals x) now (listed x) x.pending.abort es
unfolding given_out
by_kind [] now x t fair = refl
by_kind (Event.hears f ∷ es) now x t fair =
    let y = heard_frame now f x in
    let keeps : kind_of y ≡ kind_of x = heard_keeps now (code_for f) (payload_in f) x in
    let rest = by_kind es now y (subst TwoReceiver (sym keeps) t) fair.2 in
    let step = heard_follows now x f fair.0 in
    let nothing_delivered = reliable_delivers_nothing (intervals x) now f (listed x) fair.0 in
    rw (fair.1, nothing_delivered)
    (ap₂ (λ a l. record { delivered = []; aborting = a } ∷ l) step.same_aborts
    (rest ∙ λ j. listing_shows (intervals_of (keeps j)) now (step.same_set j) (step.same_aborts j) es))
by_kind (Event.ticks ∷ es) now x t fair =
    let y = ticked_slot (now + 1) x in
    let keeps : kind_of y ≡ kind_of x = lapsed_keeps (now + 1 - x.message.stamp) x in
    let rest = by_kind es (now + 1) y (subst TwoReceiver (sym keeps) t) fair in
    let step = tick_follows (now + 1) x t.used t.receiver t.two_message in
    ap₂ (λ e l. e ∷ l) (λ j. record { delivered = step.1 j; aborting = step.0.same_aborts j })
    (rest ∙ λ j. listing_shows (intervals_of (keeps j)) (now + 1) (step.0.same_set j) (step.0.same_aborts j) es)
by_kind (Event.gives ∷ es) now x t fair = ap (λ l. record { delivered = []; aborting = false } ∷ l) (by_kind es now (given_out 2 x) t fair)

pub same_as_listing : SameAsListing
same_as_listing es now x t fair =
    by_kind es now x (record { used = t.used; receiver = t.receiver; two_message = t.two_message }) fair

-- ── sending ──
pub sends_as_listing : SendsAsListing
unfolding requested payload_for
sends_as_listing now payload x two = rw (two_not_plain x.settings two, two) (refl, take-append_seam payload _)
