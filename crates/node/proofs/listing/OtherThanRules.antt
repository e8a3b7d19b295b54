-- Where the rules paper decides otherwise than the listing in HURRAY-TR-0014, each place with an example of both.
use Rattle.std.proofs.Common.{◌≡◌, ℕ, true, List, [], ◌∷◌, ◌++◌, replicate, refl}
use Rattle.wire.specs.declared.reply.Reply.TheVariants.{Misfit, Clash, Nothing}
use Rattle.wire.specs.Identifiers.{join}
use Rattle.wire.specs.Classes.{carries}
use Rattle.wire.specs.Delivered.{record_of}
use Rattle.wire.specs.Settings.{of_plain, legal}
use Rattle.node.specs.Slots.{holding, same_bytes, first, on_first, some}
use Rattle.node.specs.declared.told.Told.TheVariants.{Delivered}
use Rattle.node.specs.Told.{told_by, of_frame}
use Rattle.node.specs.Nodes.{slot_of, refused, done, telling}
use Rattle.node.specs.Clock.{rolled}
use Rattle.node.specs.SetUp.{less_free, in_place, set_up}
use Rattle.node.specs.Hear.{hear, heard_by, delivered_at_once, hear_room}
use Rattle.node.specs.Tick.{tick, late, due, hold_over, lapsed}
use Rattle.node.specs.NextFrame.{next_frame, give, given_out}
use Rattle.node.specs.Calls.{Call, outcome, after}
use Rattle.node.specs.Listing.{Frame, State, Intervals, ReceivedSet, leaves, times_from, times_of, receive, deliver_or_abort}
use Rattle.node.specs.Moments.{five, receive as receiver, settings, data₅, confirmation₅, next, ticks}

-- stream 5 of the worked moments, by either
abbrev i : Intervals
i = record { to_confirm = 3; to_deliver = 6 }

abbrev bytes : List ℕ
bytes = 10 ∷ 11 ∷ []

abbrev received : ℕ → State → ReceivedSet
received now state = ReceivedSet.present (record { payload = bytes; state = state; times = times_from now i })

abbrev with_five : List Call → List Call
with_five calls = Call.set_up five (settings receiver 6) ∷ calls

-- ── data with other bytes ──
-- the listing keeps the message that it has, and renews its times
listing_renews : (receive i 12 (Frame.message (12 ∷ [])) (received 10 State.unstable)).set ≡ received 12 State.unstable
listing_renews = refl

-- the rules paper refuses the data
other_data : Call
other_data = Call.hear (record { 0 = 20 }) 1 (12 ∷ []) (replicate hear_room 0)

paper_refuses : outcome rolled other_data (after rolled (with_five (data₅ ∷ []))) ≡ refused (after rolled (with_five (data₅ ∷ []))) Clash
unfolding other_data set_up less_free in_place hear heard_by delivered_at_once carries legal same_bytes first on_first some
paper_refuses = refl

-- ── what was delivered ──
-- the listing leaves it in the set, marked; the next message looks like a duplicate of it, and is not delivered at any time
listing_marks : (receive i 17 (Frame.message bytes) (deliver_or_abort 17 (received 10 State.confirmed)).set).set ≡ received 17 State.delivered
listing_marks = refl

listing_never_delivers : (now : ℕ) → deliver_or_abort now (received 17 State.delivered) ≡ leaves (received 17 State.delivered)
listing_never_delivers now = refl

-- in the rules paper it leaves the table, and the next message is a new one
paper_takes_out : (slot_of five (after rolled (with_five (data₅ ∷ ticks 3 ++ confirmation₅ ∷ ticks 4 ++ data₅ ∷ [])))).message ≡ holding 7 bytes
unfolding set_up less_free in_place hear heard_by tick late due hold_over lapsed carries legal same_bytes first on_first some
paper_takes_out = refl

-- ── an abort caused twice ──
-- the listing sends two aborts
listing_aborts_again : ((receive i 10 Frame.confirmation ReceivedSet.absent).sends_abort ≡ true)
    × ((receive i 11 Frame.confirmation (receive i 10 Frame.confirmation ReceivedSet.absent).set).sends_abort ≡ true)
listing_aborts_again = (refl, refl)

-- in the rules paper one frame is pending, and then none
paper_aborts_once : ((outcome rolled next (after rolled (with_five (confirmation₅ ∷ confirmation₅ ∷ [])))).id ≡ record { 0 = 22 })
    × ((outcome rolled next (after rolled (with_five (confirmation₅ ∷ confirmation₅ ∷ next ∷ [])))).reply ≡ Nothing)
unfolding set_up less_free in_place hear heard_by next_frame join give given_out carries legal first on_first some
paper_aborts_once = (refl, refl)

-- ── an unreliable message ──
-- the listing adds it to the set
listing_adds : (receive i 10 (Frame.unreliable bytes) ReceivedSet.absent).set
    ≡ ReceivedSet.present (record { payload = bytes; state = State.delivered; times = times_of ReceivedSet.absent })
listing_adds = refl

-- in the rules paper it is delivered and not kept: the node stays as it was
plain_five : List Call
plain_five = Call.set_up five (of_plain receiver) ∷ []

plain_data : Call
plain_data = Call.hear (record { 0 = 23 }) 2 bytes (replicate hear_room 0)

paper_keeps_nothing : outcome rolled plain_data (after rolled plain_five)
    ≡ telling (of_frame Delivered) (done (after rolled plain_five) (record_of five bytes))
unfolding plain_five plain_data set_up less_free in_place hear heard_by told_by delivered_at_once carries legal first on_first some
paper_keeps_nothing = refl

-- and only streams of class plain carry it
paper_refuses_unreliable : outcome rolled plain_data (after rolled (with_five [])) ≡ refused (after rolled (with_five [])) Misfit
unfolding plain_data set_up less_free in_place hear carries legal first on_first some
paper_refuses_unreliable = refl
