-- Worked reports: whatever a frame can do is told by some call, and what ticks drop and deliver; stream 5 of the worked moments, and a
-- stream of plain frames.
use Rattle.std.specs.Prelude.{◌≡◌, ℕ, List, [], ◌∷◌, map, length, replicate}
use Rattle.wire.specs.Settings.{of_plain, of_imd}
use Rattle.node.specs.declared.slots.Slot.{Slot}
use Rattle.node.specs.declared.told.Told.TheVariants.{New, Duplicate, Confirmed, ConfirmedAgain, AbortPending, Dropped, NothingToDrop, Delivered}
use Rattle.node.specs.Slots.{many}
use Rattle.node.specs.Told.{Report, silent, of_frame, of_tick}
use Rattle.node.specs.Clock.{Clock}
use Rattle.node.specs.Hear.{hear_room}
use Rattle.node.specs.Tick.{due, age_of, due_slots}
use Rattle.node.specs.Calls.{Call, outcome, after}
use Rattle.node.specs.Moments.{five, receive, send, settings, data₅, confirmation₅, request₅, next, one_tick, ticks}

-- after some calls from the fresh node a call tells this
pub record Row : Type 0 where
  pub before : List Call
  pub call : Call
  pub told : Report

abbrev row : (before : List Call) → Call → Report → Row
row before call told = record { before = before; call = call; told = told }

abbrev receiver : Call
receiver = Call.set_up five (settings receive 6)

abbrev sender : Call
sender = Call.set_up five (settings send 6)

-- stream 6, plain, and stream 7, IMD with deliver delay 3
abbrev plain : Call
plain = Call.set_up (record { 0 = 6 }) (of_plain receive)

abbrev seven : Call
seven = Call.set_up (record { 0 = 7 }) (of_imd receive 2 3)

abbrev hear : (id : ℕ) → (payload : List ℕ) → Call
hear id payload = Call.hear (record { 0 = id }) (length payload) payload (replicate hear_room 0)

abbrev abort₅ : Call
abort₅ = hear 22 []

unfoldable pub report_rows : List Row
report_rows =
    -- what a frame did
    row (receiver ∷ []) data₅ (of_frame New) ∷
    row (receiver ∷ data₅ ∷ []) data₅ (of_frame Duplicate) ∷
    row (receiver ∷ data₅ ∷ confirmation₅ ∷ []) data₅ (of_frame Duplicate) ∷
    row (receiver ∷ data₅ ∷ []) confirmation₅ (of_frame Confirmed) ∷
    row (receiver ∷ data₅ ∷ confirmation₅ ∷ []) confirmation₅ (of_frame ConfirmedAgain) ∷
    row (receiver ∷ []) confirmation₅ (of_frame AbortPending) ∷
    row (receiver ∷ confirmation₅ ∷ []) confirmation₅ (of_frame AbortPending) ∷
    row (receiver ∷ data₅ ∷ []) abort₅ (of_frame Dropped) ∷
    row (receiver ∷ data₅ ∷ confirmation₅ ∷ []) abort₅ (of_frame Dropped) ∷
    row (receiver ∷ []) abort₅ (of_frame NothingToDrop) ∷
    row (plain ∷ []) (hear 27 (1 ∷ 2 ∷ [])) (of_frame Delivered) ∷
    -- beside a refusal, and by the other calls, nothing is told
    row (receiver ∷ data₅ ∷ []) (hear 20 (1 ∷ 2 ∷ [])) silent ∷
    row [] data₅ silent ∷
    row (sender ∷ []) request₅ silent ∷
    row (sender ∷ request₅ ∷ []) next silent ∷
    -- what a tick dropped and delivered: an unconfirmed message older than 3, one of IMD older than 3, a confirmed one older than 6
    row (receiver ∷ data₅ ∷ ticks 2) one_tick silent ∷
    row (receiver ∷ data₅ ∷ ticks 3) one_tick (of_tick 1 0) ∷
    row (seven ∷ hear 28 (1 ∷ []) ∷ ticks 3) one_tick (of_tick 0 1) ∷
    row (receiver ∷ seven ∷ data₅ ∷ hear 28 (1 ∷ []) ∷ ticks 3) one_tick (of_tick 1 1) ∷
    row (receiver ∷ data₅ ∷ confirmation₅ ∷ ticks 6) one_tick (of_tick 0 1) ∷
    row (receiver ∷ data₅ ∷ ticks 3) (Call.tick (replicate 511 0)) silent ∷
    -- the end of a sender's hold is neither
    row (sender ∷ request₅ ∷ ticks 8) one_tick silent ∷
    []

abbrev pub ReportsAsWorked : Clock → Type 0
ReportsAsWorked clock = map (λ (r : Row). (outcome clock r.call (after clock r.before)).report) report_rows ≡ map (λ (r : Row). r.told) report_rows

-- as many messages are delivered as records are written
abbrev pub DeliveredAreRecords : Type 0
DeliveredAreRecords = (clock : Clock) (now : ℕ) (xs : List Slot) → many (λ x. due (age_of clock now x) x) xs ≡ length (due_slots clock now xs)
