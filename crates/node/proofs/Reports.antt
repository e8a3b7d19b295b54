-- The worked reports; a report's numbers are distinct; as many messages are delivered as records are written.
use Rattle.std.proofs.Common.{◌≡◌, ◌+◌, Bool, true, false, cond, [], ◌∷◌, length, refl, arith}
use Rattle.wire.specs.Classes.{carries}
use Rattle.wire.specs.Identifiers.{join}
use Rattle.wire.specs.Settings.{legal}
use Rattle.wire.proofs.Variants.{told_apart}
use Rattle.node.specs.declared.told.Told.{Told}
use Rattle.node.specs.Slots.{same_bytes, first, on_first, some, many}
use Rattle.node.specs.Told.{told_number, told_by}
use Rattle.node.specs.Clock.{rolled, unbounded}
use Rattle.node.specs.SetUp.{less_free, in_place, set_up}
use Rattle.node.specs.Hear.{heard_by, hear}
use Rattle.node.specs.Tick.{late, due, hold_over, lapsed, age_of, due_slots, tick}
use Rattle.node.specs.Request.{requested, request}
use Rattle.node.specs.NextFrame.{give, given_out, next_frame}
use Rattle.node.specs.WorkedReports.{report_rows, ReportsAsWorked, DeliveredAreRecords}
use Rattle.node.specs.contracts.told.Told.{enum}

pub reports_rolled : ReportsAsWorked rolled
unfolding report_rows set_up less_free in_place hear heard_by told_by tick late due
    hold_over lapsed many request requested next_frame join give given_out legal carries
    same_bytes first on_first some
reports_rolled = refl

pub reports_unbounded : ReportsAsWorked unbounded
unfolding report_rows set_up less_free in_place hear heard_by told_by tick late due
    hold_over lapsed many request requested next_frame join give given_out legal carries
    same_bytes first on_first some
reports_unbounded = refl

pub told_numbers_distinct : (a b : Told) → told_number a ≡ told_number b → a ≡ b
told_numbers_distinct = told_apart enum told_number refl

pub delivered_are_records : DeliveredAreRecords
unfolding many due_slots
delivered_are_records clock now [] = refl
delivered_are_records clock now (x ∷ xs) = go (due (age_of clock now x) x) (delivered_are_records clock now xs)
  where
    go : (t : Bool) → many (λ z. due (age_of clock now z) z) xs ≡ length (due_slots clock now xs)
        → cond t 1 0 + many (λ z. due (age_of clock now z) z) xs ≡ length (cond t (x ∷ due_slots clock now xs) (due_slots clock now xs))
    go true e = omega (arith, e)
    go false e = omega (arith, e)
