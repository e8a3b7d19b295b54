-- What a call tells beside its reply: of a frame what it did, and of a tick how many messages it dropped and how many it delivered.
use Rattle.std.specs.Prelude.{ℕ, cond, ◌==◌}
use Rattle.node.specs.declared.slots.Slot.{Slot}
use Rattle.node.specs.declared.told.Told.{Told}
use Rattle.node.specs.declared.told.Told.TheVariants.{Nothing, New, Duplicate, Confirmed, ConfirmedAgain, AbortPending, Dropped, NothingToDrop, Delivered}

-- nothing is told beside a refusal
abbrev pub told_number : Told → ℕ
told_number Nothing = 0
told_number New = 1
told_number Duplicate = 2
told_number Confirmed = 3
told_number ConfirmedAgain = 4
told_number AbortPending = 5
told_number Dropped = 6
told_number NothingToDrop = 7
told_number Delivered = 8

-- what a frame does that the slot of its stream takes, from the slot before it
unfoldable pub told_by : (code : ℕ) → Slot → Told
told_by code x =
    cond (code == 0) (cond x.message.held Duplicate New)
    (cond (code == 1) (cond x.message.held (cond x.message.confirmed ConfirmedAgain Confirmed) AbortPending)
    (cond (code == 2) (cond x.message.held Dropped NothingToDrop) Delivered))

pub record Report : Type 0 where
  pub frame : Told
  pub dropped : ℕ
  pub delivered : ℕ

-- of a refusal, and of every other call
abbrev pub silent : Report
silent = record { frame = Nothing; dropped = 0; delivered = 0 }

abbrev pub of_frame : Told → Report
of_frame told = record { frame = told; dropped = 0; delivered = 0 }

abbrev pub of_tick : (dropped delivered : ℕ) → Report
of_tick dropped delivered = record { frame = Nothing; dropped = dropped; delivered = delivered }
