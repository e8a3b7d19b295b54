-- Table 3 of the source: its streams, with C as it is printed and with three bits of interframe space added to it; and some lists that are refused.
use mathlib.Core.Path.{◌≡◌, refl}
use mathlib.Core.List.{List, [], ◌∷◌, map}
use Prim.Native.Nat.{ℕ, ◌+◌, ◌-◌}
use Rattle.response.specs.declared.streams.StreamRecord.{StreamRecord}
use Rattle.response.specs.declared.streams.Errors.{Errors}
use Rattle.response.specs.Verdicts.{Done, ShortOutput, BadStream, Late}
use Rattle.response.specs.Streams.{legal, legal_errors, legal_record, legal_records, unused}
use Rattle.response.specs.Waiting.{blocking, interference, demand, least_from, waiting}
use Rattle.response.specs.Sheet.{first_late, times, verdict, written}

-- at 1 Mbit/s a bit lasts 1 µs; `extra` is added to C; the deadline is the period
abbrev stream : (extra priority c t : ℕ) → StreamRecord
stream extra p c t = record { priority = p; c = c + extra; t = t; d = t }

abbrev pub table_three : (extra : ℕ) → List StreamRecord
table_three extra =
    stream extra 1 89 5000 ∷ stream extra 2 127 10000 ∷ stream extra 3 108 10000 ∷ stream extra 4 108 10000 ∷ stream extra 5 108 10000 ∷ []

-- two errors in each 10 ms, 0.3 ms of inaccessibility in all
abbrev pub two_errors : Errors
two_errors = record { n = 2; period = 10000; inaccessibility = 150 }

-- with C as it is printed the response times are 516, 624, 732, 840 and 840
pub as_printed : written (table_three 0) two_errors 10 ≡ 427 ∷ 516 ∷ 497 ∷ 624 ∷ 624 ∷ 732 ∷ 732 ∷ 840 ∷ 732 ∷ 840 ∷ []
unfolding legal legal_errors legal_record legal_records unused blocking interference demand least_from waiting first_late times verdict written
as_printed = refl

-- the table's own are 519, 630, 741, 852 and 852: the waiting time with three bits more in every C, and the printed C
pub as_in_the_table : map (λ (s : StreamRecord). waiting (table_three 3) two_errors s + (s.c - 3)) (table_three 3) ≡ 519 ∷ 630 ∷ 741 ∷ 852 ∷ 852 ∷ []
unfolding blocking interference demand least_from waiting
as_in_the_table = refl

-- ── refusals ──
-- two streams: the second waits for one message of the first, and is through after 5
abbrev two : (deadline : ℕ) → List StreamRecord
two deadline = record { priority = 2; c = 2; t = 10; d = 10 } ∷ record { priority = 9; c = 3; t = 10; d = deadline } ∷ []

abbrev no_errors : Errors
no_errors = record { n = 0; period = 1; inaccessibility = 0 }

pub just_in_time : written (two 5) no_errors 4 ≡ 3 ∷ 5 ∷ 2 ∷ 5 ∷ []
unfolding legal legal_errors legal_record legal_records unused blocking interference demand least_from waiting first_late times verdict written
just_in_time = refl

pub late_by_one : (verdict (two 4) no_errors 4 ≡ Late 1) × (written (two 4) no_errors 4 ≡ [])
unfolding legal legal_errors legal_record legal_records unused blocking interference demand least_from waiting first_late times verdict written
late_by_one = (refl, refl)

-- of two refusals the earlier is given: too short an output before a late stream, and a bad number before both
pub in_order : (verdict (two 4) no_errors 3 ≡ ShortOutput) × (verdict (two 0) no_errors 3 ≡ BadStream)
unfolding legal legal_errors legal_record legal_records unused blocking interference demand least_from waiting first_late times verdict
in_order = (refl, refl)

-- an empty list is Done, unless a number of the errors is out of range
pub empty_list : (verdict [] no_errors 0 ≡ Done) × (verdict [] (record { n = 0; period = 0; inaccessibility = 0 }) 0 ≡ BadStream)
unfolding legal legal_errors legal_records first_late verdict
empty_list = (refl, refl)
