-- The theorems speak of the example histories: every hypothesis of demand 3 holds of both forms of moment 10 and of the day of eight
-- modules, and every hypothesis of the same order of two messages of that day.
use mathlib.Core.Path.{refl}
use mathlib.Core.Logic.{inl, inr}
use mathlib.Core.List.{[]}
use lib.Dec.{T}
use Rattle.one_stream.proofs.Truth.{and_l, so}
use Rattle.bench.specs.Lists.{every}
use Rattle.bench.specs.Bench.{Ledger, module_at}
use Rattle.bench.specs.SetUp.{start}
use Rattle.bench.specs.Events.{run}
use Rattle.bench.specs.Rules.{one_omission, keeps_so_far}
use Rattle.bench.specs.Demands.{Atomic, LiveNow, Before}
use Rattle.bench.proofs.demand3.WholeHistory.{demand3_whole_history}
use Rattle.bench.proofs.same_order.SameOrder.{same_order}
use Rattle.bench.specs.MomentTen.{five, three, message, got, short_confirmation, full_confirmation}
use Rattle.bench.proofs.examples.ExampleHistories.{computing}
use Rattle.bench.proofs.examples.MomentTen.{moment_ten, short_message, short_judged, full_message, full_judged}
use Rattle.bench.proofs.examples.EightModules.{eight, six, busy_day, a_busy_day, first_on_five, first_judged, first_on_six, full_on_five, full_on_six}

pub short_confirmation_is_atomic : Atomic (start three) short_confirmation short_message (LiveNow (start three) short_confirmation short_message)
unfolding computing short_message
short_confirmation_is_atomic =
    demand3_whole_history three (so moment_ten.short.set_up) short_confirmation (so moment_ten.short.keeps_rules) short_message tt short_judged

pub full_confirmation_is_atomic : Atomic (start three) full_confirmation full_message (LiveNow (start three) full_confirmation full_message)
unfolding computing full_message
full_confirmation_is_atomic =
    demand3_whole_history three (so moment_ten.full.set_up) full_confirmation (so moment_ten.full.keeps_rules) full_message tt full_judged

pub busy_day_is_atomic : Atomic (start eight) busy_day first_on_five (LiveNow (start eight) busy_day first_on_five)
unfolding computing first_on_five
busy_day_is_atomic =
    demand3_whole_history eight (so a_busy_day.set_up) busy_day (so a_busy_day.keeps_rules) first_on_five tt first_judged

-- modules 3 and 4 both deliver the first messages on streams 6 and 5, whose data was full
pub same_order_on_the_busy_day : Before (got 8 six []) (got 10 five message) (module_at 4 (run (start eight) busy_day)).log
unfolding computing first_on_five first_on_six
same_order_on_the_busy_day =
    same_order eight (so a_busy_day.set_up) busy_day so_far first_on_six first_on_five full_on_six full_on_five 3 4
    (got 8 six []) (got 8 six []) (got 10 five message) (got 10 five message) refl refl refl refl (inr (inl (refl, inr (inl refl))))
  where
    so_far : T (keeps_so_far (start eight) busy_day)
    so_far =
        and_l (keeps_so_far (start eight) busy_day) (every (λ (l : Ledger). every one_omission l.books) (run (start eight) busy_day).ledgers)
        (so a_busy_day.keeps_rules)
