-- Demand 3 where all the rules are kept to the end of the history: a message's omissions then are those when it was judged.
use native.Mathlib.Omega.{arith}
use mathlib.Core.Path.{refl, subst}
use mathlib.Core.Bool.{Bool}
use lib.Dec.{T, leb}
use Rattle.wire.specs.declared.ids.Stream.{Stream}
use Rattle.one_stream.proofs.Truth.{and_l, and_r}
use Rattle.bench.specs.Bench.{Bench, Ledger, books_of, book_of, now}
use Rattle.bench.specs.Demands.{its_book, at_request, at_moment, Demand3WholeHistory}
use Rattle.bench.specs.Events.{run}
use Rattle.bench.specs.Lists.{every}
use Rattle.bench.specs.Rules.{keeps_so_far, omissions, one_omission}
use Rattle.bench.specs.SetUp.{start}
use Rattle.bench.proofs.laws.ModuleAfterEvent.{count_is}
use Rattle.bench.proofs.laws.TicksCounted.{to_the_end}
use Rattle.bench.proofs.message.RequestOpens.{logs_of}
use Rattle.bench.proofs.message.MessageOfHistory.{followed}
use Rattle.bench.proofs.message.OmissionsStay.{Counted, newest, stage_run, place_of, every_book, every_ledger}
use Rattle.bench.proofs.two_message.TwoMessageOnBench.{two_message_on_bench}
use Rattle.bench.proofs.demand3.ByCounts.{K, hold_is}
use Rattle.bench.proofs.demand3.Demand3.{all_counted, judged_is_newest, demand3}

-- DEMAND 3, where all the rules are kept to the end of the history
pub demand3_whole_history : Demand3WholeHistory
demand3_whole_history plan ok h k m two tick = demand3 plan ok h so_far m two tick rule2
  where
    b₀ : Bench
    b₀ = start plan

    s : Stream
    s = m.stream

    b₁ : Bench
    b₁ = at_request b₀ h m

    b₃ : Bench
    b₃ = at_moment b₀ h m

    no_two : Bool
    no_two = every (λ (l : Ledger). every one_omission l.books) (run b₀ h).ledgers

    so_far : T (keeps_so_far b₀ h)
    so_far = and_l (keeps_so_far b₀ h) no_two k

    rule2 : T (one_omission (its_book b₀ h m))
    rule2 =
        let ((v, x), keeps₃) = followed two_message_on_bench plan ok h so_far m two (judged_is_newest plan ok h so_far m two tick) in
        let class = K plan ok h so_far m two in
        let over : Counted class (now b₁) b₃ = λ i live.
        omega (arith, all_counted b₀ h m tick i live, hold_is plan ok h so_far m two, count_is i b₁.modules) in
        let (place, same) =
        place_of class s m.sender (omissions (book_of s 0 b₃)) (run b₃ m.rest)
        (stage_run class s m.sender (omissions (book_of s 0 b₃)) m.rest b₃ v (newest (now b₁) m.payload (logs_of s b₁) x over refl) keeps₃) in
        let at_end = subst (λ b. T (every one_omission (books_of s b))) (to_the_end b₀ h m)
        (every_ledger s (run b₀ h).ledgers (and_r (keeps_so_far b₀ h) no_two k)) in
        subst (λ n. T (leb n 1)) same (every_book (books_of s (run b₃ m.rest)) at_end place)
