-- Demand 3: of every accepted two-message request, one tick beyond Rd + dd after it, all live receivers have delivered the
-- message once since then, or none has; and all, if its data and its confirmation each had a full sending. With common ticks every live
-- module has counted as many, so that this is demand 3 by counts at that tick.
use Prim.Native.Nat.{ℕ, ◌+◌}
use native.Mathlib.Omega.{arith}
use mathlib.Core.Path.{◌≡◌, refl, ap, ◌∙◌}
use mathlib.Core.Logic.{◌⊎◌, inl, inr}
use mathlib.Core.List.{List, [], ◌∷◌, ◌++◌}
use lib.Dec.{T}
use Rattle.one_stream.proofs.Truth.{and_l}
use Rattle.node.specs.Slots.{is_receiver}
use Rattle.bench.specs.Bench.{Bench, is_live, slot_at}
use Rattle.bench.specs.SetUp.{start}
use Rattle.bench.specs.Events.{Event, asks, ticks}
use Rattle.bench.specs.Demands.{tick_count, MessageIn, at_request, just_asked, at_moment, DeliveredOnce, DeliveredNot, Atomic, LiveNow, HasCounted}
use Rattle.bench.specs.Demands.{OneTickBeyond, Demand3, JudgedIsNewest}
use Rattle.bench.proofs.laws.TicksCounted.{count_step, count_run}
use Rattle.bench.proofs.message.MessageOfHistory.{newest_while_held}
use Rattle.bench.proofs.two_message.TwoMessageOnBench.{two_message_on_bench}
use Rattle.bench.proofs.demand3.ByCounts.{hold_is, demand3_by_counts}

count_and_tick : (h : List Event) → tick_count (h ++ (ticks ∷ [])) ≡ tick_count h + 1
count_and_tick [] = refl
count_and_tick (e ∷ es) = omega (arith, count_and_tick es)

-- ── at the tick ──
module _ (b₀ : Bench) (h : List Event) (m : MessageIn b₀ h) (tick : OneTickBeyond b₀ h m) where
  -- a live module has counted since the request
  pub all_counted : (i : ℕ) → T (is_live i (at_moment b₀ h m)) → HasCounted b₀ h m i
  all_counted i live =
      let c = count_run m.since (just_asked b₀ h m) i live in
      omega (
        arith,
        c.0,
        count_step (at_request b₀ h m) (asks m.sender m.stream m.payload) i c.1,
        ap tick_count tick.last ∙ count_and_tick tick.earlier,
        tick.long,
      )

  -- so all live receivers are judged
  at_the_tick : Atomic b₀ h m (λ i. LiveNow b₀ h m i × HasCounted b₀ h m i) → Atomic b₀ h m (LiveNow b₀ h m)
  at_the_tick a = record { all_or_none = go a.all_or_none; all_if_full = λ d c i live. a.all_if_full d c i (judged i live) }
    where
      Counted : ℕ → Type 0
      Counted i = LiveNow b₀ h m i × HasCounted b₀ h m i

      judged : (i : ℕ) → LiveNow b₀ h m i → Counted i
      judged i live = (live, all_counted i (and_l (is_live i (at_moment b₀ h m)) (is_receiver (slot_at m.stream i (at_moment b₀ h m))) live))

      go : ((i : ℕ) → Counted i → DeliveredOnce b₀ h m i) ⊎ ((i : ℕ) → Counted i → DeliveredNot b₀ h m i)
          → ((i : ℕ) → LiveNow b₀ h m i → DeliveredOnce b₀ h m i) ⊎ ((i : ℕ) → LiveNow b₀ h m i → DeliveredNot b₀ h m i)
      go (inl all) = inl (λ i live. all i (judged i live))
      go (inr none) = inr (λ i live. none i (judged i live))

-- until that tick the sender is busy
pub judged_is_newest : JudgedIsNewest
judged_is_newest plan ok h keeps m two tick =
    newest_while_held two_message_on_bench plan ok h keeps m two tick.earlier tick.last (omega (arith, hold_is plan ok h keeps m two, tick.long))

-- DEMAND 3
pub demand3 : Demand3
demand3 plan ok h keeps m two tick rule2 =
    at_the_tick (start plan) h m tick (demand3_by_counts plan ok h keeps m two (judged_is_newest plan ok h keeps m two tick) rule2)
