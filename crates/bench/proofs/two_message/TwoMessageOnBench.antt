-- The two-message class on the bench: what it fills in, for all settings that are taken.
use Prim.Native.Nat.{ℕ, ◌+◌}
use native.Mathlib.Omega.{arith}
use mathlib.Core.Path.{◌≡◌, refl, ap}
use mathlib.Core.Logic.{◌⊎◌, inl, inr}
use mathlib.Core.Bool.{◌&&◌}
use mathlib.Core.List.{[]}
use lib.Dec.{T, eqb, ltb, eqb→eq}
use Rattle.wire.specs.declared.ids.Stream.{Stream}
use Rattle.wire.specs.declared.settings.Settings.{Settings}
use Rattle.wire.specs.Settings.{legal, PlainNumbers, ImdNumbers, TwoMessageNumbers}
use Rattle.wire.proofs.LegalSettings.{legal_tells}
use Rattle.node.specs.declared.slots.Slot.{Slot}
use Rattle.node.specs.Slots.{is_sender}
use Rattle.node.specs.Tick.{hold_over}
use Rattle.one_stream.proofs.Truth.{is_true}
use Rattle.one_stream.proofs.TwoMEnd.{two_mworks}
use Rattle.one_stream.specs.Sendings as OS
use Rattle.one_stream.specs.TwoM as OM
use Rattle.bench.proofs.message.ClassOnBench.{to_delays, OfClass, ClassOnBench, OnBench}
use Rattle.bench.specs.Bench.{the_confirmation}
use Rattle.bench.proofs.message.ModuleSeen.{good_frame}
use Rattle.bench.proofs.message.RulesSeen.{in_turn_here}
use Rattle.bench.proofs.message.SendingsSeen.{sent_was}
use Rattle.bench.proofs.two_message.SlotSeen.{held_by, held_empty, carries_two, data_becomes, conf_becomes, abort_becomes, given_becomes}
use Rattle.bench.proofs.two_message.SlotSeen.{due_is, tick_becomes, delivers_held}

-- the numbers of settings that are taken fit
pub fits : (s : Stream) (set : Settings) → T (eqb set.class 2) → T (legal s set) → OM.Fit (to_delays set)
fits s set two t = go ((legal_tells s set).says (is_true (legal s set) t)).numbers
  where
    class : set.class ≡ 2
    class = eqb→eq set.class 2 two

    go : (PlainNumbers set ⊎ ImdNumbers set) ⊎ TwoMessageNumbers set → OM.Fit (to_delays set)
    go (inl (inl k)) = let z : ⊥ = omega (arith, class, k.class) in absurd z
    go (inl (inr k)) = let z : ⊥ = omega (arith, class, k.class) in absurd z
    go (inr k) = record { confirm_after_data = k.confirm_delay.0; deliver_after_abort = omega (arith, k.deliver_delay.0) }

pub hold_is : (D : OS.Delays) (x : Slot) → T (is_sender x) → OfClass 2 D x.settings → (age : ℕ)
    → hold_over age x ≡ (x.message.held && ltb (D.rd + D.dd + D.e) age)
unfolding hold_over
hold_is D x sender k age =
    let long : x.settings.rd + x.settings.dd ≡ D.rd + D.dd + D.e =
    omega (arith, ap (λ (d : OS.Delays). d.rd) k.numbers, ap (λ (d : OS.Delays). d.dd) k.numbers, ap (λ (d : OS.Delays). d.e) k.numbers) in
    rw (is_true (is_sender x) sender, long) refl

-- where the numbers fit
unfoldable pub two_message : (D : OS.Delays) → OM.Fit D → ClassOnBench 2 D
two_message D fit =
    record {
      C = OM.two_m D;
      works = two_mworks D fit;
      held = held_by;
      idle = held_empty;
      carries = carries_two;
      good = λ s small p short. good_frame s 2 [] small (omega arith) (omega arith) (λ c. refl);
      on_data = λ now x k p. data_becomes D now x k.kept.message p;
      on_conf = λ now x k. conf_becomes D now x;
      on_code2 = λ now x k p. abort_becomes D now x;
      on_given = λ now x k. given_becomes x;
      on_tick = λ now x k. tick_becomes now x k;
      due = λ now x k. due_is now x k;
      delivers = λ now x k. delivers_held now x k;
      hold = hold_is D;
      ready = λ b s k of t. sent_was k.payload_frame (in_turn_here b s k the_confirmation t);
      done = λ f t. sent_was f t;
      untold = λ now h. refl;
    }

abbrev pub two_message_on_bench : OnBench 2
two_message_on_bench s set two legal = two_message (to_delays set) (fits s set two legal)
