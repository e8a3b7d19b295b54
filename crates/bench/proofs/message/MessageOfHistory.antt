-- A message of a history that keeps the rules: it is followed to its moment, before which no other request of its stream was accepted; and while
-- the sender's hold lasts none is.
use Prim.Native.Nat.{ℕ, ◌≤◌}
use native.Mathlib.Omega.{arith}
use mathlib.Core.Path.{◌≡◌, sym, subst}
use mathlib.Core.Bool.{not}
use mathlib.Core.List.{List, [], ◌∷◌, ◌++◌, append_assoc}
use lib.Dec.{T, eqb}
use Rattle.wire.specs.declared.ids.Stream.{Stream}
use Rattle.one_stream.proofs.Truth.{and_l, and_r, both}
use Rattle.one_stream.specs.Sendings as OS
use Rattle.bench.specs.Bench.{Bench, now}
use Rattle.bench.specs.SetUp.{Plan, proper, start}
use Rattle.bench.specs.Events.{Event, asks, ticks, step}
use Rattle.bench.specs.Rules.{keeps_so_far}
use Rattle.bench.specs.Demands.{tick_count, accepts, none_accepted, MessageIn, at_request, just_asked, at_moment, its_settings, Newest}
use Rattle.bench.proofs.laws.ModuleAfterEvent.{count_is}
use Rattle.bench.proofs.laws.TicksCounted.{count_step}
use Rattle.bench.proofs.message.ClassOnBench.{to_delays, ClassOnBench, OnBench}
use Rattle.bench.proofs.message.SeenAfterOwnEvent.{Valid, valid_step}
use Rattle.bench.proofs.message.MessageKept.{Track}
use Rattle.bench.proofs.message.RequestOpens.{logs_of}
use Rattle.bench.proofs.message.Judgement.{none_while_held, until_next}
use Rattle.bench.proofs.message.AcceptedRequest.{Requested, requested}

-- a tick accepts no request
none_and_tick : (s : Stream) (b : Bench) (h : List Event) → T (none_accepted s b h) → T (none_accepted s b (h ++ (ticks ∷ [])))
none_and_tick s b [] none = tt
none_and_tick s b (e ∷ es) none =
    both (not (accepts s b e)) (none_accepted s (step b e) (es ++ (ticks ∷ []))) (and_l (not (accepts s b e)) (none_accepted s (step b e) es) none)
    (none_and_tick s (step b e) es (and_r (not (accepts s b e)) (none_accepted s (step b e) es) none))

module _ {n : ℕ} (class : OnBench n) (plan : Plan) (ok : T (proper plan)) (h : List Event) (keeps : T (keeps_so_far (start plan) h))
    (m : MessageIn (start plan) h) (of : T (eqb (its_settings (start plan) h m).class n)) where
  abbrev b₁ : Bench
  b₁ = at_request (start plan) h m

  abbrev b₂ : Bench
  b₂ = just_asked (start plan) h m

  pub its_request : Requested class plan m.before (m.since ++ m.rest) m.sender m.stream m.payload
  its_request =
      requested class plan m.before (m.since ++ m.rest) m.sender m.stream m.payload ok
      (subst (λ l. T (keeps_so_far (start plan) l)) m.split keeps) m.accepted of

  -- its stream's delays and class
  abbrev pub its_delays : OS.Delays
  its_delays = to_delays its_request.settings

  abbrev pub its_class : ClassOnBench n its_delays
  its_class = class m.stream its_request.settings its_request.of its_request.lawful

  pub its_numbers : to_delays (its_settings (start plan) h m) ≡ its_delays
  its_numbers = its_request.at_request.sender.1.numbers

  valid₂ : Valid n its_delays m.stream m.sender b₂
  valid₂ = valid_step (asks m.sender m.stream m.payload) its_request.at_request

  -- what is known of it at a moment b
  abbrev pub KnownIn : Bench → Type 0
  KnownIn b = Valid n its_delays m.stream m.sender b × Track its_class m.stream m.sender (now b₁) m.payload (logs_of m.stream b₁) b

  pub followed : Newest (start plan) h m → KnownIn (at_moment (start plan) h m) × T (keeps_so_far (at_moment (start plan) h m) m.rest)
  followed newest =
      let (v, x, k) =
      until_next its_class m.stream m.sender (now b₁) m.payload (logs_of m.stream b₁) b₂ valid₂ its_request.track m.since m.rest
      its_request.keeps_on newest in
      ((v, x), k)

  -- while the hold lasts, and at the tick after
  pub newest_while_held : (earlier : List Event) → m.since ≡ earlier ++ (ticks ∷ []) → tick_count earlier ≤ its_class.C.hold → Newest (start plan) h m
  newest_while_held earlier last held =
      subst (λ since. T (none_accepted m.stream b₂ since)) (sym last)
      (none_and_tick m.stream b₂ earlier
      (none_while_held its_class m.stream m.sender (now b₁) m.payload (logs_of m.stream b₁) b₂ valid₂ its_request.track earlier (ticks ∷ m.rest)
      (subst (λ l. T (keeps_so_far b₂ l)) (append_assoc earlier (ticks ∷ []) m.rest)
      (subst (λ since. T (keeps_so_far b₂ (since ++ m.rest))) last its_request.keeps_on))
      (λ live. omega (arith, held, count_step b₁ (asks m.sender m.stream m.payload) m.sender live, count_is m.sender b₁.modules))))
