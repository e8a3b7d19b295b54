-- Two omissions of one message that can no longer be mended: they stay, and bench rule 2 denies them.
use Prim.Native.Nat.{ℕ, ◌+◌, ◌<◌}
use native.Mathlib.Omega.{arith}
use mathlib.Core.Logic.{◌⊎◌, inl, inr}
use mathlib.Core.Bool.{Bool}
use mathlib.Core.List.{List}
use Rattle.one_stream.specs.Sendings.{Moment, Delays, Some, Omitted, first}
use Rattle.one_stream.proofs.Sendings.{move_later, some_resend, omitted_some}
use Rattle.one_stream.specs.Frames.{Frame, Any}
use Rattle.one_stream.proofs.Frames.{Stable, any_map, any_at}
use Rattle.one_stream.specs.Classes.{Class, State, Event, send_data, send_conf, send_code2, give, tick, die, step, Legal}
use Rattle.one_stream.proofs.Events.{full_of, time_passes, any_step}
use Rattle.one_stream.proofs.Histories.{Short, OneOmission}

-- a frame whose last sending was short and whose reach is over
pub record Lost (S : Delays) (now : Moment) (f : Frame) : Type 0 where
  pub short : Omitted f.sendings
  pub at : ℕ
  pub over : f.since at + S.ra < now at

abbrev pub AnyLost : Delays → Moment → List Frame → Type 0
AnyLost S now = Any (Lost S now)

lost_stable : (S : Delays) (now : Moment) (full : Bool) → Stable S now full (Lost S now)
lost_stable S now full =
    record {
      given = λ f x. record { short = x.short; at = x.at; over = x.over };
      again = λ f m x. let j = x.at in let z : ⊥ = omega (arith, x.over, m.reach j) in absurd z;
    }

module _ (S : Delays) (C : Class) where
  -- the data will not be sent again
  abbrev pub DataOver : State C → Type 0
  DataOver w = Some w.conf_sent ⊎ ((j : ℕ) × (w.requested j + S.rd < w.now j))

  -- the confirmation's reach is over
  abbrev pub ConfOver : State C → ℕ → Type 0
  ConfOver w i = first w.data_sent i + S.dc < w.now i

  pub data Twice (w : State C) : Type 0 where
    data_conf : Omitted w.data_sent → Omitted w.conf_sent → (i : ℕ) → ConfOver w i → Twice w
    data_code2 : Omitted w.data_sent → DataOver w → (q : ℕ) → AnyLost S w.now (w.receiver q).frames → Twice w
    conf_code2 : Omitted w.conf_sent → (i : ℕ) → ConfOver w i → (q : ℕ) → AnyLost S w.now (w.receiver q).frames → Twice w

  lost_stays : (w : State C) (e : Event) → Legal C S w e → (q : ℕ)
      → AnyLost S w.now (w.receiver q).frames → AnyLost S (step C w e).now ((step C w e).receiver q).frames
  lost_stays w e l q x =
      any_map (Lost S w.now) (Lost S (step C w e).now) ((step C w e).receiver q).frames
      (λ f y. record { short = y.short; at = y.at; over = omega (arith, y.over, time_passes S C w e y.at) })
      (any_step S C w e l q (Lost S w.now) (lost_stable S w.now (full_of e)) x)

  conf_stays : (w : State C) (e : Event) → Legal C S w e → (i : ℕ) → Some w.conf_sent → ConfOver w i
      → (Omitted w.conf_sent → Omitted (step C w e).conf_sent) × ConfOver (step C w e) i
  unfolding step Legal
  conf_stays w (send_data hears full) l i c o = absurd (l.3 c)
  conf_stays w (send_conf hears full) l i c o = let z : ⊥ = omega (arith, o, l.3 i) in absurd z
  conf_stays w (send_code2 q k hears full) l i c o = (λ x. x, o)
  conf_stays w (give q) l i c o = (λ x. x, o)
  conf_stays w (tick reached) l i c o = (λ x. x, omega (arith, o, move_later reached w.now i))
  conf_stays w (die q) l i c o = (λ x. x, o)

  data_stays : (w : State C) (e : Event) → Legal C S w e → DataOver w
      → (Omitted w.data_sent → Omitted (step C w e).data_sent) × DataOver (step C w e)
  unfolding step Legal
  data_stays w (send_data hears full) l (inl c) = absurd (l.3 c)
  data_stays w (send_data hears full) l (inr (j, o)) = let z : ⊥ = omega (arith, o, l.2 j) in absurd z
  data_stays w (send_conf hears full) l (inl c) = (λ x. x, inl (some_resend w.now full w.conf_sent))
  data_stays w (send_conf hears full) l (inr o) = (λ x. x, inr o)
  data_stays w (send_code2 q k hears full) l o = (λ x. x, o)
  data_stays w (give q) l o = (λ x. x, o)
  data_stays w (tick reached) l (inl c) = (λ x. x, inl c)
  data_stays w (tick reached) l (inr (j, o)) = (λ x. x, inr (j, omega (arith, o, move_later reached w.now j)))
  data_stays w (die q) l o = (λ x. x, o)

  pub twice_stays : (w : State C) (e : Event) → Legal C S w e → Twice w → Twice (step C w e)
  twice_stays w e l (data_conf d c i o) =
      let x = conf_stays w e l i (omitted_some w.conf_sent c) o in
      let y = data_stays w e l (inl (omitted_some w.conf_sent c)) in
      data_conf (y.0 d) (x.0 c) i x.1
  twice_stays w e l (data_code2 d c q x) =
      let y = data_stays w e l c in
      data_code2 (y.0 d) y.1 q (lost_stays w e l q x)
  twice_stays w e l (conf_code2 c i o q x) =
      let y = conf_stays w e l i (omitted_some w.conf_sent c) o in
      conf_code2 (y.0 c) i y.1 q (lost_stays w e l q x)

  -- rule 2 against two lost frames
  pub not_twice : (w : State C) → OneOmission C w → Twice w → ⊥
  not_twice w o (data_conf d c i x) = o.data_conf d c
  not_twice w o (data_code2 d c q x) =
      let y = any_at (Lost S w.now) Short (w.receiver q).frames (λ f z. z.short) x in
      o.data_code2 q y.0 d y.1
  not_twice w o (conf_code2 c i z q x) =
      let y = any_at (Lost S w.now) Short (w.receiver q).frames (λ f z. z.short) x in
      o.conf_code2 q y.0 c y.1
