-- The test of the settings is true exactly where the rules paper's limits hold; moment 1.
use mathlib.Core.Path.{◌≡◌, refl}
use mathlib.Core.Bool.{true, false, ◌&&◌}
use mathlib.Core.Logic.{◌⊎◌, inl, inr}
use Prim.Native.Nat.{ℕ, zero, suc, ◌+◌, ◌≤◌}
use native.Mathlib.Omega.{arith}
use Rattle.wire.specs.declared.ids.Stream.{Stream}
use Rattle.wire.specs.declared.settings.Settings.{Settings}
use Rattle.wire.specs.Identifiers.{max_stream}
use Rattle.wire.specs.Tells.{Tells, at_most, equal, in_words, ◌and◌, ◌or◌}
use Rattle.wire.specs.Settings.{max_data_reach, max_confirm_delay, max_abort_reach, max_deliver_delay, of_two_message, legal}
use Rattle.wire.specs.Settings.{is_plain, is_imd, is_two_message, plain, imd, two_message}
use Rattle.wire.specs.Settings.{PlainNumbers, ImdNumbers, TwoMessageNumbers, Legal}

receives_or_sends : (role : ℕ) → role ≤ 1 → (role ≡ 0) ⊎ (role ≡ 1)
receives_or_sends zero h = inl refl
receives_or_sends (suc zero) h = inr refl
receives_or_sends (suc (suc role)) h = absurd (omega arith)

at_most_one : (role : ℕ) → (role ≡ 0) ⊎ (role ≡ 1) → role ≤ 1
at_most_one role (inl e) = omega arith
at_most_one role (inr e) = omega arith

tells_plain : (s : Settings) → Tells (is_plain s && plain s.rd s.dc s.ra s.dd) (PlainNumbers s)
tells_plain s =
    in_words
    (λ (k, (((rd, dc), ra), dd)). record { class = k; data_reach = rd; confirm_delay = dc; abort_reach = ra; deliver_delay = dd })
    (λ h. (h.class, (((h.data_reach, h.confirm_delay), h.abort_reach), h.deliver_delay)))
    (equal s.class 0 and (equal s.rd 0 and equal s.dc 0 and equal s.ra 0 and equal s.dd 0))

tells_imd : (s : Settings) → Tells (is_imd s && imd s.rd s.dc s.ra s.dd) (ImdNumbers s)
tells_imd s =
    in_words
    (λ (k, ((((rd, dc), ra), dd), top)). record { class = k; data_reach = rd; confirm_delay = dc; abort_reach = ra; deliver_delay = (dd, top) })
    (λ h. (h.class, ((((h.data_reach, h.confirm_delay), h.abort_reach), h.deliver_delay.0), h.deliver_delay.1)))
    (equal s.class 1 and
    (at_most 1 s.rd and at_most s.rd max_data_reach and equal s.dc 0 and equal s.ra 0
    and at_most s.rd s.dd and at_most s.dd max_deliver_delay))

tells_two_message : (s : Settings) → Tells (is_two_message s && two_message s.rd s.dc s.ra s.dd) (TwoMessageNumbers s)
tells_two_message s =
    in_words
    (λ (k, ((((((rd, dc), dc_top), ra), ra_top), dd), dd_top)). record {
      class = k;
      data_reach = rd;
      confirm_delay = (dc, dc_top);
      abort_reach = (ra, ra_top);
      deliver_delay = (dd, dd_top);
    })
    (λ h.
    let (dc, dc_top) = h.confirm_delay in
    let (ra, ra_top) = h.abort_reach in
    let (dd, dd_top) = h.deliver_delay in
    (h.class, ((((((h.data_reach, dc), dc_top), ra), ra_top), dd), dd_top)))
    (equal s.class 2 and
    (at_most 1 s.rd and at_most s.rd max_data_reach and at_most s.rd s.dc and at_most s.dc max_confirm_delay
    and at_most 1 s.ra and at_most s.ra max_abort_reach
    and at_most (s.dc + s.ra + 1) s.dd and at_most s.dd max_deliver_delay))

pub legal_tells : (x : Stream) (s : Settings) → Tells (legal x s) (Legal x s)
unfolding legal
legal_tells x s =
    in_words
    (λ ((stream, role), numbers). record { stream = stream; role = receives_or_sends s.role role; numbers = numbers })
    (λ h. ((h.stream, at_most_one s.role h.role), h.numbers))
    (at_most x.0 max_stream and at_most s.role 1 and (tells_plain s or tells_imd s or tells_two_message s))

-- the rules paper's worked stream: 5, 2M, Rd 2, dc 3, Ra 2
abbrev pub worked : (role dd : ℕ) → Settings
worked role dd = of_two_message role 2 3 2 dd

-- moment 1, for a receiver and for the sender: dd 6 is taken, dd 5 is not
pub moment_1_taken : (legal (record { 0 = 5 }) (worked 0 6) ≡ true) × (legal (record { 0 = 5 }) (worked 1 6) ≡ true)
unfolding legal
moment_1_taken = (refl, refl)

pub moment_1_refused : (legal (record { 0 = 5 }) (worked 0 5) ≡ false) × (legal (record { 0 = 5 }) (worked 1 5) ≡ false)
unfolding legal
moment_1_refused = (refl, refl)
