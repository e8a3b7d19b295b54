-- Moment 10 of the rules paper, its request at 10, in both forms: the histories, and that each keeps the bench rules and shows what the paper says.
use Rattle.std.specs.Prelude.{ℕ, zero, suc, ◌≡◌, true, List, [], ◌∷◌, ◌++◌, map}
use Rattle.wire.specs.declared.ids.Stream.{Stream}
use Rattle.wire.specs.Settings.{of_two_message}
use Rattle.bench.specs.Bench.{Delivery, Module, Bench, the_payload, the_confirmation, the_abort}
use Rattle.bench.specs.SetUp.{Entry, Plan, proper, start}
use Rattle.bench.specs.Events.{Event, asks, gives, sends, ticks, dies, all, only, run}
use Rattle.bench.specs.Rules.{keeps}

-- ── stream 5, and three modules: its sender 0, and the receivers A and B, which are 1 and 2 ──
abbrev pub five : Stream
five = record { 0 = 5 }

-- 2M: data reach, confirm delay, abort reach, deliver delay
abbrev pub two_m : Stream → (rd dc ra dd role : ℕ) → Entry
two_m s rd dc ra dd role = record { stream = s; settings = of_two_message role rd dc ra dd }

abbrev pub three : Plan
three = (two_m five 2 3 2 6 1 ∷ []) ∷ (two_m five 2 3 2 6 0 ∷ []) ∷ (two_m five 2 3 2 6 0 ∷ []) ∷ []

abbrev pub message : List ℕ
message = 10 ∷ 11 ∷ []

abbrev pub wait : ℕ → List Event
wait zero = []
wait (suc n) = ticks ∷ wait n

-- ── what a history shows ──
abbrev pub got : ℕ → Stream → List ℕ → Delivery
got t s payload = record { at = t; stream = s; payload = payload }

-- the log of each module, in order
abbrev pub logs : Bench → List (List Delivery)
logs b = map (λ (m : Module). m.log) b.modules

-- on a proper plan the history keeps the rules, and this is what the modules deliver
pub record Shows (plan : Plan) (h : List Event) (delivered : List (List Delivery)) : Type 0 where
  pub set_up : proper plan ≡ true
  pub keeps_rules : keeps (start plan) h ≡ true
  pub delivers : logs (run (start plan) h) ≡ delivered

-- its data is full at 10; the confirmation is given out at 12
abbrev pub since_request : List Event
since_request = (gives 0 five 0 ∷ sends five 0 the_payload all ∷ []) ++ wait 2 ++ (gives 0 five 1 ∷ [])

abbrev pub asked : List Event → List Event
asked since = wait 10 ++ (asks 0 five message ∷ since)

-- ── the confirmation is short at 12, heard by A only, and the sender dies ──
-- B drops at 14; its abort is full at 16; A drops
abbrev pub short_since : List Event
short_since =
    since_request ++ (sends five 0 the_confirmation (only (1 ∷ [])) ∷ dies 0 ∷ [])
    ++ wait 2 ++ (gives 2 five 2 ∷ []) ++ wait 2 ++ (sends five 0 (the_abort 2 0) all ∷ []) ++ wait 2

abbrev pub short_confirmation : List Event
short_confirmation = asked (short_since ++ wait 1)

-- ── the confirmation is full at 12 ──
abbrev pub full_since : List Event
full_since = since_request ++ (sends five 0 the_confirmation all ∷ []) ++ wait 6

abbrev pub full_confirmation : List Event
full_confirmation = asked (full_since ++ wait 1)

-- MOMENT 10: nobody delivers; with the full confirmation A and B deliver at 17
pub record MomentTen : Type 0 where
  pub short : Shows three short_confirmation ([] ∷ [] ∷ [] ∷ [])
  pub full : Shows three full_confirmation ([] ∷ (got 17 five message ∷ []) ∷ (got 17 five message ∷ []) ∷ [])
