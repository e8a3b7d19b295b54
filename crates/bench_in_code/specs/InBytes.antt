-- The bench in bytes: which bench its modules are, whatever bytes they are, and how its functions answer what the bench in code does.
use Rattle.std.specs.Prelude.{ℕ, ◌≡◌, Bool, false, cond, ◌&&◌, List, map, replicate, Option, Some, None, Result, ltb}
use Rattle.wire.specs.declared.reply.Reply.{Reply}
use Rattle.wire.specs.Answers.{answered}
use Rattle.node.specs.declared.Heard.{Heard}
use Rattle.node.specs.declared.Ticked.{Ticked}
use Rattle.node.specs.Nodes.{Outcome}
use Rattle.node.specs.Clock.{rolled}
use Rattle.node.specs.Calls.{Call, outcome}
use Rattle.node_bytes.specs.Layout.{node_size}
use Rattle.node_bytes.specs.Decoding.{decode}
use Rattle.bench_in_code.specs.declared.stations.Module.{Module}
use Rattle.bench_in_code.specs.declared.Bench as held
use Rattle.bench_in_code.specs.declared.Given.{Given}
use Rattle.bench_in_code.specs.declared.Given.TheVariants as given
use Rattle.bench_in_code.specs.declared.outbox.Frame.{Frame}
use Rattle.bench_in_code.specs.declared.outbox.Frames.{Frames}
use Rattle.bench_in_code.specs.Values.{Station, Said, Bench, Asked, Sent, Giving, Dead, Nothing, Full, Out, Gave}
use Rattle.bench_in_code.specs.InCode.{places, capacity, frame_in}

abbrev pub station_in : Module → Station
station_in m = record { node = decode m.node; live = m.live }

abbrev pub bench_in : held.Bench → Bench
bench_in b = record { modules = map station_in b.modules }

-- before any call
abbrev pub fresh_module : (live : Bool) → Module
fresh_module live = record { node = replicate node_size 0; live = live }

-- so many are live
abbrev pub fresh_bench : ℕ → held.Bench
fresh_bench n = record { modules = map (λ (i : ℕ). fresh_module (ltb i n)) places }

-- a module's death leaves its bytes
abbrev pub died : Module → Module
died m = record { node = m.node; live = false }

-- a call on its node, and the module after it
abbrev pub outcome_in : Call → Module → Outcome
outcome_in c m = outcome rolled c (decode m.node)

abbrev pub left_by : Call → Module → Station
left_by c m = record { node = (outcome_in c m).node; live = m.live }

-- ── answers ──
-- what a module said to a frame, and to a tick, but for its bytes, which are its output's
abbrev pub hearing_of : Said → Option (Result Heard Reply)
hearing_of s = cond s.heard (Some (answered s.reply (record { written = s.len; told = s.report.frame }))) None

abbrev pub ticking_of : Said → Option (Result Ticked Reply)
ticking_of s =
    cond s.heard (Some (answered s.reply (record { written = s.len; dropped = s.report.dropped; delivered = s.report.delivered }))) None

abbrev pub ticked_in : List Said → List (Option (Result Ticked Reply))
ticked_in said = map ticking_of said

abbrev pub outputs_in : List Said → List (List ℕ)
outputs_in said = map (λ (s : Said). s.bytes) said

-- and the others, but for the bench
abbrev pub answer_of : Asked → Option (Result (Unit {0}) Reply)
answer_of a = cond a.there (Some (answered a.reply tt)) None

abbrev pub sent_of : Sent → Option (List (Option (Result Heard Reply)))
sent_of s = cond s.sent (Some (map hearing_of s.said)) None

abbrev pub giving_as : Giving → Frame → Given
giving_as Dead f = given.Dead
giving_as Nothing f = given.Nothing
giving_as Full f = given.Full
giving_as Out f = given.Out f

abbrev pub given_of : Gave → Given
given_of g = giving_as g.giving g.frame

-- the nth of the frames given out
abbrev pub frame_at : ℕ → Frames → Option Frame
frame_at n fs = cond (ltb n fs.count && ltb n capacity) (Some (frame_in n fs)) None

-- ── promises that fix the bench and the outputs ──
-- for every input any two benches in bytes that meet a promise are the same bench, and any two contents of the lent outputs are equal
module _ {L : Type 0} {I A E : L → Type 0} (promise : (l : L) → I l → A l → E l → Type 0) where
  abbrev pub OneBench : ((l : L) → E l → held.Bench) → Type 0
  OneBench left =
      (l : L) (input : I l) (a b : A l) (s t : E l) → promise l input a s → promise l input b t → bench_in (left l s) ≡ bench_in (left l t)

  abbrev pub OneOutputs : ((l : L) → E l → List (List ℕ)) → Type 0
  OneOutputs outs = (l : L) (input : I l) (a b : A l) (s t : E l) → promise l input a s → promise l input b t → outs l s ≡ outs l t

  -- and what is read of what it answers, or of whatever else it leaves
  abbrev pub OneRead : {C : Type 0} → ((l : L) → A l → C) → Type 0
  OneRead reads = (l : L) (input : I l) (a b : A l) (s t : E l) → promise l input a s → promise l input b t → reads l a ≡ reads l b

  abbrev pub OneLeft : {C : Type 0} → ((l : L) → E l → C) → Type 0
  OneLeft left = (l : L) (input : I l) (a b : A l) (s t : E l) → promise l input a s → promise l input b t → left l s ≡ left l t
