-- Histories of the rules run in code: what the bench in code is told, sendings by the number of a frame that it keeps, what it answers
-- and leaves, and the statements that every history that keeps the rules has such a run, and that every such run goes in step.
use Rattle.std.specs.Prelude.{ℕ, ◌+◌, ◌≤◌, ◌≡◌, Bool, true, false, not, cond, ◌&&◌, List, [], ◌∷◌, ◌++◌, map, length, replicate, T, eqb, ltb}
use Rattle.wire.specs.declared.ids.Stream.{Stream}
use Rattle.wire.specs.declared.ids.BusId.{BusId}
use Rattle.wire.specs.declared.reply.Reply.{Reply}
use Rattle.wire.specs.Delivered.{over}
use Rattle.node.specs.Nodes.{Outcome}
use Rattle.node.specs.Clock.{unbounded}
use Rattle.node.specs.Calls as calls
use Rattle.bench_in_code.specs.declared.outbox.Frame as Kept-frame
use Rattle.bench_in_code.specs.declared.outbox.Frames.{Frames}
use Rattle.bench_in_code.specs.Values as coded
use Rattle.bench_in_code.specs.Values.{Said, Asked, Sent, Giving, Dead, Nothing, Full, Out, Gave}
use Rattle.bench.specs.Lists.{at, every}
use Rattle.bench.specs.Bench.{Bench, Delivery, records_of, Which, module_at, is_live, book_of, frame_of, owner_of}
use Rattle.bench.specs.SetUp.{Entry, Part, Plan, is_done, proper, start}
use Rattle.bench.specs.Events as rules
use Rattle.bench.specs.Events.{To, named, Event, asks, gives, sends, ticks, dies, step, run, lent, call, dead, heard, at_once, deliveries, next}
use Rattle.bench.specs.Rules.{one, keeps_so_far}
use Rattle.bench_in_code.specs.InCode.{silence, payload_of, capacity, no_frames, frame_in, place_count, places, bench_of, on_module, asked, requested_in}
use Rattle.bench_in_code.specs.InCode.{tick_of, sending_of, giving_of}
use Rattle.bench_in_code.specs.InStep.{InStep, KeptAs, Names}

-- ── what the bench in code is told ──
-- the bench, and the frames that it gave out
pub record Coded : Type 0 where
  pub bench : coded.Bench
  pub outbox : Frames

-- a sending names a frame by its number, and place by place whom it is to
pub data Command : Type 0 where
  request : (who : ℕ) (stream : Stream) (payload : List ℕ) → Command
  give : (who : ℕ) → Command
  send : (number : ℕ) (to : List Bool) → Command
  tick : Command
  death : (who : ℕ) → Command

-- ── what its functions answer to that, and leave ──
abbrev pub request_of : ℕ → Stream → List ℕ → Coded → Asked
request_of i z p x = requested_in i z p x.bench

abbrev pub give_of : ℕ → Coded → Gave
give_of i x = giving_of i x.outbox x.bench

abbrev pub send_of : (number : ℕ) → List Bool → Coded → Sent
send_of n to x = sending_of (frame_in n x.outbox) to x.bench

abbrev pub with_bench : coded.Bench → Coded → Coded
with_bench k x = record { bench = k; outbox = x.outbox }

abbrev pub after : Command → Coded → Coded
after (request i z p) x = with_bench (request_of i z p x).bench x
after (give i) x = record { bench = (give_of i x).bench; outbox = (give_of i x).frames }
after (send n to) x = with_bench (send_of n to x).bench x
after tick x = with_bench (tick_of x.bench).bench x
after (death i) x = with_bench (on_module dead i x.bench) x

-- a reply, the frame that is given out, or what each place says. Nothing, where the module is not live, where it has no frame to give
-- out or there is no room for it, and at a death.
pub data Answer : Type 0 where
  replied : Reply → Answer
  gave : BusId → (payload : List ℕ) → Answer
  said : List Said → Answer
  nothing : Answer

abbrev pub gave_as : Giving → Kept-frame.Frame → Answer
gave_as Dead f = nothing
gave_as Nothing f = nothing
gave_as Full f = nothing
gave_as Out f = gave f.id (payload_of f)

abbrev pub answer : Command → Coded → Answer
answer (request i z p) x = cond (request_of i z p x).there (replied (request_of i z p x).reply) nothing
answer (give i) x = gave_as (give_of i x).giving (give_of i x).frame
answer (send n to) x = cond (send_of n to x).sent (said (send_of n to x).said) nothing
answer tick x = said (tick_of x.bench).said
answer (death i) x = nothing

-- ── what the rules answer ──
-- a module replies and tells what the call's outcome says, and writes the records of these deliveries, one after the other
abbrev pub says : Outcome → List Delivery → Said
says o ds = record { heard = true; reply = o.reply; len = length (records_of ds); bytes = over (records_of ds) lent; report = o.report }

-- a live module that is named and does not own the frame says what it logs at once; a live module, what its tick logs
abbrev pub ruled : Bench → Event → Answer
ruled b (asks i z p) = replied (rules.asked i z p b).reply
ruled b (gives i z c) = gave (next i b).id (next i b).bytes
ruled b (sends z message w to) =
    let f = frame_of w (book_of z message b) in
    said (map (λ i. cond (is_live i b && named to i && not (eqb i (owner_of w (book_of z message b))))
    (says (heard f (module_at i b)) (at_once f (module_at i b))) silence) places)
ruled b ticks =
    said (map (λ i. cond (is_live i b)
    (says (call unbounded (calls.tick lent) (module_at i b)) (deliveries unbounded (module_at i b).node)) silence) places)
ruled b (dies i) = nothing

-- ── runs ──
-- the command does what the event says; a sending names the number of a frame that is kept, and it is the frame of the event's book
pub data Does (b : Bench) (x : Coded) : Event → Command → Type 0 where
  asking : (i : ℕ) (z : Stream) (p : List ℕ) → Does b x (asks i z p) (request i z p)
  giving : (i : ℕ) (z : Stream) (c : ℕ) → Does b x (gives i z c) (give i)
  sending : (z : Stream) (message : ℕ) (w : Which) (to : To) (n : ℕ) (here : List Bool)
      → KeptAs n x.outbox (owner_of w (book_of z message b)) (frame_of w (book_of z message b)) → Names to here
      → Does b x (sends z message w to) (send n here)
  ticking : Does b x ticks tick
  dying : (i : ℕ) → Does b x (dies i) (death i)

-- a history is run by these commands, one for each event
pub data Runs : Bench → Coded → List Event → List Command → Type 0 where
  no_more : {b : Bench} {x : Coded} → Runs b x [] []
  then : {b : Bench} {x : Coded} {e : Event} {h : List Event} {c : Command} {cs : List Command}
      → Does b x e c → Runs (step b e) (after c x) h cs → Runs b x (e ∷ h) (c ∷ cs)

-- ── how code and rules agree ──
abbrev pub answers : Coded → List Command → List Answer
answers x [] = []
answers x (c ∷ cs) = answer c x ∷ answers (after c x) cs

abbrev pub after_all : Coded → List Command → Coded
after_all x [] = x
after_all x (c ∷ cs) = after_all (after c x) cs

abbrev pub ruled_all : Bench → List Event → List Answer
ruled_all b [] = []
ruled_all b (e ∷ es) = ruled b e ∷ ruled_all (step b e) es

-- every frame that a book holds as given out is kept, with its owner
abbrev pub AllKept : Bench → Frames → Type 0
AllKept b fs =
    (z : Stream) (message : ℕ) (w : Which) → T (frame_of w (book_of z message b)).given
    → (n : ℕ) × KeptAs n fs (owner_of w (book_of z message b)) (frame_of w (book_of z message b))

-- The answers are those of the rules; and in the end the two are in step, and what was given out is kept. A run up to any event is a
-- run too, so this holds at every event.
pub record Agrees (b : Bench) (x : Coded) (h : List Event) (cs : List Command) : Type 0 where
  pub same_answers : answers x cs ≡ ruled_all b h
  pub in_step : InStep (run b h) (after_all x cs).bench
  pub all_kept : AllKept (run b h) (after_all x cs).outbox

-- ── setting up ──
-- set ups, each of one module, in any order; and the plan that they make
abbrev pub SetUps : Type 0
SetUps = List (ℕ × Entry)

abbrev pub with_entry : ℕ → Entry → Plan → Plan
with_entry i e plan = at (λ (part : Part). part ++ (e ∷ [])) i plan

abbrev pub plan_of : SetUps → Plan → Plan
plan_of [] plan = plan
plan_of (x ∷ xs) plan = plan_of xs (with_entry x.0 x.1 plan)

-- they set up this plan, each at a module that is there
pub record SetsUp (xs : SetUps) (plan : Plan) : Type 0 where
  pub there : T (every (λ (x : ℕ × Entry). ltb x.0 (length plan)) xs)
  pub makes : plan_of xs (replicate (length plan) []) ≡ plan

-- what the code answers to them, and leaves
abbrev pub set_up_of : ℕ × Entry → coded.Bench → Asked
set_up_of x k = asked (ltb x.0 place_count) (calls.set_up x.1.stream x.1.settings) x.0 k

abbrev pub set_up_replies : SetUps → coded.Bench → List Reply
set_up_replies [] k = []
set_up_replies (x ∷ xs) k = (set_up_of x k).reply ∷ set_up_replies xs (set_up_of x k).bench

abbrev pub after_set_ups : SetUps → coded.Bench → coded.Bench
after_set_ups [] k = k
after_set_ups (x ∷ xs) k = after_set_ups xs (set_up_of x k).bench

-- from so many fresh modules, with no frame given out
abbrev pub ready : ℕ → SetUps → Coded
ready n xs = record { bench = after_set_ups xs (bench_of n); outbox = no_frames }

-- ── the statements ──
-- there are set ups for every plan
abbrev pub EveryPlanIsSetUp : Type 0
EveryPlanIsSetUp = (plan : Plan) → (xs : SetUps) × SetsUp xs plan

-- where the plan is proper, the code accepts each of them
abbrev pub EverySetUpIsDone : Type 0
EverySetUpIsDone = (plan : Plan) (xs : SetUps) → T (proper plan) → SetsUp xs plan → T (every is_done (set_up_replies xs (bench_of (length plan))))

abbrev pub gives_out : Event → Bool
gives_out (asks i z p) = false
gives_out (gives i z c) = true
gives_out (sends z message w to) = false
gives_out ticks = false
gives_out (dies i) = false

abbrev pub give_outs : List Event → ℕ
give_outs [] = 0
give_outs (e ∷ es) = one (gives_out e) + give_outs es

-- a proper plan that was set up so, and a history that keeps the rules and gives out no more frames than are kept
pub record Allowed (plan : Plan) (xs : SetUps) (h : List Event) : Type 0 where
  pub is_proper : T (proper plan)
  pub set_up : SetsUp xs plan
  pub keeps_rules : T (keeps_so_far (start plan) h)
  pub enough_room : give_outs h ≤ capacity

-- EVERY HISTORY RUNS: by sendings of frames that are kept, named by number
abbrev pub EveryHistoryRuns : Type 0
EveryHistoryRuns =
    (plan : Plan) (xs : SetUps) (h : List Event) → Allowed plan xs h → (cs : List Command) × Runs (start plan) (ready (length plan) xs) h cs

-- EVERY RUN AGREES with the rules, whichever numbers of the frame it names
abbrev pub EveryRunAgrees : Type 0
EveryRunAgrees =
    (plan : Plan) (xs : SetUps) (h : List Event) → Allowed plan xs h
    → (cs : List Command) → Runs (start plan) (ready (length plan) xs) h cs → Agrees (start plan) (ready (length plan) xs) h cs
