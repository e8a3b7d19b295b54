-- The bench in code: what its functions answer and leave, said by what an event does to a module (Events.antt), with counts that
-- roll over. Modules in code keep no log: what an event logs is what the modules say. A place without a module is a module that
-- was never live.
use Rattle.std.specs.Prelude.{ℕ, suc, Bool, true, false, not, cond, ◌&&◌, List, [], ◌∷◌, map, length, replicate, take, get_or, set, eqb, leb, ltb}
use Rattle.wire.specs.declared.ids.Stream.{Stream}
use Rattle.wire.specs.declared.reply.Reply.TheVariants.{Done}
use Rattle.wire.specs.Frames.{max_payload}
use Rattle.wire.specs.Delivered.{over}
use Rattle.node.specs.Told.{silent}
use Rattle.node.specs.Nodes.{Outcome, fresh, no_id}
use Rattle.node.specs.Clock.{rolled}
use Rattle.node.specs.Calls.{Call, request, tick, next_frame}
use Rattle.bench_in_code.specs.declared.outbox.Frame as Kept-frame
use Rattle.bench_in_code.specs.declared.outbox.Frames.{Frames}
use Rattle.bench_in_code.specs.Values as coded
use Rattle.bench_in_code.specs.Values.{Station, Said, Turn, Asked, Told, Sent, Giving, Dead, Nothing, Full, Out, Gave}
use Rattle.bench.specs.Lists.{nth, at, each}
use Rattle.bench.specs.SetUp.{is_done}
use Rattle.bench.specs.Bench.{Frame, never, Module}
use Rattle.bench.specs.Events.{lent, call, with_node, heard, hears_where, ticked}

-- ── a module ──
abbrev pub at_start : (live : Bool) → Station
at_start live = record { node = fresh; live = live }

abbrev pub nobody : Station
nobody = at_start false

-- the module of a history, with its log begun afresh; and back
abbrev pub shown : Station → Module
shown m = record { node = m.node; live = m.live; log = [] }

abbrev pub kept : Module → Station
kept m = record { node = m.node; live = m.live }

-- what a module says: an outcome, with what was written in an output of zeros; nothing, where an event did not reach it
abbrev pub saying : Outcome → Said
saying o = record { heard = true; reply = o.reply; len = length o.bytes; bytes = over o.bytes lent; report = o.report }

abbrev pub silence : Said
silence = record { heard = false; reply = Done; len = 0; bytes = lent; report = silent }

abbrev pub tick_turn : Station → Turn
tick_turn m =
    record {
      after = kept (ticked rolled (shown m));
      said = cond m.live (saying (call rolled (tick lent) (shown m))) silence;
    }

-- ── a frame that was given out ──
abbrev pub no_frame : Kept-frame.Frame
no_frame = record { owner = 0; id = no_id; len = 0; bytes = replicate max_payload 0 }

abbrev pub payload_of : Kept-frame.Frame → List ℕ
payload_of f = take f.len f.bytes

-- the frame of a history
abbrev pub frame_shown : Kept-frame.Frame → Frame
frame_shown f = record { since = []; given = true; id = f.id; payload = payload_of f; sendings = never }

abbrev pub hear_turn : (named own : Bool) → Kept-frame.Frame → Station → Turn
hear_turn named own f m =
    record {
      after = kept (hears_where named own (frame_shown f) (shown m));
      said = cond (m.live && named && not own) (saying (heard (frame_shown f) (shown m))) silence;
    }

-- so many frames are kept
abbrev pub capacity : ℕ
capacity = 1024

abbrev pub no_frames : Frames
no_frames = record { all = replicate capacity no_frame; count = 0 }

abbrev pub frame_in : ℕ → Frames → Kept-frame.Frame
frame_in n fs = nth no_frame n fs.all

abbrev pub with_frame : Kept-frame.Frame → Frames → Frames
with_frame f fs = cond (ltb fs.count capacity) (record { all = set fs.all fs.count f; count = suc fs.count }) fs

-- ── the bench ──
abbrev pub place_count : ℕ
place_count = 8

abbrev pub places : List ℕ
places = 0 ∷ 1 ∷ 2 ∷ 3 ∷ 4 ∷ 5 ∷ 6 ∷ 7 ∷ []

-- so many live modules, at most eight
abbrev pub bench_of : ℕ → coded.Bench
bench_of n = record { modules = map (λ (i : ℕ). at_start (ltb i n)) places }

abbrev pub module_in : ℕ → coded.Bench → Station
module_in i b = nth nobody i b.modules

abbrev pub is_live_in : ℕ → coded.Bench → Bool
is_live_in i b = (module_in i b).live

-- a call on a module's node
abbrev pub call_in : Call → ℕ → coded.Bench → Outcome
call_in c i b = call rolled c (shown (module_in i b))

abbrev pub on_module : (Module → Module) → ℕ → coded.Bench → coded.Bench
on_module change i b = record { modules = at (λ (m : Station). kept (change (shown m))) i b.modules }

abbrev pub after_call : Call → ℕ → coded.Bench → coded.Bench
after_call c i b = on_module (with_node (call_in c i b).node) i b

-- nobody answers, and nothing changes
abbrev pub not_asked : coded.Bench → Asked
not_asked b = record { bench = b; there = false; reply = Done }

-- what a module answers that is there
unfoldable pub asked : (there : Bool) → Call → ℕ → coded.Bench → Asked
asked there c i b = cond there (record { bench = after_call c i b; there = true; reply = (call_in c i b).reply }) (not_asked b)

-- a request, of a module that is live
abbrev pub requested_in : ℕ → Stream → List ℕ → coded.Bench → Asked
requested_in i s p b = asked (is_live_in i b) (request s p) i b

-- an event that may reach every module
abbrev pub turns_of : (ℕ → Station → Turn) → coded.Bench → List Turn
turns_of turn b = each turn 0 b.modules

abbrev pub after_turns : List Turn → coded.Bench
after_turns ts = record { modules = map (λ (t : Turn). t.after) ts }

abbrev pub said_in : List Turn → List Said
said_in ts = map (λ (t : Turn). t.said) ts

unfoldable pub tick_of : coded.Bench → Told
tick_of b =
    let ts = turns_of (λ i m. tick_turn m) b in
    record { bench = after_turns ts; said = said_in ts }

-- a sending reaches the live modules of those named, other than the frame's owner
unfoldable pub sending_of : Kept-frame.Frame → (to : List Bool) → coded.Bench → Sent
sending_of f to b =
    let ts = turns_of (λ i m. hear_turn (get_or to i false) (eqb i f.owner) f m) b in
    cond (is_live_in f.owner b) (record { bench = after_turns ts; sent = true; said = said_in ts })
    (record { bench = b; sent = false; said = replicate place_count silence })

-- giving out: a module's next frame, with its payload in an output of zeros
abbrev pub next : Call
next = next_frame (replicate max_payload 0)

abbrev pub given_by : ℕ → Outcome → Kept-frame.Frame
given_by i o = record { owner = i; id = o.id; len = length o.bytes; bytes = over o.bytes (replicate max_payload 0) }

abbrev pub not_given : Giving → Frames → coded.Bench → Gave
not_given why fs b = record { bench = b; frames = fs; giving = why; frame = no_frame }

unfoldable pub giving_of : ℕ → Frames → coded.Bench → Gave
giving_of i fs b =
    let o = call_in next i b in
    cond (not (is_live_in i b)) (not_given Dead fs b)
    (cond (not (is_done o.reply)) (not_given Nothing fs b)
    (cond (leb capacity fs.count) (not_given Full fs b)
    (record { bench = after_call next i b; frames = with_frame (given_by i o) fs; giving = Out; frame = given_by i o })))
