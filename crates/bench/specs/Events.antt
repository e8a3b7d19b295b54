-- One event of a history, and what it makes of a bench. Every node call is crate node's; lent outputs are long enough. What an event
-- does to a module is said for either clock, and the bench of the rules goes by the unbounded one. An event is meant where the bench
-- rules allow it (Rules.antt).
use Rattle.std.specs.Prelude.{ℕ, Bool, true, false, not, cond, ◌&&◌, List, [], ◌∷◌, map, length, replicate, eqb}
use Rattle.wire.specs.declared.ids.Stream.{Stream}
use Rattle.wire.specs.Identifiers.{stream_of, code_of}
use Rattle.node.specs.declared.slots.Slot.{Slot}
use Rattle.node.specs.declared.Node.{Node}
use Rattle.node.specs.Slots.{payload_of}
use Rattle.node.specs.Nodes.{Outcome, slot_of}
use Rattle.node.specs.Clock.{Clock, unbounded}
use Rattle.node.specs.Tick.{tick_room, due_slots}
use Rattle.node.specs.Calls.{Call, hear, tick, request, next_frame, outcome}
use Rattle.bench.specs.Lists.{at, each, member}
use Rattle.bench.specs.SetUp.{is_done}
use Rattle.bench.specs.Bench.{Moment, Sendings, never, sent, Frame, pending_since, Book, Ledger, Delivery, Module, Bench, same_stream, module_at}
use Rattle.bench.specs.Bench.{is_live, counts, now, book_of, Which, the_payload, the_confirmation, the_abort, frame_of, owner_of}

-- a full sending is heard by every other live module; a short one only by those named (of them the live ones other than the sender)
pub data To : Type 0 where
  all : To
  only : (who : List ℕ) → To

pub data Event : Type 0 where
  asks : (who : ℕ) (stream : Stream) (payload : List ℕ) → Event
  gives : (who : ℕ) (stream : Stream) (code : ℕ) → Event
  sends : (stream : Stream) (message : ℕ) (which : Which) (to : To) → Event
  ticks : Event
  dies : (who : ℕ) → Event

abbrev pub named : To → ℕ → Bool
named all i = true
named (only l) i = member i l

abbrev pub is_full : To → Bool
is_full all = true
is_full (only l) = false

-- ── a node's calls ──
abbrev pub lent : List ℕ
lent = replicate tick_room 0

abbrev pub call : Clock → Call → Module → Outcome
call clock c m = outcome clock c m.node

abbrev pub with_node : Node → Module → Module
with_node n m = record { node = n; live = m.live; log = m.log }

-- ── books ──
abbrev pub on_books : Stream → (List Book → List Book) → List Ledger → List Ledger
on_books s change ls =
    map (λ (l : Ledger). cond (same_stream l.stream s) (record { stream = l.stream; books = change l.books }) l) ls

abbrev pub on_newest : (Book → Book) → List Book → List Book
on_newest change ks = at change 0 ks

abbrev pub on_frame : Which → (Frame → Frame) → Book → Book
on_frame the_payload change k =
    record { sender = k.sender; payload_frame = change k.payload_frame; confirmation = k.confirmation; aborts = k.aborts }
on_frame the_confirmation change k =
    record { sender = k.sender; payload_frame = k.payload_frame; confirmation = change k.confirmation; aborts = k.aborts }
on_frame (the_abort owner place) change k =
    record { sender = k.sender; payload_frame = k.payload_frame; confirmation = k.confirmation; aborts = at (at change place) owner k.aborts }

-- ── aborts that became pending ──
-- A pending abort is one frame, however often it was caused, so a new frame is one that is pending now and was not before.
abbrev pub became_pending : Stream → Module → Module → Bool
became_pending s before after = (slot_of s after.node).pending.abort && not (slot_of s before.node).pending.abort

abbrev pub enter : Moment → Stream → (before after : List Module) → List (List Frame) → List (List Frame)
enter t s [] after rows = rows
enter t s (m ∷ before) [] rows = rows
enter t s (m ∷ before) (m' ∷ after) [] = []
enter t s (m ∷ before) (m' ∷ after) (row ∷ rows) =
    cond (became_pending s m m') (pending_since t ∷ row) row ∷ enter t s before after rows

abbrev pub with_aborts : List (List Frame) → Book → Book
with_aborts rows k = record { sender = k.sender; payload_frame = k.payload_frame; confirmation = k.confirmation; aborts = rows }

-- an abort belongs to its stream's newest message
abbrev pub entered : Moment → (before after : List Module) → Ledger → Ledger
entered t before after l =
    record {
      stream = l.stream;
      books = on_newest (λ (k : Book). with_aborts (enter t l.stream before after k.aborts) k) l.books;
    }

-- the modules moved on; what that made pending is dated by their counts now
abbrev pub moved : Bench → List Module → Bench
moved b after = record { modules = after; ledgers = map (entered (counts after) b.modules after) b.ledgers }

-- ── a request ──
abbrev pub asked : ℕ → Stream → List ℕ → Bench → Outcome
asked i s payload b = call unbounded (request s payload) (module_at i b)

abbrev pub is_accepted : ℕ → Stream → List ℕ → Bench → Bool
is_accepted i s payload b = is_live i b && is_done (asked i s payload b).reply

-- a message is opened: its frames are pending, and no abort of it is
abbrev pub new_book : ℕ → Bench → Book
new_book i b =
    record {
      sender = i;
      payload_frame = pending_since (now b);
      confirmation = pending_since (now b);
      aborts = map (λ (m : Module). []) b.modules;
    }

abbrev pub opened : ℕ → Stream → List ℕ → Bench → Bench
opened i s payload b =
    record {
      modules = at (with_node (asked i s payload b).node) i b.modules;
      ledgers = on_books s (λ ks. new_book i b ∷ ks) b.ledgers;
    }

-- ── giving out a module's next frame ──
abbrev pub next : ℕ → Bench → Outcome
next i b = call unbounded (next_frame lent) (module_at i b)

-- the module's next frame is the one of this stream and code
abbrev pub is_next : ℕ → Stream → (code : ℕ) → Bench → Bool
is_next i s code b =
    is_live i b && is_done (next i b).reply && same_stream (stream_of (next i b).id) s && eqb (code_of (next i b).id) code

abbrev pub which_of : ℕ → (code : ℕ) → Which
which_of i code = cond (eqb code 1) the_confirmation (cond (eqb code 2) (the_abort i 0) the_payload)

-- the frame is what the node gave out
abbrev pub gave_out : Outcome → Frame → Frame
gave_out o f = record { since = f.since; given = true; id = o.id; payload = o.bytes; sendings = f.sendings }

abbrev pub gave : ℕ → Stream → (code : ℕ) → Bench → Bench
gave i s code b =
    record {
      modules = at (with_node (next i b).node) i b.modules;
      ledgers = on_books s (on_newest (on_frame (which_of i code) (gave_out (next i b)))) b.ledgers;
    }

-- ── a sending ──
abbrev pub sent_again : Moment → Bool → Sendings → Sendings
sent_again t full never = sent t t full
sent_again t full (sent first last before) = sent first t full

abbrev pub sent_once : Moment → Bool → Frame → Frame
sent_once t full f =
    record { since = f.since; given = f.given; id = f.id; payload = f.payload; sendings = sent_again t full f.sendings }

-- Hearing asks no clock, nor does a request or giving out: of the five calls only a tick does (`outcome` in node/specs/Calls.antt). So
-- this one definition serves modules of either clock, and only `ticked` takes the clock as an argument.
abbrev pub heard : Frame → Module → Outcome
heard f m = call unbounded (hear f.id (length f.payload) f.payload lent) m

-- hearing a plain frame writes its record at once
abbrev pub at_once : Frame → Module → List Delivery
at_once f m =
    cond (eqb (length (heard f m).bytes) 0) []
    (record { at = m.node.counter; stream = stream_of f.id; payload = f.payload } ∷ [])

-- a log, newest first, after these deliveries
abbrev pub onto : List Delivery → List Delivery → List Delivery
onto [] log = log
onto (d ∷ ds) log = onto ds (d ∷ log)

-- a live module that is named, and does not own the frame
abbrev pub hears_where : (named own : Bool) → Frame → Module → Module
hears_where named own f m =
    cond (m.live && named && not own)
    (record { node = (heard f m).node; live = m.live; log = onto (at_once f m) m.log })
    m

abbrev pub hears : To → (owner : ℕ) → Frame → ℕ → Module → Module
hears to owner f i m = hears_where (named to i) (eqb i owner) f m

abbrev pub sending : Stream → (message : ℕ) → Which → To → Bench → Bench
sending s message w to b =
    moved
    (record {
      modules = b.modules;
      ledgers = on_books s (at (on_frame w (sent_once (now b) (is_full to))) message) b.ledgers;
    })
    (each (hears to (owner_of w (book_of s message b)) (frame_of w (book_of s message b))) 0 b.modules)

-- ── a tick ──
-- what a tick of the node delivers, in the order of its records
abbrev pub deliveries : Clock → Node → List Delivery
deliveries clock n =
    map (λ (x : Slot). record { at = clock.next n.counter; stream = x.stream; payload = payload_of x.message })
    (due_slots clock (clock.next n.counter) n.slots)

abbrev pub ticked : Clock → Module → Module
ticked clock m =
    cond m.live
    (record { node = (call clock (tick lent) m).node; live = m.live; log = onto (deliveries clock m.node) m.log })
    m

-- ── a death ──
abbrev pub dead : Module → Module
dead m = record { node = m.node; live = false; log = m.log }

-- a request that the node refuses, and giving out what is not the next frame, change nothing
unfoldable pub step : Bench → Event → Bench
step b (asks i s payload) = cond (is_accepted i s payload b) (opened i s payload b) b
step b (gives i s code) = cond (is_next i s code b) (gave i s code b) b
step b (sends s message w to) = sending s message w to b
step b ticks = moved b (map (ticked unbounded) b.modules)
step b (dies i) = record { modules = at dead i b.modules; ledgers = b.ledgers }

abbrev pub run : Bench → List Event → Bench
run b [] = b
run b (e ∷ es) = run (step b e) es
