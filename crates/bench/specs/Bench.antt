-- The bench: modules on one harness, and for each message a book of its frames and their sendings.
use Rattle.std.specs.Prelude.{ℕ, Bool, false, cond, List, [], ◌∷◌, map, eqb}
use Rattle.wire.specs.declared.ids.Stream.{Stream}
use Rattle.wire.specs.declared.ids.BusId.{BusId}
use Rattle.wire.specs.declared.settings.Settings.{Settings}
use Rattle.wire.specs.Delivered as wire
use Rattle.node.specs.declared.slots.Slot.{Slot}
use Rattle.node.specs.declared.Node.{Node}
use Rattle.node.specs.Nodes.{fresh, slot_of, no_id}
use Rattle.bench.specs.Lists.{nth}

-- a moment of a history: the tick count of each module, in order (with common ticks all live modules count the same)
abbrev pub Moment : Type 0
Moment = List ℕ

-- the sendings of a frame: none yet; or when the first and the last were, and whether the last was full
pub data Sendings : Type 0 where
  never : Sendings
  sent : (first last : Moment) (full : Bool) → Sendings

-- when it became pending, whether it was given out, and as what; its sendings
pub record Frame : Type 0 where
  pub since : Moment
  pub given : Bool
  pub id : BusId
  pub payload : List ℕ
  pub sendings : Sendings

-- it became pending
abbrev pub pending_since : Moment → Frame
pending_since t = record { since = t; given = false; id = no_id; payload = []; sendings = never }

-- The book of a message: who sends it, the frame with its payload (data, or the plain frame), its confirmation, and the
-- aborts of each module, the newest first. Only a 2M message's confirmation is ever given out.
pub record Book : Type 0 where
  pub sender : ℕ
  pub payload_frame : Frame
  pub confirmation : Frame
  pub aborts : List (List Frame)

-- the messages of a stream, the newest first
pub record Ledger : Type 0 where
  pub stream : Stream
  pub books : List Book

-- when, on which stream and what a module delivered
pub record Delivery : Type 0 where
  pub at : ℕ
  pub stream : Stream
  pub payload : List ℕ

-- the records of deliveries, one after the other
abbrev pub records_of : List Delivery → List ℕ
records_of ds = wire.records_of (map (λ (d : Delivery). (d.stream, d.payload)) ds)

-- the log has the newest delivery first
pub record Module : Type 0 where
  pub node : Node
  pub live : Bool
  pub log : List Delivery

pub record Bench : Type 0 where
  pub modules : List Module
  pub ledgers : List Ledger

abbrev pub same_stream : Stream → Stream → Bool
same_stream s z = eqb s.0 z.0

-- ── reading a bench ──
abbrev pub no_module : Module
no_module = record { node = fresh; live = false; log = [] }

abbrev pub module_at : ℕ → Bench → Module
module_at i b = nth no_module i b.modules

abbrev pub is_live : ℕ → Bench → Bool
is_live i b = (module_at i b).live

-- the slot of a stream at a module
abbrev pub slot_at : Stream → ℕ → Bench → Slot
slot_at s i b = slot_of s (module_at i b).node

abbrev pub counts : List Module → Moment
counts ms = map (λ (m : Module). m.node.counter) ms

abbrev pub now : Bench → Moment
now b = counts b.modules

abbrev pub books_in : Stream → List Ledger → List Book
books_in s [] = []
books_in s (l ∷ ls) = cond (same_stream l.stream s) l.books (books_in s ls)

abbrev pub books_of : Stream → Bench → List Book
books_of s b = books_in s b.ledgers

abbrev pub no_book : Book
no_book = record { sender = 0; payload_frame = pending_since []; confirmation = pending_since []; aborts = [] }

-- message 0 is the stream's newest
abbrev pub book_of : Stream → (message : ℕ) → Bench → Book
book_of s message b = nth no_book message (books_of s b)

-- the settings of a message's stream, at its sender
abbrev pub settings_of : Stream → Book → Bench → Settings
settings_of s k b = (slot_at s k.sender b).settings

-- ── the frames of a book ──
pub data Which : Type 0 where
  the_payload the_confirmation : Which
  the_abort : (owner place : ℕ) → Which

abbrev pub frame_of : Which → Book → Frame
frame_of the_payload k = k.payload_frame
frame_of the_confirmation k = k.confirmation
frame_of (the_abort owner place) k = nth (pending_since []) place (nth [] owner k.aborts)

abbrev pub owner_of : Which → Book → ℕ
owner_of the_payload k = k.sender
owner_of the_confirmation k = k.sender
owner_of (the_abort owner place) k = owner
