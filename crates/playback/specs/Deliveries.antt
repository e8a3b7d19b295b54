-- Deliveries: what a node delivers in a history of calls, each message at the tick count at which it was delivered.
use Rattle.std.specs.Prelude.{◌≡◌, ℕ, ◌+◌, cond, ◌&&◌, List, [], ◌∷◌, ◌++◌, map, length, replicate, ◌==◌}
use Rattle.wire.specs.declared.ids.Stream.{Stream}
use Rattle.wire.specs.declared.ids.BusId.{BusId}
use Rattle.wire.specs.Identifiers.{stream_of, code_of}
use Rattle.wire.specs.Replies.{number_of}
use Rattle.wire.specs.Delivered.{messages_at}
use Rattle.node.specs.declared.slots.Slot.{Slot}
use Rattle.node.specs.declared.Node.{Node}
use Rattle.node.specs.Slots.{payload_of}
use Rattle.node.specs.Nodes.{Outcome}
use Rattle.node.specs.Tick.{tick_room, due_slots}
use Rattle.node.specs.Clock.{unbounded}
use Rattle.node.specs.Calls.{Call, outcome}
use Rattle.node.specs.Reachable.{Kept}

pub record Delivery : Type 0 where
  -- the ticks so far, counted without bound
  pub tick : ℕ
  pub stream : Stream
  pub payload : List ℕ

abbrev pub delivered_at : (tick : ℕ) → Stream × List ℕ → Delivery
delivered_at tick (s, payload) = record { tick = tick; stream = s; payload = payload }

-- the delivered records in some bytes, at this tick count (a record has more than one byte, so there are no more records than bytes)
abbrev pub deliveries_in : (tick : ℕ) → (bytes : List ℕ) → List Delivery
deliveries_in tick bytes = map (delivered_at tick) (messages_at (length bytes) bytes 0)

-- what a call wrote, at the tick count that it left
abbrev pub delivered_by : Outcome → List Delivery
delivered_by o = deliveries_in o.node.counter o.bytes

abbrev pub deliveries_from : Node → List Call → List Delivery
deliveries_from n [] = []
deliveries_from n (c ∷ cs) = delivered_by (outcome unbounded c n) ++ deliveries_from (outcome unbounded c n).node cs

-- an output that is long enough for every call
abbrev pub room : List ℕ
room = replicate tick_room 0

-- ── nothing is lost in the records ──
abbrev pub message_of : Slot → Stream × List ℕ
message_of x = (x.stream, payload_of x.message)

-- a tick delivers the messages that are due, by ascending stream
abbrev pub DueIsDelivered : Type 0
DueIsDelivered =
    (n : Node) → Kept n
    → delivered_by (outcome unbounded (Call.tick room) n)
    ≡ map (λ (x : Slot). delivered_at (n.counter + 1) (message_of x)) (due_slots unbounded (n.counter + 1) n.slots)

-- hearing delivers a plain frame that is taken, and nothing else
abbrev pub PlainIsDelivered : Type 0
PlainIsDelivered =
    (n : Node) (id : BusId) (dlc : ℕ) (payload : List ℕ)
    → delivered_by (outcome unbounded (Call.hear id dlc payload room) n)
    ≡ cond (number_of (outcome unbounded (Call.hear id dlc payload room) n).reply == 0 && code_of id == 3)
    (delivered_at n.counter (stream_of id, payload) ∷ []) []
