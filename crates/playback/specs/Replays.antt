-- THE REPLAY of a recording on one node, with ticks counted without bound: what is delivered, the reply, and the offset.
use Rattle.std.specs.Prelude.{ℕ, ◌+◌, cond, List, [], ◌∷◌, ◌++◌, replicate, ◌==◌}
use Rattle.wire.specs.declared.ids.Stream.{Stream}
use Rattle.wire.specs.declared.settings.Settings.{Settings}
use Rattle.wire.specs.Replies as of_node
use Rattle.heard.specs.Replies as of_reader
use Rattle.heard.specs.Recordings.{Record, Recording, recording_in}
use Rattle.node.specs.declared.Node.{Node}
use Rattle.node.specs.Nodes.{Outcome, fresh, done}
use Rattle.node.specs.SetUp.{set_up}
use Rattle.node.specs.Calls.{Call, tick, hear}
use Rattle.playback.specs.Deliveries.{Delivery, deliveries_from, room}
use Rattle.playback.specs.Gaps.{gap_from}

pub record Replayed : Type 0 where
  pub deliveries : List Delivery
  -- the reply's number
  pub reply : ℕ
  -- where the record at fault starts; 0, where none is
  pub offset : ℕ

-- the settings are set up in their order, up to the first that is refused
abbrev pub set_up_all : List (Stream × Settings) → Node → Outcome
set_up_all [] n = done n []
set_up_all ((s, settings) ∷ rest) n =
    let o = set_up s settings n in cond (of_node.number_of o.reply == 0) (set_up_all rest o.node) o

-- each record is heard after its ticks; none follow the last
abbrev pub calls_from : (ticks : ℕ) → List Record → List Call
calls_from ticks [] = []
calls_from ticks ((h, payload) ∷ rest) =
    replicate (gap_from ticks h) (tick room) ++ hear h.id h.dlc payload room ∷ calls_from (ticks + gap_from ticks h) rest

-- an offset belongs to a record at fault
abbrev pub fault_in : Recording → ℕ
fault_in r = cond (of_reader.number_of r.reply == 0) 0 r.offset

-- the records up to the first at fault, on a node that was set up
abbrev pub replay_on : Node → Recording → Replayed
replay_on n r =
    record {
      deliveries = deliveries_from n (calls_from n.counter r.records);
      reply = of_reader.number_of r.reply;
      offset = fault_in r;
    }

-- a refused setting answers before anything is read
abbrev pub replay : List (Stream × Settings) → (recording : List ℕ) → Replayed
replay settings recording =
    let o = set_up_all settings fresh in
    cond (of_node.number_of o.reply == 0) (replay_on o.node (recording_in recording))
    (record { deliveries = []; reply = of_node.number_of o.reply; offset = 0 })
