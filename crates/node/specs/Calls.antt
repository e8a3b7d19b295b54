-- The five calls, histories of them from the fresh node, and the node with its counts rolled over.
use Rattle.std.specs.Prelude.{ℕ, ◌%◌, List, [], ◌∷◌, map}
use Rattle.wire.specs.declared.ids.Stream.{Stream}
use Rattle.wire.specs.declared.ids.BusId.{BusId}
use Rattle.wire.specs.declared.settings.Settings.{Settings}
use Rattle.wire.specs.declared.reply.Reply.{Reply}
use Rattle.node.specs.declared.slots.Slot.{Slot}
use Rattle.node.specs.declared.Node.{Node}
use Rattle.node.specs.Slots.{restamped, with_message}
use Rattle.node.specs.Told.{Report}
use Rattle.node.specs.Nodes.{Outcome, fresh}
use Rattle.node.specs.Clock.{Clock, period}
use Rattle.node.specs.SetUp
use Rattle.node.specs.Hear
use Rattle.node.specs.Tick
use Rattle.node.specs.Request
use Rattle.node.specs.NextFrame

pub data Call : Type 0 where
  set_up : Stream → Settings → Call
  hear : BusId → (dlc : ℕ) → (payload output : List ℕ) → Call
  tick : (output : List ℕ) → Call
  request : Stream → (payload : List ℕ) → Call
  next_frame : (output : List ℕ) → Call

-- what a call does; only the tick looks at the clock
abbrev pub outcome : Clock → Call → Node → Outcome
outcome clock (set_up s settings) n = SetUp.set_up s settings n
outcome clock (hear id dlc payload output) n = Hear.hear id dlc payload output n
outcome clock (tick output) n = Tick.tick clock output n
outcome clock (request s payload) n = Request.request s payload n
outcome clock (next_frame output) n = NextFrame.next_frame output n

-- the node after some calls, the first of them first
abbrev pub after_from : Clock → Node → List Call → Node
after_from clock n [] = n
after_from clock n (c ∷ cs) = after_from clock (outcome clock c n).node cs

abbrev pub after : Clock → List Call → Node
after clock calls = after_from clock fresh calls

-- what a caller sees of a call
pub record Answer : Type 0 where
  pub reply : Reply
  pub id : BusId
  pub bytes : List ℕ
  pub report : Report

abbrev pub answer_of : Outcome → Answer
answer_of o = record { reply = o.reply; id = o.id; bytes = o.bytes; report = o.report }

abbrev pub answers_from : Clock → Node → List Call → List Answer
answers_from clock n [] = []
answers_from clock n (c ∷ cs) = answer_of (outcome clock c n) ∷ answers_from clock (outcome clock c n).node cs

abbrev pub answers : Clock → List Call → List Answer
answers clock calls = answers_from clock fresh calls

-- ── the same node with its counter and stamps modulo 65,536 ──
abbrev pub roll_slot : Slot → Slot
roll_slot x = with_message (restamped (x.message.stamp % period) x.message) x

abbrev pub roll : Node → Node
roll n = record { slots = map roll_slot n.slots; counter = n.counter % period }

abbrev pub roll_outcome : Outcome → Outcome
roll_outcome o = record { node = roll o.node; reply = o.reply; id = o.id; bytes = o.bytes; report = o.report }
