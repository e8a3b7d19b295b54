-- The node, and the outcome of a call on it.
use Rattle.std.specs.Prelude.{ℕ, Bool, cond, List, [], ◌∷◌, length, replicate, Result}
use Rattle.wire.specs.declared.ids.Stream.{Stream}
use Rattle.wire.specs.declared.ids.BusId.{BusId}
use Rattle.wire.specs.declared.reply.Reply.{Reply}
use Rattle.wire.specs.declared.reply.Reply.TheVariants.{Done}
use Rattle.wire.specs.Answers.{answered}
use Rattle.node.specs.declared.slots.Slot.{Slot}
use Rattle.node.specs.declared.Node.{Node}
use Rattle.node.specs.declared.Heard.{Heard}
use Rattle.node.specs.declared.Ticked.{Ticked}
use Rattle.node.specs.declared.Given.{Given}
use Rattle.node.specs.Slots.{empty, is_of, first, on_first, some}
use Rattle.node.specs.Told.{Report, silent}

abbrev pub slot_count : ℕ
slot_count = 32

-- before any call
abbrev pub fresh : Node
fresh = record { slots = replicate slot_count empty; counter = 0 }

abbrev pub slot_of : Stream → Node → Slot
slot_of s n = first (is_of s) n.slots

abbrev pub has_slot : Stream → Node → Bool
has_slot s n = some (is_of s) n.slots

abbrev pub with_slots : List Slot → Node → Node
with_slots slots n = record { slots = slots; counter = n.counter }

abbrev pub on_slot : Stream → (Slot → Slot) → Node → Node
on_slot s change n = with_slots (on_first (is_of s) change n.slots) n

-- What a call leaves in the node, its reply, the identifier that next frame gives out, the bytes that the call
-- writes to the front of the lent output, where the rest stays as it was, and what it tells.
pub record Outcome : Type 0 where
  pub node : Node
  pub reply : Reply
  pub id : BusId
  pub bytes : List ℕ
  pub report : Report

abbrev pub no_id : BusId
no_id = record { 0 = 0 }

-- a refusal changes nothing, writes nothing, returns 0 and tells nothing
abbrev pub refused : Node → Reply → Outcome
refused n reply = record { node = n; reply = reply; id = no_id; bytes = []; report = silent }

-- what a call is refused for: each reply with its test, in their order
abbrev pub Refusals : Type 0
Refusals = List (Reply × Bool)

-- the first test that holds refuses the call; where none does, it has this outcome
abbrev pub unless_refused : Node → Refusals → Outcome → Outcome
unless_refused n [] o = o
unless_refused n ((reply, test) ∷ rest) o = cond test (refused n reply) (unless_refused n rest o)

-- the reply of the first test that holds; where none does, Done
abbrev pub reply_of : Refusals → Reply
reply_of [] = Done
reply_of ((reply, test) ∷ rest) = cond test reply (reply_of rest)

abbrev pub done : Node → (written : List ℕ) → Outcome
done n written = record { node = n; reply = Done; id = no_id; bytes = written; report = silent }

abbrev pub telling : Report → Outcome → Outcome
telling report o = record { node = o.node; reply = o.reply; id = o.id; bytes = o.bytes; report = report }

-- the outcome as each call answers it: its values where the reply is Done, and else the reply
abbrev pub as_answered : Outcome → Result (Unit {0}) Reply
as_answered o = answered o.reply tt

abbrev pub as_heard : Outcome → Result Heard Reply
as_heard o = answered o.reply (record { written = length o.bytes; told = o.report.frame })

abbrev pub as_ticked : Outcome → Result Ticked Reply
as_ticked o = answered o.reply (record { written = length o.bytes; dropped = o.report.dropped; delivered = o.report.delivered })

abbrev pub as_given : Outcome → Result Given Reply
as_given o = answered o.reply (record { id = o.id; len = length o.bytes })
