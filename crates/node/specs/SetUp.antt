-- Setting up a stream: the replies BadSettings, Taken, TableFull, in this order.
use Rattle.std.specs.Prelude.{cond, not, ◌||◌, List, [], ◌∷◌, nat_lt}
use Rattle.wire.specs.declared.ids.Stream.{Stream}
use Rattle.wire.specs.declared.settings.Settings.{Settings}
use Rattle.wire.specs.declared.reply.Reply.TheVariants.{BadSettings, TableFull, Taken}
use Rattle.wire.specs.Settings.{legal}
use Rattle.wire.specs.Refusals.{Refusals}
use Rattle.node.specs.declared.slots.Slot.{Slot}
use Rattle.node.specs.declared.Node.{Node}
use Rattle.node.specs.Slots.{slot_for, is_free, some}
use Rattle.node.specs.Nodes.{has_slot, with_slots, Outcome, unless_refused, done}

-- what refuses a stream and its settings
abbrev pub set_up_refusals : Stream → Settings → Node → Refusals
set_up_refusals s settings n =
    (BadSettings, not (legal s settings))
    ∷ (Taken, has_slot s n)
    ∷ (TableFull, not (some is_free n.slots))
    ∷ []

-- the same slots but the first free one
unfoldable pub less_free : List Slot → List Slot
less_free [] = []
less_free (y ∷ ys) = cond (is_free y) ys (y ∷ less_free ys)

-- the slots in use stand first, ascending by stream: x stands before the first slot that is free or has a higher stream, and a free slot gives way
unfoldable pub in_place : Slot → List Slot → List Slot
in_place x [] = []
in_place x (y ∷ ys) = cond (is_free y || nat_lt x.stream.0 y.stream.0) (x ∷ less_free (y ∷ ys)) (y ∷ in_place x ys)

unfoldable pub set_up : Stream → Settings → Node → Outcome
set_up s settings n =
    unless_refused n (set_up_refusals s settings n) (done (with_slots (in_place (slot_for s settings) n.slots) n) [])
