-- A request to send: the replies BadLength, NotSender, Busy, in this order.
use Rattle.std.specs.Prelude.{ℕ, Bool, cond, not, ◌||◌, List, [], ◌∷◌, length, nat_lt}
use Rattle.wire.specs.declared.ids.Stream.{Stream}
use Rattle.wire.specs.declared.reply.Reply.TheVariants.{BadLength, NotSender, Busy}
use Rattle.wire.specs.Settings.{is_plain, is_two_message}
use Rattle.wire.specs.Frames.{max_payload}
use Rattle.wire.specs.Refusals.{Refusals}
use Rattle.node.specs.declared.slots.Pending.{Pending}
use Rattle.node.specs.declared.slots.Slot.{Slot}
use Rattle.node.specs.declared.Node.{Node}
use Rattle.node.specs.Slots.{holding, keeping, to_send, is_sender, with_parts}
use Rattle.node.specs.Nodes.{slot_of, on_slot, Outcome, unless_refused, done}

abbrev pub has_pending : Pending → Bool
has_pending p = p.payload || p.confirmation || p.abort

abbrev pub busy : Slot → Bool
busy x = x.message.held || has_pending x.pending

-- data (in plain, the plain frame) becomes pending, in 2M the confirmation too; in IMD and 2M a hold starts
unfoldable pub requested : (now : ℕ) → (payload : List ℕ) → Slot → Slot
requested now payload x =
    with_parts x
    (cond (is_plain x.settings) (keeping payload) (holding now payload))
    (to_send (is_two_message x.settings))

-- what refuses a request of a good length at a slot of its stream
abbrev pub slot_request_refusals : Slot → Refusals
slot_request_refusals x = (NotSender, not (is_sender x)) ∷ (Busy, busy x) ∷ []

-- what refuses a request: the test of the payload, then those of the slot of its stream
abbrev pub request_refusals : (payload : List ℕ) → Slot → Refusals
request_refusals payload x = (BadLength, nat_lt max_payload (length payload)) ∷ slot_request_refusals x

unfoldable pub request : Stream → (payload : List ℕ) → Node → Outcome
request s payload n =
    unless_refused n (request_refusals payload (slot_of s n)) (done (on_slot s (requested n.counter payload) n) [])
