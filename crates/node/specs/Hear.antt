-- Hearing a frame: the replies ShortOutput, those of what is no frame, NotMine, Misfit, Clash, in this order.
use Rattle.std.specs.Prelude.{ℕ, Bool, cond, not, ◌&&◌, List, [], ◌∷◌, ◌++◌, length, ◌==◌, nat_lt}
use Rattle.wire.specs.declared.ids.Stream.{Stream}
use Rattle.wire.specs.declared.ids.BusId.{BusId}
use Rattle.wire.specs.declared.reply.Reply.TheVariants.{NotMine, Misfit, Clash, ShortOutput}
use Rattle.wire.specs.Identifiers.{stream_of, code_of}
use Rattle.wire.specs.Classes.{carries}
use Rattle.wire.specs.Frames.{is_bare, frame_refusals}
use Rattle.wire.specs.Delivered.{record_of}
use Rattle.wire.specs.Refusals.{Refusals}
use Rattle.node.specs.declared.slots.Slot.{Slot}
use Rattle.node.specs.declared.Node.{Node}
use Rattle.node.specs.Slots.{no_message, holding, restamped, confirmed, same, abort_pending, is_receiver, with_parts, with_message}
use Rattle.node.specs.Nodes.{slot_of, on_slot, Outcome, unless_refused, done, telling}
use Rattle.node.specs.Told.{told_by, of_frame}

-- a plain frame is delivered at once, so the longest record must fit
abbrev pub hear_room : ℕ
hear_room = 16

-- data with another length or other bytes than the message held
abbrev pub clashes : (code : ℕ) → (payload : List ℕ) → Slot → Bool
clashes code payload x = code == 0 && x.message.held && not (same x.message payload)

-- data: held, if nothing is; else it is a duplicate, and the stamp becomes the counter
abbrev pub data_heard : (now : ℕ) → (payload : List ℕ) → Slot → Slot
data_heard now payload x = with_message (cond x.message.held (restamped now x.message) (holding now payload)) x

-- a confirmation: what is held is confirmed; where nothing is, an abort becomes pending
abbrev pub confirmation_heard : Slot → Slot
confirmation_heard x =
    cond x.message.held (with_message (confirmed x.message) x) (with_parts x x.message (abort_pending x.pending))

-- an abort: what is held is dropped, confirmed or not; an abort of one's own stays pending
abbrev pub abort_heard : Slot → Slot
abort_heard x = cond x.message.held (with_message no_message x) x

unfoldable pub heard_by : (now code : ℕ) → (payload : List ℕ) → Slot → Slot
heard_by now code payload x =
    cond (code == 0) (data_heard now payload x)
    (cond (code == 1) (confirmation_heard x)
    (cond (code == 2) (abort_heard x) x))

-- a plain frame's record; the other codes deliver nothing yet
abbrev pub plain_record : Stream → (code : ℕ) → (payload : List ℕ) → List ℕ
plain_record s code payload = cond (code == 3) (record_of s payload) []

unfoldable pub delivered_at_once : BusId → (payload : List ℕ) → List ℕ
delivered_at_once id payload = plain_record (stream_of id) (code_of id) payload

-- what refuses a good frame at a slot of its stream
abbrev pub slot_hear_refusals : (code : ℕ) → (payload : List ℕ) → Slot → Refusals
slot_hear_refusals code payload x =
    (NotMine, not (is_receiver x))
    ∷ (Misfit, not (carries x.settings.class code))
    ∷ (Clash, clashes code payload x)
    ∷ []

-- what refuses a frame: the tests of output and frame, then those of the slot of its stream
abbrev pub hear_refusals : BusId → (dlc : ℕ) → (payload output : List ℕ) → Slot → Refusals
hear_refusals id dlc payload output x =
    (ShortOutput, nat_lt (length output) hear_room)
    ∷ frame_refusals (is_bare id) id dlc (length payload)
    ++ slot_hear_refusals (code_of id) payload x

unfoldable pub hear : BusId → (dlc : ℕ) → (payload output : List ℕ) → Node → Outcome
hear id dlc payload output n =
    unless_refused n (hear_refusals id dlc payload output (slot_of (stream_of id) n))
    (telling (of_frame (told_by (code_of id) (slot_of (stream_of id) n)))
    (done (on_slot (stream_of id) (heard_by n.counter (code_of id) payload) n) (delivered_at_once id payload)))
