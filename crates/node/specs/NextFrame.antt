-- The next frame: of the pending frames of the first slot that has any, the one with the lowest code; in every node that calls make, it is
-- that with the lowest bus identifier of all. The replies ShortOutput, Nothing, in this order.
use Rattle.std.specs.Prelude.{ℕ, Bool, cond, not, ◌&&◌, ◌||◌, List, [], ◌∷◌, length, ◌==◌, nat_le, nat_lt}
use Rattle.wire.specs.declared.reply.Reply.TheVariants.{Done, ShortOutput, Nothing}
use Rattle.wire.specs.Identifiers.{max_stream, join}
use Rattle.wire.specs.Settings.{is_plain}
use Rattle.wire.specs.Refusals.{Refusals}
use Rattle.node.specs.declared.slots.Pending.{Pending}
use Rattle.node.specs.declared.slots.Slot.{Slot}
use Rattle.node.specs.declared.Node.{Node}
use Rattle.node.specs.Slots.{payload_of, payload_given, confirmation_given, abort_given, with_parts, first, on_first, some}
use Rattle.node.specs.Nodes.{with_slots, Outcome, unless_refused}
use Rattle.node.specs.Told.{silent}
use Rattle.node.specs.Request.{has_pending}

-- the longest payload must fit
abbrev pub next_room : ℕ
next_room = 8

-- the frame with this code is pending no longer
abbrev pub without : (code : ℕ) → Pending → Pending
without code p =
    cond (code == 1) (confirmation_given p) (cond (code == 2) (abort_given p) (payload_given p))

unfoldable pub given_out : (code : ℕ) → Slot → Slot
given_out code x = with_parts x x.message (without code x.pending)

-- confirmations and aborts have no payload
unfoldable pub payload_for : (code : ℕ) → Slot → List ℕ
payload_for code x = cond (code == 1 || code == 2) [] (payload_of x.message)

-- a frame of the slot is pending. (A number that is no stream has none: such a slot is in no node that calls make.)
abbrev pub has_frame : Slot → Bool
has_frame x = has_pending x.pending && (x.used && nat_le x.stream.0 max_stream)

-- the lowest code of those that are pending: data, confirmation, abort, plain
abbrev pub lowest_code : Slot → ℕ
lowest_code x =
    cond (x.pending.payload && not (is_plain x.settings)) 0
    (cond x.pending.confirmation 1 (cond x.pending.abort 2 3))

abbrev pub lowest_given : Slot → Slot
lowest_given x = given_out (lowest_code x) x

-- the first slot with a frame pending gives it out
unfoldable pub give : Node → Outcome
give n =
    let x = first has_frame n.slots in
    record {
      node = with_slots (on_first has_frame lowest_given n.slots) n;
      reply = Done;
      id = (join x.stream (lowest_code x)).id;
      bytes = payload_for (lowest_code x) x;
      report = silent;
    }

abbrev pub next_refusals : (output : List ℕ) → Node → Refusals
next_refusals output n =
    (ShortOutput, nat_lt (length output) next_room)
    ∷ (Nothing, not (some has_frame n.slots))
    ∷ []

unfoldable pub next_frame : (output : List ℕ) → Node → Outcome
next_frame output n = unless_refused n (next_refusals output n) (give n)
