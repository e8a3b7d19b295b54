-- The old layout: the slots are kept in the order of set up, a tick looks for the due slots by ascending stream, and next frame for the lowest
-- identifier of all slots. A slot, and whatever happens to one, is the same in both layouts.
use Rattle.std.specs.Prelude.{ℕ, ◌+◌, ◌*◌, min, Bool, true, false, cond, ◌&&◌, List, [], ◌∷◌, ◌++◌, length, ◌==◌, nat_le, nat_lt}
use Rattle.wire.specs.declared.ids.Stream.{Stream}
use Rattle.wire.specs.declared.ids.BusId.{BusId}
use Rattle.wire.specs.declared.settings.Settings.{Settings}
use Rattle.wire.specs.declared.reply.Reply.TheVariants.{Done, ShortOutput, Nothing}
use Rattle.wire.specs.Identifiers.{max_stream, stream_of, code_of}
use Rattle.wire.specs.Settings.{is_plain}
use Rattle.wire.specs.Refusals.{Refusals}
use Rattle.node.specs.declared.slots.Slot.{Slot}
use Rattle.node.specs.declared.Node.{Node}
use Rattle.node.specs.Slots.{slot_for, is_free, on_first}
use Rattle.node.specs.Nodes.{with_slots, slot_of, on_slot, Outcome, unless_refused, done, telling}
use Rattle.node.specs.Told.{silent}
use Rattle.node.specs.Clock.{Clock}
use Rattle.node.specs.SetUp.{set_up_refusals}
use Rattle.node.specs.Hear
use Rattle.node.specs.Tick.{due, age_of, lapses, records_from, ticked, tick_refusals}
use Rattle.node.specs.Request
use Rattle.node.specs.NextFrame.{next_room, given_out, payload_for}
use Rattle.node.specs.Calls.{Call}

-- ── where set up puts a slot ──
-- what it makes of the table
abbrev pub Layout : Type 0
Layout = Slot → List Slot → List Slot

-- the first free place
abbrev pub first_free : Layout
first_free x xs = on_first is_free (λ y. x) xs

abbrev pub set_up_in : Layout → Stream → Settings → Node → Outcome
set_up_in put s settings n =
    unless_refused n (set_up_refusals s settings n) (done (with_slots (put (slot_for s settings) n.slots) n) [])

-- ── how the tick collects its records ──
-- x in its place in a list that ascends by stream. A stream has one place: that two slots have one stream is true only of nodes that no call makes.
abbrev pub place : Slot → List Slot → List Slot
place x [] = x ∷ []
place x (y ∷ ys) =
    cond (nat_lt y.stream.0 x.stream.0) (y ∷ place x ys)
    (cond (x.stream.0 == y.stream.0) (x ∷ ys) (x ∷ y ∷ ys))

-- the slots that are due now, by ascending stream
unfoldable pub due_by_stream : Clock → (now : ℕ) → List Slot → List Slot
due_by_stream clock now [] = []
due_by_stream clock now (x ∷ xs) = cond (due (age_of clock now x) x) (place x (due_by_stream clock now xs)) (due_by_stream clock now xs)

abbrev pub tick_by_stream : Clock → (output : List ℕ) → Node → Outcome
tick_by_stream clock output n =
    unless_refused n (tick_refusals output)
    (telling (lapses clock (clock.next n.counter) n.slots)
    (done (ticked clock n) (records_from (due_by_stream clock (clock.next n.counter) n.slots))))

-- ── which frame is next ──
-- the code of the frame with the payload
abbrev pub payload_code : Slot → ℕ
payload_code x = cond (is_plain x.settings) 3 0

abbrev pub one : Bool → ℕ → List ℕ
one true i = i ∷ []
one false i = []

-- the codes of a slot's pending frames
abbrev pub pending_codes : Slot → List ℕ
pending_codes x = one x.pending.payload (payload_code x) ++ one x.pending.confirmation 1 ++ one x.pending.abort 2

-- as bus identifiers of its stream
abbrev pub ids_from : (stream : ℕ) → (codes : List ℕ) → List ℕ
ids_from stream [] = []
ids_from stream (code ∷ codes) = (stream * 4 + code) ∷ ids_from stream codes

unfoldable pub pending_in : Slot → List ℕ
pending_in x = cond (x.used && nat_le x.stream.0 max_stream) (ids_from x.stream.0 (pending_codes x)) []

-- there are none
abbrev pub is_none : List ℕ → Bool
is_none [] = true
is_none (i ∷ is) = false

-- the lowest of some (of none there is none, and the answer is Nothing)
unfoldable pub lowest : List ℕ → ℕ
lowest [] = 0
lowest (i ∷ is) = cond (is_none is) i (min i (lowest is))

-- all pending frames
unfoldable pub pending_ids : List Slot → List ℕ
pending_ids [] = []
pending_ids (x ∷ xs) = pending_in x ++ pending_ids xs

-- the slot of its stream gives out the frame
unfoldable pub give_by_id : BusId → Node → Outcome
give_by_id id n =
    record {
      node = on_slot (stream_of id) (given_out (code_of id)) n;
      reply = Done;
      id = id;
      bytes = payload_for (code_of id) (slot_of (stream_of id) n);
      report = silent;
    }

abbrev pub next_by_id_refusals : (output : List ℕ) → (pending : List ℕ) → Refusals
next_by_id_refusals output pending =
    (ShortOutput, nat_lt (length output) next_room)
    ∷ (Nothing, is_none pending)
    ∷ []

unfoldable pub next_by_id : (output : List ℕ) → Node → Outcome
next_by_id output n =
    let pending = pending_ids n.slots in
    unless_refused n (next_by_id_refusals output pending) (give_by_id (record { 0 = lowest pending }) n)

-- ── the calls, wherever set up puts a slot ──
abbrev pub outcome_in : Layout → Clock → Call → Node → Outcome
outcome_in put clock (Call.set_up s settings) n = set_up_in put s settings n
outcome_in put clock (Call.hear id dlc payload output) n = Hear.hear id dlc payload output n
outcome_in put clock (Call.tick output) n = tick_by_stream clock output n
outcome_in put clock (Call.request s payload) n = Request.request s payload n
outcome_in put clock (Call.next_frame output) n = next_by_id output n

abbrev pub old_outcome : Clock → Call → Node → Outcome
old_outcome = outcome_in first_free
