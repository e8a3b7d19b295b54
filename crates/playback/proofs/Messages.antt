-- The records that are read are the messages that were delivered.
use Rattle.std.proofs.Common.{◌≡◌, ℕ, ◌+◌, ◌/◌, ◌<◌, ◌≤◌, Bool, true, false, cond, ◌&&◌, eqb, List, [], ◌∷◌, ◌++◌, map, length, sym, refl, ap, ◌∙◌, append-nil}
use Rattle.std.proofs.Common.{arith, length-append, length-take}
use mathlib.Core.List.{map-map}
use Rattle.wire.specs.declared.ids.Stream.{Stream}
use Rattle.wire.specs.declared.reply.Reply.{Reply}
use Rattle.wire.specs.Identifiers.{max_bus_id, stream_of, code_of}
use Rattle.wire.specs.Frames.{max_payload}
use Rattle.wire.specs.Replies.{number_of}
use Rattle.wire.specs.Delivered.{record_of, records_of, Writable, no_message, one_more}
use Rattle.wire.specs.Frames.{is_bare}
use Rattle.wire.proofs.Frames.{frame_length}
use Rattle.wire.proofs.LegalSettings.{legal_tells}
use Rattle.wire.proofs.Reading.{messages_back}
use Rattle.wire.proofs.Records.{record_length_law}
use Rattle.wire.proofs.Refusing.{Refuses}
use Rattle.node.specs.declared.slots.Slot.{Slot}
use Rattle.node.specs.Slots.{payload_of}
use Rattle.node.specs.Nodes.{slot_of, Outcome}
use Rattle.node.specs.Hear.{delivered_at_once, hear_refusals}
use Rattle.node.specs.Tick.{due, age_of, due_slots, records_from, tick}
use Rattle.node.specs.Clock.{Clock, unbounded}
use Rattle.node.specs.Reachable.{KeptSlot, All}
use Rattle.node.proofs.Cases.{by_case}
use Rattle.node.proofs.slots.Table.{all_weaken}
use Rattle.node.proofs.hear.Cases.{hear_cases}
use Rattle.node.proofs.tick.Cases.{tick_cases}
use Rattle.playback.specs.Deliveries.{Delivery, delivered_at, deliveries_in, delivered_by, message_of, room, DueIsDelivered, PlainIsDelivered}

-- ── reading what was written ──
abbrev Message : Type 0
Message = Stream × List ℕ

few : (messages : List Message) → length messages ≤ length (records_of messages)
few [] = omega arith
few ((s, payload) ∷ messages) =
    omega (arith, few messages, length-append (record_of s payload) (records_of messages), record_length_law s payload)

read_back : (tick : ℕ) (messages : List Message) → Writable messages → deliveries_in tick (records_of messages) ≡ map (delivered_at tick) messages
read_back tick messages w = ap (map (delivered_at tick)) (messages_back w (length (records_of messages)) (few messages))

-- ── a tick ──
-- a slot whose message can be written
abbrev Good : Slot → Type 0
Good x = (x.stream.0 < 4294967296) × (length (payload_of x.message) ≤ max_payload)

kept_is_good : (now : ℕ) (x : Slot) → KeptSlot now x → Good x
kept_is_good now x k = (by x.used refl, omega (arith, length-take x.message.len x.message.bytes, k.message.short))
  where
    by : (used : Bool) → x.used ≡ used → x.stream.0 < 4294967296
    by false e = rw (k.free e) (omega arith)
    by true e = omega (arith, ((legal_tells x.stream x.settings).says (k.lawful e)).stream)

all_due : (clock : Clock) (now : ℕ) (xs : List Slot) → All Good xs → All Good (due_slots clock now xs)
unfolding due_slots
all_due clock now [] gs = tt
all_due clock now (x ∷ xs) (g, gs) = by (all_due clock now xs gs) (due (age_of clock now x) x)
  where
    by : All Good (due_slots clock now xs) → (t : Bool) → All Good (cond t (x ∷ due_slots clock now xs) (due_slots clock now xs))
    by later true = (g, later)
    by later false = later

all_writable : (xs : List Slot) → All Good xs → Writable (map message_of xs)
all_writable [] gs = no_message
all_writable (x ∷ xs) ((small, short), gs) = one_more small short (all_writable xs gs)

as_messages : (xs : List Slot) → records_from xs ≡ records_of (map message_of xs)
unfolding records_from
as_messages [] = refl
as_messages (x ∷ xs) = ap (λ (l : List ℕ). record_of x.stream (payload_of x.message) ++ l) (as_messages xs)

pub due_is_delivered : DueIsDelivered
due_is_delivered n kept =
    let now : ℕ = n.counter + 1 in
    let xs = due_slots unbounded now n.slots in
    let good = all_due unbounded now n.slots (all_weaken (KeptSlot n.counter) Good (kept_is_good n.counter) n.slots kept.each) in
    ap delivered_by ((tick_cases room unbounded n).accepted_if (record { room = omega arith }))
    ∙ ap (deliveries_in now) (as_messages xs)
    ∙ read_back now (map message_of xs) (all_writable xs good)
    ∙ map-map (delivered_at now) message_of xs

-- ── hearing ──
pub plain_is_delivered : PlainIsDelivered
unfolding delivered_at_once
plain_is_delivered n id dlc payload =
    by_case
    (λ (o : Outcome). delivered_by o ≡ cond (eqb (number_of o.reply) 0 && eqb (code_of id) 3) (delivered_at n.counter (stream_of id, payload) ∷ []) [])
    refused
    (λ facts.
    taken facts.good.identifier (frame_length (is_bare id) id dlc (length payload) facts.good) (eqb (code_of id) 3))
    (hear_cases id dlc payload room n).case
  where
    only : Bool → List Delivery
    only t = cond t (delivered_at n.counter (stream_of id, payload) ∷ []) []

    refused : (r : Reply) → Refuses (hear_refusals id dlc payload room (slot_of (stream_of id) n)) r → [] ≡ only (eqb (number_of r) 0 && eqb (code_of id) 3)
    refused r why = rw ((hear_cases id dlc payload room n).not_done r why)

    taken : id.0 ≤ max_bus_id → length payload ≤ max_payload → (plain : Bool)
        → deliveries_in n.counter (cond plain (record_of (stream_of id) payload) []) ≡ only plain
    taken low short false = refl
    taken low short true =
        let small : id.0 / 4 < 4294967296 = omega arith in
        ap (deliveries_in n.counter) (sym (append-nil (record_of (stream_of id) payload)))
        ∙ read_back n.counter ((stream_of id, payload) ∷ []) (one_more small short no_message)
