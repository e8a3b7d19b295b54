-- `request` meets its contract: each return cites the way through the definition, of the node that the bytes are.
use Rattle.std.proofs.Common.{◌≡◌, ℕ, ◌<◌, List, [], length, refl, sym, ap, ◌∙◌, arith}
use Rattle.node.specs.declared.slots.Slot.{Slot}
use Rattle.node.specs.declared.Node.{Node}
use Rattle.node.specs.Slots.{is_of}
use Rattle.node.specs.Nodes.{as_answered}
use Rattle.node.specs.Calls.{Call}
use Rattle.node.proofs.Answering.{was_refused, was_done, was_missed, was_found, hands_on, refuses_with}
use Rattle.node.proofs.slots.Finding.{no_slot, index_of, place_found, place_missed}
use Rattle.node.proofs.request.Ways.{too_long, no_slot_law, slot_refuses, request_taken}
use Rattle.node_bytes.specs.Decoding.{slot_at, decode}
use Rattle.node_bytes.specs.Lent.{with_slot}
use Rattle.node_bytes.proofs.ByIndex.{decoded_slot, decoded_length, decoded_counter}
use Rattle.node_bytes.proofs.PartsStored.{DiffersInParts, requested_differs}
use Rattle.node_bytes.proofs.Calling.{not_a_node, call_refused, slot_put}
use Rattle.node_bytes.proofs.request.request.Goals as goal
use Rattle.node_bytes.proofs.request.request.Goals.{Start, In_ok-i}

-- ── the call ──
module _ (s : Start) where
  abbrev bytes : List ℕ
  bytes = s.args.bytes.now

  abbrev node : Node
  node = decode bytes

  abbrev call : Call
  call = Call.request s.args.stream s.args.payload.now

pub returns-then-bytes-ne-NODE_SIZE : goal.returns-then-bytes-ne-NODE_SIZE
returns-then-bytes-ne-NODE_SIZE c =
    let s = (goal.at.returns-then-bytes-ne-NODE_SIZE c).Start in
    let t = not_a_node (call s) (bytes s) as_answered [] c.if-bytes-ne-NODE_SIZE.true in
    record { answer = t.0; leaves = t.1.1 }

pub returns-then-payload-gt-MAX_LEN : goal.returns-then-payload-gt-MAX_LEN
returns-then-payload-gt-MAX_LEN c =
    let s = (goal.at.returns-then-payload-gt-MAX_LEN c).Start in
    let t = call_refused (call s) (bytes s) as_answered [] c.if-bytes-ne-NODE_SIZE.false
    (too_long _ _ (node s) c.if-payload-gt-MAX_LEN.true) refl refl refl in
    record { answer = t.0; leaves = t.1.1 }

pub returns-in_err-i : goal.returns-in_err-i
returns-in_err-i c =
    let s = (goal.at.returns-in_err-i c).Start in
    let missed = was_missed _ _ c.in_err-i.ensures.value in
    let none = place_missed (is_of s.args.stream) (node s).slots c.find.ensures missed.1 in
    let t = call_refused (call s) (bytes s) as_answered [] c.if-bytes-ne-NODE_SIZE.false
    (no_slot_law _ _ (node s) c.if-payload-gt-MAX_LEN.false _ refl none) refl (hands_on _ c.from_residual.ensures.1 missed.0) refl in
    record { answer = t.0; leaves = t.1.1 }

-- ── the slot of its stream ──
here : (c : In_ok-i) → (c.in_ok-i.i ≡ index_of (is_of c.before.args.stream) (decode c.before.args.bytes.now).slots)
    × (c.in_ok-i.i < length (decode c.before.args.bytes.now).slots)
here c = place_found _ _ c.before.find.ensures (was_found _ _ c.in_ok-i.ensures.value)

pub slot_at-slot-requires : goal.slot_at-slot-requires
slot_at-slot-requires c = (c.if-bytes-ne-NODE_SIZE.false, omega (arith, here c, decoded_length c.args.bytes.now))

pub returns-in_err-check_request : goal.returns-in_err-check_request
returns-in_err-check_request c =
    let s = (goal.at.returns-in_err-check_request c).Start in
    let h = here (goal.at.returns-in_err-check_request c).In_ok-i in
    let slot_of_node = c.slot_at-slot.ensures ∙ sym (decoded_slot (bytes s) c.in_ok-i.i no_slot (omega (arith, h, decoded_length (bytes s)))) in
    let said = was_refused _ _ (rw slot_of_node at c.in_err-check_request.ensures) in
    let t = call_refused (call s) (bytes s) as_answered [] c.if-bytes-ne-NODE_SIZE.false
    (slot_refuses _ _ (node s) c.if-payload-gt-MAX_LEN.false _ h.0 no_slot h.1 _ refl said.1) refl
    (refuses_with _ _ c.from_residual-in_err-check_request.ensures.1 said) refl in
    record { answer = t.0; leaves = t.1.1 }

pub put_parts-requires : goal.put_parts-requires
put_parts-requires c = (c.if-bytes-ne-NODE_SIZE.false, omega (arith, here (goal.at.put_parts-requires c).In_ok-i, decoded_length c.args.bytes.now))

pub returns : goal.returns
returns c =
    let s = (goal.at.returns c).Start in
    let h = here (goal.at.returns c).In_ok-i in
    let slot_of_node = c.slot_at-slot.ensures ∙ sym (decoded_slot (bytes s) c.in_ok-i.i no_slot (omega (arith, h, decoded_length (bytes s)))) in
    let said = was_done _ _ (rw slot_of_node at c.in_ok-check_request.ensures) in
    let made = rw (slot_of_node, c.counter_of.ensures ∙ sym (decoded_counter (bytes s))) at c.requested-requested.ensures in
    let old = slot_at (bytes s) c.in_ok-i.i in
    let differs : DiffersInParts old c.requested-requested.result = rw (c.requested-requested.ensures, c.slot_at-slot.ensures) (requested_differs _ _ old) in
    let left = c.put_parts.ensures.1 ∙ ap (λ (x : Slot). with_slot c.in_ok-i.i x (node s)) differs in
    let t = slot_put (call s) (bytes s) as_answered [] c.if-bytes-ne-NODE_SIZE.false
    (request_taken _ _ (node s) c.if-payload-gt-MAX_LEN.false _ h.0 no_slot h.1 _ refl _ said.1 made) refl refl refl _ _
    (c.put_parts.ensures.0, left) refl in
    record { answer = t.0; leaves = t.1.1 }
