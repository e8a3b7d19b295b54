-- `hear` meets its contract: each return cites the way through the definition, of the node that the bytes are.
use Rattle.std.proofs.Common.{◌≡◌, ℕ, ◌<◌, List, length, refl, sym, ap, ◌∙◌, arith}
use Rattle.wire.specs.Identifiers.{stream_of, code_of}
use Rattle.wire.specs.Frames.{is_bare}
use Rattle.wire.proofs.Frames.{IsFrame}
use Rattle.node.specs.declared.slots.Slot.{Slot}
use Rattle.node.specs.declared.Node.{Node}
use Rattle.node.specs.Slots.{is_of}
use Rattle.node.specs.Nodes.{as_heard}
use Rattle.node.specs.Hear.{delivered_at_once}
use Rattle.node.specs.Calls.{Call}
use Rattle.node.proofs.Answering.{was_refused, was_done, was_missed, was_found, hands_on, refuses_with}
use Rattle.node.proofs.slots.Finding.{no_slot, index_of, place_found, place_missed}
use Rattle.node.proofs.hear.Ways.{frame_whole, fits_at_once, short_output, no_frame_law, a_frame, no_slot_law, slot_refuses, heard, is_split, parts_are}
use Rattle.node_bytes.specs.Decoding.{slot_at, decode}
use Rattle.node_bytes.specs.Lent.{with_slot}
use Rattle.node_bytes.proofs.ByIndex.{decoded_slot, decoded_length, decoded_counter}
use Rattle.node_bytes.proofs.PartsStored.{DiffersInParts, heard_differs}
use Rattle.node_bytes.proofs.Calling.{not_a_node, call_refused, slot_put}
use Rattle.node_bytes.proofs.hear.hear.Goals as goal
use Rattle.node_bytes.proofs.hear.hear.Goals.{Start, In_ok-check_frame, In_ok-i, After-slot_at-slot}

-- ── the call ──
module _ (s : Start) where
  abbrev bytes : List ℕ
  bytes = s.args.bytes.now

  abbrev payload : List ℕ
  payload = s.args.payload.now

  abbrev output : List ℕ
  output = s.args.out.now

  abbrev node : Node
  node = decode bytes

  abbrev call : Call
  call = Call.hear s.args.id s.args.dlc payload output

pub returns-then-bytes-ne-NODE_SIZE : goal.returns-then-bytes-ne-NODE_SIZE
returns-then-bytes-ne-NODE_SIZE c =
    let s = (goal.at.returns-then-bytes-ne-NODE_SIZE c).Start in
    let t = not_a_node (call s) (bytes s) as_heard (output s) c.if-bytes-ne-NODE_SIZE.true in
    record { answer = t.0; output = t.1.0; leaves = t.1.1 }

pub returns-then-out-lt-HEAR_ROOM : goal.returns-then-out-lt-HEAR_ROOM
returns-then-out-lt-HEAR_ROOM c =
    let s = (goal.at.returns-then-out-lt-HEAR_ROOM c).Start in
    let t = call_refused (call s) (bytes s) as_heard (output s) c.if-bytes-ne-NODE_SIZE.false
    (short_output _ _ _ _ (node s) c.if-out-lt-HEAR_ROOM.true) refl refl refl in
    record { answer = t.0; output = t.1.0; leaves = t.1.1 }

pub returns-in_err-check_frame : goal.returns-in_err-check_frame
returns-in_err-check_frame c =
    let s = (goal.at.returns-in_err-check_frame c).Start in
    let said = was_refused _ _ (rw c.is_bare.ensures at c.in_err-check_frame.ensures) in
    let t = call_refused (call s) (bytes s) as_heard (output s) c.if-bytes-ne-NODE_SIZE.false
    (no_frame_law _ _ _ _ (node s) c.if-out-lt-HEAR_ROOM.false _ refl said.1) refl (refuses_with _ _ c.from_residual.ensures.1 said) refl in
    record { answer = t.0; output = t.1.0; leaves = t.1.1 }

-- ── a node, and a frame ──
good : (c : In_ok-check_frame) → IsFrame (is_bare c.args.id) c.args.id c.args.dlc (length c.args.payload.now)
good c =
    let a = c.args in
    a_frame a.id a.dlc a.payload.now a.out.now (decode a.bytes.now) c.if-out-lt-HEAR_ROOM.false _ refl
    (was_done _ _ (rw c.is_bare.ensures at c.in_ok-check_frame.ensures)).1

-- its split is never refused
pub returns-in_err-stream : goal.returns-in_err-stream
returns-in_err-stream c = is_split _ _ _ _ (good (goal.at.returns-in_err-stream c).In_ok-check_frame) c.in_err-stream.ensures

pub returns-in_err-i : goal.returns-in_err-i
returns-in_err-i c =
    let s = (goal.at.returns-in_err-i c).Start in
    let frame = good (goal.at.returns-in_err-i c).In_ok-check_frame in
    let parts = parts_are _ _ _ _ frame c.in_ok-stream.ensures in
    let missed = was_missed _ _ c.in_err-i.ensures.value in
    let none = place_missed (is_of (stream_of s.args.id)) (node s).slots (rw parts.0 at c.find.ensures) missed.1 in
    let t = call_refused (call s) (bytes s) as_heard (output s) c.if-bytes-ne-NODE_SIZE.false
    (no_slot_law _ _ _ _ (node s) c.if-out-lt-HEAR_ROOM.false frame _ refl none) refl (hands_on _ c.from_residual-in_err-i.ensures.1 missed.0) refl in
    record { answer = t.0; output = t.1.0; leaves = t.1.1 }

-- ── the slot of its stream ──
here : (c : In_ok-i) → (c.in_ok-i.i ≡ index_of (is_of (stream_of c.before.args.id)) (decode c.before.args.bytes.now).slots)
    × (c.in_ok-i.i < length (decode c.before.args.bytes.now).slots)
here c =
    let parts = parts_are _ _ _ _ (good (goal.at.In_ok-i c).In_ok-check_frame) c.before.in_ok-stream.ensures in
    place_found _ _ (rw parts.0 at c.before.find.ensures) (was_found _ _ c.in_ok-i.ensures.value)

pub slot_at-slot-requires : goal.slot_at-slot-requires
slot_at-slot-requires c = (c.if-bytes-ne-NODE_SIZE.false, omega (arith, here c, decoded_length c.args.bytes.now))

pub returns-in_err-check_hear : goal.returns-in_err-check_hear
returns-in_err-check_hear c =
    let s = (goal.at.returns-in_err-check_hear c).Start in
    let frame = good (goal.at.returns-in_err-check_hear c).In_ok-check_frame in
    let parts = parts_are _ _ _ _ frame c.in_ok-stream.ensures in
    let h = here (goal.at.returns-in_err-check_hear c).In_ok-i in
    let slot_of_node = c.slot_at-slot.ensures ∙ sym (decoded_slot (bytes s) c.in_ok-i.i no_slot (omega (arith, h, decoded_length (bytes s)))) in
    let said = was_refused _ _ (rw (parts.1, slot_of_node) at c.in_err-check_hear.ensures) in
    let t = call_refused (call s) (bytes s) as_heard (output s) c.if-bytes-ne-NODE_SIZE.false
    (slot_refuses _ _ _ _ (node s) c.if-out-lt-HEAR_ROOM.false frame _ h.0 no_slot h.1 _ refl said.1) refl
    (refuses_with _ _ c.from_residual-in_err-check_hear.ensures.1 said) refl in
    record { answer = t.0; output = t.1.0; leaves = t.1.1 }

pub put_parts-requires : goal.put_parts-requires
put_parts-requires c = (c.if-bytes-ne-NODE_SIZE.false, omega (arith, here (goal.at.put_parts-requires c).In_ok-i, decoded_length c.args.bytes.now))

-- ── it hears ──
pub returns : goal.returns
unfolding delivered_at_once
returns c =
    let s = (goal.at.returns c).Start in
    let room = c.if-out-lt-HEAR_ROOM.false in
    let frame = good (goal.at.returns c).In_ok-check_frame in
    let parts = parts_are _ _ _ _ frame c.in_ok-stream.ensures in
    let h = here (goal.at.returns c).In_ok-i in
    let slot_of_node = c.slot_at-slot.ensures ∙ sym (decoded_slot (bytes s) c.in_ok-i.i no_slot (omega (arith, h, decoded_length (bytes s)))) in
    let said = was_done _ _ (rw (parts.1, slot_of_node) at c.in_ok-check_hear.ensures) in
    let told = rw (parts.1, slot_of_node) at c.told-told.ensures in
    let changed = rw (parts.1, slot_of_node, c.counter_of.ensures ∙ sym (decoded_counter (bytes s))) at c.hear-heard.ensures in
    let whole = frame_whole (is_bare s.args.id) s.args.id s.args.dlc (payload s) frame in
    let fits = fits_at_once (stream_of s.args.id) (code_of s.args.id) (payload s) (output s) room in
    let counted = rw (parts.0, parts.1, fits, whole) at c.deliver_plain-written.ensures.answer in
    let written = rw (parts.0, parts.1, fits, whole) at c.deliver_plain-written.ensures.output in
    let old = slot_at (bytes s) c.in_ok-i.i in
    let differs : DiffersInParts old c.hear-heard.result = rw (c.hear-heard.ensures, c.slot_at-slot.ensures) (heard_differs _ _ _ old) in
    let left = c.put_parts.ensures.1 ∙ ap (λ (x : Slot). with_slot c.in_ok-i.i x (node s)) differs in
    let t = slot_put (call s) (bytes s) as_heard (output s) c.if-bytes-ne-NODE_SIZE.false
    (heard _ _ _ _ (node s) room frame _ h.0 no_slot h.1 _ refl said.1 changed) refl (rw (counted, told)) written _ _
    (c.put_parts.ensures.0, left) refl in
    record { answer = t.0; output = t.1.0; leaves = t.1.1 }
