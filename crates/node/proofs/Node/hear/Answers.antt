-- `Node::hear` meets its contract: each return cites the way through the definition.
use Rattle.std.proofs.Common.{length, refl}
use Rattle.wire.specs.Identifiers.{stream_of, code_of}
use Rattle.wire.specs.Frames.{is_bare}
use Rattle.wire.proofs.Frames.{IsFrame}
use Rattle.node.specs.Slots.{is_of}
use Rattle.node.specs.Nodes.{as_heard}
use Rattle.node.specs.Hear.{delivered_at_once}
use Rattle.node.specs.Calls.{Call}
use Rattle.node.proofs.Answering.{was_refused, was_done, was_missed, was_found, hands_on, refuses_with}
use Rattle.node.proofs.slots.Finding.{no_slot, place_found, place_missed}
use Rattle.node.proofs.rollover.Promises.{promised_written}
use Rattle.node.proofs.hear.Ways.{frame_whole, fits_at_once, short_output, no_frame_law, a_frame, no_slot_law, slot_refuses, heard, is_split, parts_are}
use Rattle.node.proofs.Node.hear.Goals as goal
use Rattle.node.proofs.Node.hear.Goals.{In_ok-check_frame}

pub returns-then-out-lt-HEAR_ROOM : goal.returns-then-out-lt-HEAR_ROOM
returns-then-out-lt-HEAR_ROOM c =
    let a = c.args in
    let p = promised_written (Call.hear a.id a.dlc a.payload.now a.out.now) a.self.now as_heard a.out.now
    (short_output _ _ _ _ _ c.if-out-lt-HEAR_ROOM.true) (refl, refl, refl) in
    record { exact = p.0; unbounded = p.1 }

pub returns-in_err-check_frame : goal.returns-in_err-check_frame
returns-in_err-check_frame c =
    let a = c.args in
    let said = was_refused _ _ (rw c.is_bare.ensures at c.in_err-check_frame.ensures) in
    let p = promised_written (Call.hear a.id a.dlc a.payload.now a.out.now) a.self.now as_heard a.out.now
    (no_frame_law _ _ _ _ _ c.if-out-lt-HEAR_ROOM.false _ refl said.1)
    (refuses_with _ _ c.from_residual.ensures.1 said, refl, refl) in
    record { exact = p.0; unbounded = p.1 }

-- ── a frame ──
good : (c : In_ok-check_frame) → IsFrame (is_bare c.args.id) c.args.id c.args.dlc (length c.args.payload.now)
good c =
    let said = was_done _ _ (rw c.is_bare.ensures at c.in_ok-check_frame.ensures) in
    a_frame c.args.id c.args.dlc c.args.payload.now c.args.out.now c.args.self.now c.if-out-lt-HEAR_ROOM.false _ refl said.1

-- its split is never refused
pub returns-in_err-stream : goal.returns-in_err-stream
returns-in_err-stream c = is_split _ _ _ _ (good (goal.at.returns-in_err-stream c).In_ok-check_frame) c.in_err-stream.ensures

pub returns-in_err-i : goal.returns-in_err-i
returns-in_err-i c =
    let a = c.args in
    let frame = good (goal.at.returns-in_err-i c).In_ok-check_frame in
    let parts = parts_are _ _ _ _ frame c.in_ok-stream.ensures in
    let missed = was_missed _ _ c.in_err-i.ensures.value in
    let none = place_missed (is_of (stream_of a.id)) a.self.now.slots (rw parts.0 at c.place_of.ensures) missed.1 in
    let p = promised_written (Call.hear a.id a.dlc a.payload.now a.out.now) a.self.now as_heard a.out.now
    (no_slot_law _ _ _ _ _ c.if-out-lt-HEAR_ROOM.false frame _ refl none)
    (hands_on _ c.from_residual-in_err-i.ensures.1 missed.0, refl, refl) in
    record { exact = p.0; unbounded = p.1 }

-- ── the slot of its stream ──
pub returns-in_err-check_hear : goal.returns-in_err-check_hear
returns-in_err-check_hear c =
    let a = c.args in
    let frame = good (goal.at.returns-in_err-check_hear c).In_ok-check_frame in
    let parts = parts_are _ _ _ _ frame c.in_ok-stream.ensures in
    let here = place_found (is_of (stream_of a.id)) a.self.now.slots (rw parts.0 at c.place_of.ensures) (was_found _ _ c.in_ok-i.ensures.value) in
    let said = was_refused _ _ (rw parts.1 at c.in_err-check_hear.ensures) in
    let p = promised_written (Call.hear a.id a.dlc a.payload.now a.out.now) a.self.now as_heard a.out.now
    (slot_refuses _ _ _ _ _ c.if-out-lt-HEAR_ROOM.false frame _ here.0 no_slot here.1 _ refl said.1)
    (refuses_with _ _ c.from_residual-in_err-check_hear.ensures.1 said, refl, refl) in
    record { exact = p.0; unbounded = p.1 }

pub returns : goal.returns
unfolding delivered_at_once
returns c =
    let a = c.args in
    let room = c.if-out-lt-HEAR_ROOM.false in
    let frame = good (goal.at.returns c).In_ok-check_frame in
    let parts = parts_are _ _ _ _ frame c.in_ok-stream.ensures in
    let here = place_found (is_of (stream_of a.id)) a.self.now.slots (rw parts.0 at c.place_of.ensures) (was_found _ _ c.in_ok-i.ensures.value) in
    let said = was_done _ _ (rw parts.1 at c.in_ok-check_hear.ensures) in
    let changed = rw parts.1 at c.hear.ensures in
    let told = rw parts.1 at c.told-told.ensures in
    let whole = frame_whole (is_bare a.id) a.id a.dlc a.payload.now frame in
    let fits = fits_at_once (stream_of a.id) (code_of a.id) a.payload.now a.out.now room in
    let counted = rw (parts.0, parts.1, fits, whole) at c.deliver_plain-written.ensures.answer in
    let written = rw (parts.0, parts.1, fits, whole) at c.deliver_plain-written.ensures.output in
    let p = promised_written (Call.hear a.id a.dlc a.payload.now a.out.now) a.self.now as_heard a.out.now
    (heard _ _ _ _ _ room frame _ here.0 no_slot here.1 _ refl said.1 changed)
    (rw (counted, told), refl, written) in
    record { exact = p.0; unbounded = p.1 }
