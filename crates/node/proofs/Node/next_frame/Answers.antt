-- `Node::next_frame` meets its contract: each return cites the way through the definition.
use Rattle.std.proofs.Common.{refl, ap}
use Rattle.wire.specs.Answers.{is_done}
use Rattle.node.specs.Nodes.{as_given}
use Rattle.node.specs.NextFrame.{has_frame}
use Rattle.node.specs.Calls.{Call}
use Rattle.node.proofs.Choices.{contrary}
use Rattle.node.proofs.Answering.{was_refused, was_done, was_missed, was_found, hands_on}
use Rattle.node.proofs.slots.Finding.{no_slot, place_found, place_missed}
use Rattle.node.proofs.rollover.Promises.{promised_written}
use Rattle.node.proofs.next_frame.Ways.{short_output, none_pending, joins, frame_given, payload_fits}
use Rattle.node.proofs.Node.next_frame.Goals as goal

pub returns-then-out-lt-NEXT_ROOM : goal.returns-then-out-lt-NEXT_ROOM
returns-then-out-lt-NEXT_ROOM c =
    let a = c.args in
    let p = promised_written (Call.next_frame a.out.now) a.self.now as_given a.out.now (short_output _ _ c.if-out-lt-NEXT_ROOM.true) (refl, refl, refl) in
    record { exact = p.0; unbounded = p.1 }

pub returns-in_err-i : goal.returns-in_err-i
returns-in_err-i c =
    let a = c.args in
    let missed = was_missed _ _ c.in_err-i.ensures.value in
    let none = place_missed has_frame a.self.now.slots c.place_of_frame.ensures missed.1 in
    let p = promised_written (Call.next_frame a.out.now) a.self.now as_given a.out.now
    (none_pending _ _ c.if-out-lt-NEXT_ROOM.false _ refl none)
    (hands_on _ c.from_residual.ensures.1 missed.0, refl, refl) in
    record { exact = p.0; unbounded = p.1 }

-- the identifier is never refused
pub returns-in_err-id : goal.returns-in_err-id
returns-in_err-id c =
    let a = c.args in
    let here = place_found has_frame a.self.now.slots c.place_of_frame.ensures (was_found _ _ c.in_ok-i.ensures.value) in
    let said = was_refused _ _ c.in_err-id.ensures in
    contrary (ap is_done (joins a.out.now a.self.now c.if-out-lt-NEXT_ROOM.false _ here.0 here.1 no_slot _ c.lowest_code-code.ensures)) said.1

pub returns : goal.returns
returns c =
    let a = c.args in
    let here = place_found has_frame a.self.now.slots c.place_of_frame.ensures (was_found _ _ c.in_ok-i.ensures.value) in
    let room = c.if-out-lt-NEXT_ROOM.false in
    let code = c.lowest_code-code.ensures in
    let id = (was_done _ _ c.in_ok-id.ensures).0 in
    let gave = c.give_payload-len.ensures in
    let fits = payload_fits a.out.now a.self.now room _ here.0 here.1 no_slot _ code gave.short in
    let p = promised_written (Call.next_frame a.out.now) a.self.now as_given a.out.now
    (frame_given _ _ room _ here.0 here.1 no_slot _ code _ _ id c.given_out.ensures)
    (rw (gave.answer, fits) refl, refl, rw fits at gave.output) in
    record { exact = p.0; unbounded = p.1 }
