-- `Node::request` meets its contract: each return cites the way through the definition.
use Rattle.std.proofs.Common.{refl}
use Rattle.node.specs.Slots.{is_of}
use Rattle.node.specs.Nodes.{as_answered}
use Rattle.node.specs.Calls.{Call}
use Rattle.node.proofs.Answering.{was_refused, was_done, was_missed, was_found, hands_on, refuses_with}
use Rattle.node.proofs.slots.Finding.{no_slot, place_found, place_missed}
use Rattle.node.proofs.rollover.Promises.{promised}
use Rattle.node.proofs.request.Ways.{too_long, no_slot_law, slot_refuses, request_taken}
use Rattle.node.proofs.Node.request.Goals as goal

pub returns-then-payload-gt-MAX_LEN : goal.returns-then-payload-gt-MAX_LEN
returns-then-payload-gt-MAX_LEN c =
    let a = c.args in
    let p = promised (Call.request a.stream a.payload.now) a.self.now as_answered (too_long _ _ _ c.if-payload-gt-MAX_LEN.true) (refl, refl) in
    record { exact = p.0; unbounded = p.1 }

pub returns-in_err-i : goal.returns-in_err-i
returns-in_err-i c =
    let a = c.args in
    let missed = was_missed _ _ c.in_err-i.ensures.value in
    let none = place_missed (is_of a.stream) a.self.now.slots c.place_of.ensures missed.1 in
    let p = promised (Call.request a.stream a.payload.now) a.self.now as_answered
    (no_slot_law _ _ _ c.if-payload-gt-MAX_LEN.false _ refl none)
    (hands_on _ c.from_residual.ensures.1 missed.0, refl) in
    record { exact = p.0; unbounded = p.1 }

pub returns-in_err-check_request : goal.returns-in_err-check_request
returns-in_err-check_request c =
    let a = c.args in
    let here = place_found (is_of a.stream) a.self.now.slots c.place_of.ensures (was_found _ _ c.in_ok-i.ensures.value) in
    let said = was_refused _ _ c.in_err-check_request.ensures in
    let p = promised (Call.request a.stream a.payload.now) a.self.now as_answered
    (slot_refuses _ _ _ c.if-payload-gt-MAX_LEN.false _ here.0 no_slot here.1 _ refl said.1)
    (refuses_with _ _ c.from_residual-in_err-check_request.ensures.1 said, refl) in
    record { exact = p.0; unbounded = p.1 }

pub returns : goal.returns
returns c =
    let a = c.args in
    let here = place_found (is_of a.stream) a.self.now.slots c.place_of.ensures (was_found _ _ c.in_ok-i.ensures.value) in
    let said = was_done _ _ c.in_ok-check_request.ensures in
    let p = promised (Call.request a.stream a.payload.now) a.self.now as_answered
    (request_taken _ _ _ c.if-payload-gt-MAX_LEN.false _ here.0 no_slot here.1 _ refl _ said.1 c.requested.ensures)
    (refl, refl) in
    record { exact = p.0; unbounded = p.1 }
