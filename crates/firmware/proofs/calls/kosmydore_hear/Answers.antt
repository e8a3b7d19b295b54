-- `kosmydore_hear` meets its contract: the number of the reply, and the values of the outcome.
use Rattle.std.proofs.Common.{ℕ, ◌≡◌, ap, ◌∙◌}
use Rattle.node.specs.Clock.{rolled}
use Rattle.node.specs.Calls.{Call, outcome}
use Rattle.firmware.proofs.Judging.{heard_so}
use Rattle.firmware.proofs.Answering.{call_says, heard_values}
use Rattle.firmware.proofs.calls.kosmydore_hear.Goals as goal

pub returns : goal.returns
returns c =
    let a = c.args in
    let call : ℕ → Call = λ dlc. Call.hear (record { 0 = a.id }) dlc a.payload.now a.out.now in
    let judged : outcome rolled (call c.dlc_of.result) a.node ≡ outcome rolled (call a.dlc) a.node =
    ap (λ (d : ℕ). outcome rolled (call d) a.node) c.dlc_of.ensures ∙ heard_so _ a.dlc a.payload.now a.out.now a.node in
    let (heard, left, written) = rw judged at c.hear-answer.ensures.exact in
    let says = call_says heard_values (call a.dlc) a.node heard c.number_of-reply.ensures c.unwrap_or-heard.ensures in
    (rw (c.number.ensures, left, says.0, says.1), written)
