-- `kosmydore_module_hear` meets its contract: the number of the reply, and the values of the outcome.
use Rattle.std.proofs.Common.{ℕ, ◌≡◌, ap, ◌∙◌}
use Rattle.node.specs.Calls.{Call}
use Rattle.node_bytes.specs.LentCalls.{lent_outcome}
use Rattle.firmware.proofs.LentAnswering.{lent_heard_so}
use Rattle.firmware.proofs.Answering.{lent_call_says, heard_values}
use Rattle.firmware.proofs.lent.kosmydore_module_hear.Goals as goal

pub returns-clause-answer : goal.returns-clause-answer
returns-clause-answer c =
    let a = c.args in
    let call : ℕ → Call = λ dlc. Call.hear (record { 0 = a.id }) dlc a.payload.now a.out.now in
    let judged : lent_outcome (call c.dlc_of.result) a.bytes.now ≡ lent_outcome (call a.dlc) a.bytes.now =
    ap (λ (d : ℕ). lent_outcome (call d) a.bytes.now) c.dlc_of.ensures ∙ lent_heard_so _ a.dlc a.payload.now a.out.now a.bytes.now in
    let says =
    lent_call_says heard_values (call a.dlc) a.bytes.now (rw judged at c.hear-answer.ensures.answer)
    c.counted-reply.ensures.0 c.unwrap_or-heard.ensures in
    rw (c.number.ensures, says.0, says.1)
