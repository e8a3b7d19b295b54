-- `kosmydore_module_tick` meets its contract: the number of the reply, and the values of the outcome.
use Rattle.node.specs.Calls.{Call}
use Rattle.firmware.proofs.Answering.{lent_call_says, ticked_values}
use Rattle.firmware.proofs.lent.kosmydore_module_tick.Goals as goal

pub returns-clause-answer : goal.returns-clause-answer
returns-clause-answer c =
    let says =
    lent_call_says ticked_values (Call.tick c.args.out.now) c.args.bytes.now c.tick-answer.ensures.answer
    c.counted-reply.ensures.0 c.unwrap_or-ticked.ensures in
    rw (says.0, says.1)
