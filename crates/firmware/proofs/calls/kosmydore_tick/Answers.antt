-- `kosmydore_tick` meets its contract: the number of the reply, and the values of the outcome.
use Rattle.node.specs.Calls.{Call}
use Rattle.firmware.proofs.Answering.{call_says, ticked_values}
use Rattle.firmware.proofs.calls.kosmydore_tick.Goals as goal

pub returns : goal.returns
returns c =
    let (_, left, written) = c.tick-answer.ensures.exact in
    let says =
    call_says ticked_values (Call.tick c.args.out.now) c.args.node c.tick-answer.ensures.exact.0
    c.number_of-reply.ensures c.unwrap_or-ticked.ensures in
    (rw (left, says.0, says.1), written)
