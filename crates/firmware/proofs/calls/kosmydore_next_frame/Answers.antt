-- `kosmydore_next_frame` meets its contract: the number of the reply, and the values of the outcome.
use Rattle.node.specs.Calls.{Call}
use Rattle.firmware.proofs.Answering.{call_says, given_values}
use Rattle.firmware.proofs.calls.kosmydore_next_frame.Goals as goal

pub returns : goal.returns
returns c =
    let (_, left, written) = c.next_frame-answer.ensures.exact in
    let says =
    call_says given_values (Call.next_frame c.args.out.now) c.args.node c.next_frame-answer.ensures.exact.0
    c.number_of-reply.ensures c.unwrap_or-given.ensures in
    (rw (left, says.0, says.1), written)
