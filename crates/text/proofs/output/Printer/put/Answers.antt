-- `text::output::Printer::put` meets its contract.
use Rattle.text.proofs.OutputLaws.{put_there, put_past}
use Rattle.text.proofs.output.Printer.put.Goals as goal

pub returns-then-text-le-FREE : goal.returns-then-text-le-FREE
returns-then-text-le-FREE c = put_there c.make_room.ensures.buffer c.make_room.ensures.at c.if-text-le-FREE.true c.place.ensures

pub returns-else-text-le-FREE : goal.returns-else-text-le-FREE
returns-else-text-le-FREE c = put_past c.flush.ensures.buffer c.if-text-le-FREE.false c.flush.ensures.at
