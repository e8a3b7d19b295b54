-- `kosmydore_split_stream` meets its contract: a part of the split, or 0.
use Rattle.firmware.proofs.Refusals.{split_or}
use Rattle.firmware.proofs.kosmydore_split_stream.Goals as goal

pub returns : goal.returns
returns c = rw (c.unwrap_or.ensures, c.split.ensures, split_or (record { 0 = c.args.id }))
