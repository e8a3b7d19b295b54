-- `kosmydore_split_code` meets its contract: a part of the split, or 0.
use Rattle.firmware.proofs.Refusals.{split_or}
use Rattle.firmware.proofs.kosmydore_split_code.Goals as goal

pub returns : goal.returns
returns c = rw (c.unwrap_or-code.ensures, c.split.ensures, split_or (record { 0 = c.args.id }))
