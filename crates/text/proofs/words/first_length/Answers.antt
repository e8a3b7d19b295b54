-- `text::words::first_length` meets its contract.
use Rattle.std.proofs.Common.{◌∙◌}
use Rattle.text.proofs.WordLaws.{found_or_length, index_le}
use Rattle.text.proofs.words.first_length.Goals as goal

pub returns : goal.returns
returns c =
    let s = c.args.words.now in
    let e = c.unwrap_or.ensures ∙ found_or_length 32 s c.first.result c.first.ensures in
    record { value = e; within = rw e (index_le 32 s) }
