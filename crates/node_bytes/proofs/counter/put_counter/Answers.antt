-- `put_counter` meets its contract: two bytes are stored, and what they do to the node.
use borrow.Author.Rules.{rules}
use mathlib.Core.Path.{ap, ◌∙◌}
use Rattle.node_bytes.specs.Widths.{Fits16}
use Rattle.node_bytes.specs.Decoding.{decode}
use Rattle.node_bytes.proofs.Stored.{decode_counted}
use Rattle.node_bytes.proofs.counter.put_counter.Goals as goal
use Rattle.node_bytes.proofs.counter.put_counter.Goals.{Start}

fits : (c : Start) → Fits16 c.args.counter
fits c = search rules

pub returns : goal.returns
returns c =
    let a = c.args in
    let written = c.put_two.ensures in
    (written, ap decode written ∙ decode_counted a.bytes.now a.counter c.requires (fits (goal.at.returns c).Start))
