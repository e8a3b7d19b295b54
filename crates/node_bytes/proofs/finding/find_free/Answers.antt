-- `find_free` meets its contract: what `find` says of the slots that it tests is what `position` means.
use Rattle.std.proofs.Common.{rules, tests}
use Rattle.std.proofs.lemmas.Iterator.{first_from_Range}
use Rattle.node.specs.Slots.{is_free}
use Rattle.node_bytes.proofs.Searching.{Passes, Fails, searched}
use Rattle.node_bytes.proofs.finding.find_free.Goals as goal

pub returns : goal.returns
returns c =
    let bytes = c.args.bytes.now in
    searched is_free bytes _
    (first_from_Range _ _ _ _ (Passes is_free bytes) (Fails is_free bytes)
    c.find.ensures.ran (λ x q k. search (rules, tests)) (λ x q k. search (rules, tests)))
