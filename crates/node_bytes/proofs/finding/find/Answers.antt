-- `find` meets its contract: what `find` says of the slots that it tests is what `position` means.
use Rattle.std.proofs.Common.{rules, tests}
use Rattle.std.proofs.lemmas.Iterator.{first_from_Range}
use Rattle.node.specs.Slots.{is_of}
use Rattle.node_bytes.proofs.Searching.{Passes, Fails, searched}
use Rattle.node_bytes.proofs.finding.find.Goals as goal

pub returns : goal.returns
returns c =
    let bytes = c.args.bytes.now in
    searched (is_of c.args.stream) bytes _
    (first_from_Range _ _ _ _ (Passes (is_of c.args.stream) bytes) (Fails (is_of c.args.stream) bytes)
    c.find.ensures.ran (λ x q k. search (rules, tests)) (λ x q k. search (rules, tests)))
