-- `quiet` meets its contract: the slots are gone through from the last one up.
use Rattle.std.proofs.Common.{◌≡◌, ◌∙◌, rules}
use Rattle.std.specs.Prelude.{reverse}
use Rattle.std.specs.List.{fold}
use Rattle.node.specs.Clock.{rolled}
use Rattle.playback.specs.Quiet.{with_slot}
use Rattle.playback.proofs.Ways.{quiet_from_the_last}
use Rattle.playback.proofs.quiet.quiet.Goals as goal

pub returns : goal.returns
returns c =
    let n = c.args.node.now in
    let e : c.fold.result ≡ fold (λ others x. with_slot rolled n.counter x others) c.args.most (reverse n.slots) = search rules in
    e ∙ quiet_from_the_last rolled n.counter c.args.most n.slots
