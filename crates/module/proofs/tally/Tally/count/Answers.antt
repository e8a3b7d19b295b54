-- `Tally::count`: the count of the reply goes up by one, unless it is at the most.
use Rattle.std.proofs.Common.{rules, ◌≤◌, get_or}
use Rattle.module.specs.Tallies.{most}
use Rattle.module.proofs.Places.{raised_tally}
use Rattle.module.proofs.tally.Tally.count.Goals as goal

pub returns : goal.returns
returns c =
    let small : get_or c.args.self.now.counts c.place-i.result 0 ≤ most = search rules in
    rw (c.saturating_add.ensures, c.place-i.ensures) (raised_tally c.args.self.now c.args.reply (rw c.place-i.ensures at small))
