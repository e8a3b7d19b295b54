-- `count_in`: the count of the number goes up by one, unless it is at the most.
use Rattle.std.proofs.Common.{rules, ◌≤◌, get_or, sym, ◌∙◌}
use Rattle.module.specs.Tallies.{most}
use Rattle.module.proofs.Places.{found_place, raised_in}
use Rattle.module.proofs.tally.count_in.Goals as goal

pub returns-clause-counts : goal.returns-clause-counts
returns-clause-counts c =
    let (there, inside) = found_place c.args.number (sym c.place_of.ensures ∙ c.in-Some.is) in
    let small : get_or c.args.counts.now c.in-Some.i 0 ≤ most = search rules in
    rw (c.saturating_add.ensures, there) (raised_in c.args.number c.args.counts.now c.if-counts-ne-SIZE.false inside (rw there at small))
