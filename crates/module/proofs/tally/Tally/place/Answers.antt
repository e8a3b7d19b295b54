-- `Tally::place`: each reply has a place.
use Rattle.std.proofs.Common.{◌≡◌, Some, ap, ◌∙◌}
use Rattle.module.specs.Tallies.{place_in_tally, place_of}
use Rattle.module.proofs.Places.{has_place, has_one}
use Rattle.module.proofs.tally.Tally.place.Goals as goal

pub unwrap-requires : goal.unwrap-requires
unwrap-requires c =
    let e : c.place_of.result ≡ Some (place_of c.args.reply) = c.place_of.ensures ∙ ap place_in_tally c.number.ensures ∙ has_one _ (has_place c.args.reply) in
    rw e
