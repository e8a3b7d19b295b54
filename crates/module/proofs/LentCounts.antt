-- A reply counted in lent counts is counted as in a tally.
use mathlib.Core.Path.{◌≡◌, refl}
use mathlib.Core.Bool.{Bool, true, false, cond}
use Prim.Native.Nat.{◌+◌}
use lib.ListN.{set}
use lib.Dec.{ltb}
use borrow.Author.Tests.{lt-ltb, eq-eqb}
use Rattle.wire.specs.Replies.{number_of}
use Rattle.module.specs.declared.tally.Tally.{Tally}
use Rattle.module.specs.Tallies.{counted, position, most, count_of, tallied, counted_in, CountedAsTally}
use Rattle.module.proofs.Places.{has_place}

pub counted_as_tally : CountedAsTally
unfolding counted_in tallied
counted_as_tally t r same = rw (eq-eqb _ _ same, lt-ltb _ _ (has_place r)) (go (ltb (count_of r t) most))
  where
    go : (b : Bool) → cond b (set t.counts (position (number_of r) counted) (count_of r t + 1)) t.counts
        ≡ (cond {A = Tally} b (record { counts = set t.counts (position (number_of r) counted) (count_of r t + 1) }) t).counts
    go true = refl
    go false = refl
