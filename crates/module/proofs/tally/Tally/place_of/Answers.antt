-- `Tally::place_of`: the numbers that are counted are two runs.
use Rattle.std.proofs.Common.{◌-◌, inl, inr, lt-ltb, arith}
use Rattle.module.proofs.Places.{in_first, in_second, in_none}
use Rattle.module.proofs.tally.Tally.place_of.Goals as goal

pub returns-then-number-le-FIRST_END : goal.returns-then-number-le-FIRST_END
returns-then-number-le-FIRST_END c = rw (in_first c.args.number (omega arith), lt-ltb c.args.number 17 (omega arith))

pub returns-then-number : goal.returns-then-number
returns-then-number c = rw (in_none c.args.number (omega arith) (inl (omega arith)))

pub returns-then-i-lt-SIZE : goal.returns-then-i-lt-SIZE
returns-then-i-lt-SIZE c = rw (in_second c.args.number (omega arith) (omega arith), lt-ltb (c.args.number - 5) 17 (omega arith))

pub returns : goal.returns
returns c = rw (in_none c.args.number (omega arith) (inr (omega arith)))
