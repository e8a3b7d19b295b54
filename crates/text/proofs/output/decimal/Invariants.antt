-- `text::output::decimal` meets its contract. The invariant: the digits of n are those of rest and then those that are written.
use Rattle.text.proofs.NumberLaws.{Written}
use Rattle.text.proofs.output.decimal.Given as goal

abbrev pub invariant-loop-rest : goal.invariant-loop-rest
invariant-loop-rest l = Written l.n l.at l.rest l.digits

abbrev pub decreases-loop-rest : goal.decreases-loop-rest
decreases-loop-rest l = l.rest
