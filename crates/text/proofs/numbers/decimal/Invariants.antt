-- `text::numbers::decimal` meets its contract. The invariant: a number is read, and the rest of the word decides.
use Rattle.text.proofs.NumberLaws.{Reading}
use Rattle.text.proofs.numbers.decimal.Given as goal

abbrev pub invariant-loop-b : goal.invariant-loop-b
invariant-loop-b l = Reading l.limit l.word l.value l.b-index
