-- `text::words::Words::word` meets its contract.
use Rattle.std.proofs.Common.{ap}
use Rattle.text.proofs.WordLaws.{word_found, next_found}
use Rattle.text.proofs.words.Words.word.Goals as goal

pub returns-clause-value : goal.returns-clause-value
returns-clause-value c =
    let s = c.self.inside in
    rw (← c.self.view_is) (word_found s.line.now s.at _ _ c.min-start.ensures c.first_length-len.ensures.value)

pub returns-clause-moved : goal.returns-clause-moved
returns-clause-moved c =
    let s = c.self.inside in
    let e = next_found s.line.now s.at _ _ c.min-start.ensures c.first_length-len.ensures.value in
    rw (← c.self.view_is) (ap (λ n. record { line = s.line.now; at = n }) e)
