-- `text::input::Lines::next` meets its contract.
use mathlib.Core.Path.{refl}
use Rattle.text.proofs.LineLaws.{handed, none_left}
use Rattle.text.proofs.input.Lines.next.Goals as goal

pub returns-in_err-found : goal.returns-in_err-found
returns-in_err-found c =
    let left = none_left c.in_err-found.ensures in rw c.from_residual.ensures ((refl, (λ _. tt), left), record { next = left.next; rests = tt })

pub returns : goal.returns
returns c =
    let left = handed c.in_ok-found.ensures c.line_within.ensures in ((refl, (λ _. tt), left), record { next = left.next; rests = tt })
