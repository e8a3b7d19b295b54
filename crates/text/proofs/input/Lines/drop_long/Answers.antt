-- `text::input::Lines::drop_long` meets its contract.
use native.Mathlib.Omega.{arith}
use mathlib.Core.Path.{◌≡◌, refl, sym, ◌∙◌}
use borrow.Author.Tests.{ne_eqb}
use Rattle.std.proofs.lemmas.Bool.{or_from}
use mathlib.Core.Bool.{false}
use Rattle.text.specs.Input.{over_of}
use Rattle.text.specs.Lines.{input_of}
use Rattle.text.specs.Window.{span_of}
use Rattle.text.proofs.InputLaws.{all_unread, all_kept}
use Rattle.text.proofs.input.Lines.drop_long.Goals as goal

pub returns-then-to-from-lt-SIZE-clause-kept : goal.returns-then-to-from-lt-SIZE-clause-kept
returns-then-to-from-lt-SIZE-clause-kept c =
    let l = c.args.self.now in
    let fine : over_of (input_of l) ≡ false = or_from _ _ c.if-is_none.ensures (ne_eqb _ _ (λ full. omega (arith, full))) in
    all_unread l.window.buffer (input_of l) (span_of l.window) (omega arith) refl refl ∙ sym (all_kept l.window.buffer (input_of l) (omega arith) fine)
