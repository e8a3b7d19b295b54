-- `text::input::Lines::refill` meets its contract.
use native.Mathlib.Omega.{arith}
use Rattle.text.specs.Lines.{input_of}
use Rattle.text.proofs.InputLaws.{refilled, is_some-long_of}
use Rattle.text.proofs.input.Lines.refill.Goals as goal

pub returns-clause-refilled : goal.returns-clause-refilled
returns-clause-refilled c =
    let l = c.args.self.now in
    rw (c.drop_long.ensures.over, is_some-long_of l)
    (refilled l.window.buffer (input_of l) (omega arith) _ _ _ _ c.drop_long.ensures.buffer c.drop_long.ensures.kept c.read.ensures)
