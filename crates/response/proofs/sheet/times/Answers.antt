-- `times` meets its contract: at the loop's turn i the first i streams keep their deadlines, and their times are in place (`Solving.antt`).
use native.Mathlib.Omega.{arith}
use Rattle.response.proofs.Solving.{solved_none, solved_more}
use Rattle.response.proofs.sheet.times.Goals as goal

pub loop-i-init : goal.loop-i-init
loop-i-init c = solved_none _ _

pub loop-i-preserved : goal.loop-i-preserved
loop-i-preserved c = solved_more _ _ c.loop-i.invariant (omega arith) c.waiting-waiting.result (omega arith) c.waiting-waiting.ensures (omega arith)
