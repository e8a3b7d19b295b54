-- `copy` meets its contract: at the loop's turn i the first i bytes are copied.
use Rattle.std.proofs.Common.{◌∙◌, refl, arith}
use Rattle.wire.proofs.Copied.{copy_next, all_copied, copied_whole}
use Rattle.wire.proofs.copying.copy.Goals as goal

pub loop-i-init : goal.loop-i-init
loop-i-init c = refl

pub loop-i-preserved : goal.loop-i-preserved
loop-i-preserved c =
    let i = c.loop-i.i in
    rw c.loop-i.invariant (copy_next c.args.out.now c.args.from.now i (omega arith) (omega arith))

pub returns-clause-front : goal.returns-clause-front
returns-clause-front c = c.loop-i.invariant ∙ all_copied c.args.out.now c.args.from.now c.loop-i.i (omega arith)

pub returns-clause-whole : goal.returns-clause-whole
returns-clause-whole c h =
    c.loop-i.invariant ∙ all_copied c.args.out.now c.args.from.now c.loop-i.i (omega arith) ∙ copied_whole c.args.out.now c.args.from.now h
