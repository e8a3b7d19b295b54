-- `put_eight` meets its contract: a part is written as one.
use borrow.Author.Rules.{rules}
use native.Mathlib.Omega.{arith}
use mathlib.Core.Path.{◌≡◌, ap, ◌∙◌}
use Prim.Native.Nat.{◌+◌, ◌-◌}
use lib.ListN.{length}
use lib.Seq.{length-sets}
use Rattle.node_bytes.proofs.Places.{part_stored, part_length}
use Rattle.node_bytes.proofs.numbers.put_eight.Goals as goal

pub returns : goal.returns
returns c =
    let a = c.args in
    let eight : length a.row ≡ 8 = search rules in
    let room = part_length (8 + a.at - a.at) a.out.now a.at (omega arith) in
    let copied = c.copy.ensures.whole (omega (arith, room, eight)) in
    let stored = part_stored a.out.now a.row _ a.at (8 + a.at - a.at) copied (omega arith) (omega arith) in
    (stored, ap length stored ∙ length-sets a.out.now a.at a.row)
