-- `row_at` meets its contract: the part that was copied is the row.
use native.Mathlib.Omega.{arith}
use mathlib.Core.Path.{◌≡◌, sym, ◌∙◌}
use Prim.Native.Nat.{ℕ, ◌+◌, ◌-◌}
use lib.ListN.{length, replicate, length-replicate}
use Rattle.node_bytes.proofs.Places.{part_here, part_length}
use Rattle.node_bytes.proofs.numbers.row_at.Goals as goal

pub returns : goal.returns
returns g c =
    let a = c.args in
    let n = g.row.N in
    let all : n + a.at - a.at ≡ n = omega arith in
    let long : length (replicate {A = ℕ} n 0) ≡ n = length-replicate n 0 in
    c.copy.ensures.whole (long ∙ rw all (sym (part_length n a.bytes.now a.at c.requires))) ∙ rw all (part_here n a.bytes.now a.at c.requires)
