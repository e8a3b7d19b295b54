-- `text::input::newline` meets its contract.
use Prim.Native.Nat.{◌-◌}
use native.Mathlib.Omega.{arith}
use mathlib.Core.Path.{◌≡◌, sym}
use lib.ListN.{length, take, drop, length-drop}
use lib.Seq.{length-take-le}
use Rattle.text.proofs.InputLaws.{part_of}
use Rattle.text.proofs.FindLaws.{found_at, not_found}
use Rattle.text.proofs.input.newline.Goals as goal

pub returns-in_err-first : goal.returns-in_err-first
returns-in_err-first c =
    let a = c.args in
    let part = take (a.to - a.from) (drop a.from a.s.now) in
    let long : length part ≡ a.to - a.from = length-take-le (a.to - a.from) (drop a.from a.s.now) (simp length-drop (omega arith)) in
    let h = not_found 10 part (sym c.in_err-first.ensures) in
    rw (c.from_residual.ensures, part_of a.s.now a.from a.to (omega arith) c.requires) (omega (arith, h, long))

pub returns : goal.returns
returns c =
    let a = c.args in
    let part = take (a.to - a.from) (drop a.from a.s.now) in
    let long : length part ≡ a.to - a.from = length-take-le (a.to - a.from) (drop a.from a.s.now) (simp length-drop (omega arith)) in
    let h = found_at 10 part c.in_ok-first.field-0 (sym c.in_ok-first.ensures) in
    rw (part_of a.s.now a.from a.to (omega arith) c.requires) (omega (arith, h.0), omega (arith, h.1, long))
