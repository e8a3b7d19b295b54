-- `number_at` meets its contract: so many bytes before zeros are the number of four.
use native.Mathlib.Omega.{arith}
use mathlib.Core.Path.{◌≡◌, ◌∙◌}
use mathlib.Core.List.{List, [], ◌∷◌, ◌++◌}
use Prim.Native.Nat.{ℕ, ◌-◌, ◌+◌}
use lib.ListN.{length, take, drop}
use Rattle.std.specs.Int.{w32, from_le_bytes}
use Rattle.std.proofs.Common.{length-take-le, length-drop}
use Rattle.heard.proofs.Numbers.{number_in_four, number_in_part, number_small}
use Rattle.heard.proofs.reading.number_at.Goals as goal

pub returns : goal.returns
returns c =
    let a = c.args in
    let so : a.at + a.width - a.at ≡ a.width = omega arith in
    let part : List ℕ = take a.width (drop a.at a.bytes.now) in
    let long : length part ≡ a.width = length-take-le a.width (drop a.at a.bytes.now) (omega (arith, length-drop a.at a.bytes.now)) in
    let copied : c.copy_from_slice.new.self ≡ part = rw so at c.copy_from_slice.ensures.after in
    let read : c.from_le_bytes.result ≡ from_le_bytes w32 (c.copy_from_slice.new.self ++ drop a.width (0 ∷ 0 ∷ 0 ∷ 0 ∷ [])) = c.from_le_bytes.ensures in
    let is = rw copied at read in
    let it = is ∙ number_in_four part a.width long c.requires.0 ∙ number_in_part a.width a.bytes.now a.at in
    (it, rw it (number_small a.width a.bytes.now a.at (λ i. omega (arith, c.type_inv.bytes i))))
