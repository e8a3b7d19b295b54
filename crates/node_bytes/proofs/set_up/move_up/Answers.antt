-- `move_up` meets its contract: the slots from the loop's i on have moved up.
use native.Mathlib.Omega.{arith}
use mathlib.Core.Path.{◌≡◌, sym, ap, ◌∙◌}
use mathlib.Core.List.{List}
use Prim.Native.Nat.{ℕ, ◌+◌, ◌-◌}
use lib.ListN.{set}
use Rattle.node.specs.declared.slots.Slot.{Slot}
use Rattle.node.specs.Slots.{empty}
use Rattle.node.specs.Nodes.{with_slots}
use Rattle.node.proofs.set_up.Placing.{none_moved, moved_in}
use Rattle.node_bytes.specs.Decoding.{decode}
use Rattle.node_bytes.proofs.ByIndex.{decoded_slot, decoded_length}
use Rattle.node_bytes.proofs.set_up.move_up.Goals as goal

pub loop-i-init : goal.loop-i-init
loop-i-init c =
    let n = decode c.args.bytes.now in
    let (whole, before, inside, free) = c.requires in
    (before, omega arith, whole, rw (free, none_moved n.slots (omega (arith, decoded_length c.args.bytes.now))))

pub loop-i-preserved : goal.loop-i-preserved
loop-i-preserved c =
    let (place, at_most, whole, moved) = c.loop-i.invariant in
    let (_, _, inside, free) = c.requires in
    let n = decode c.args.bytes.now in
    let bytes : List ℕ = c.loop-i.bytes in
    let m = decode bytes in
    let i : ℕ = c.loop-i.i in (
      omega arith,
      omega arith,
      c.copy_up.ensures.0,
      c.copy_up.ensures.1
          ∙ ap (λ (x : Slot). with_slots (set m.slots (i - 1 + 1) x) m) (sym (decoded_slot bytes (i - 1) empty (omega arith)))
          ∙ moved_in n m i empty moved (omega arith) (omega arith) (omega (arith, decoded_length c.args.bytes.now)),
    )

pub returns : goal.returns
returns c =
    let last : c.loop-i.i ≡ c.args.place = omega arith in
    (c.loop-i.invariant.2, rw last at c.loop-i.invariant.3)
