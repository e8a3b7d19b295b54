-- `move_up` meets its contract: the slots from the loop's i on have moved up.
use mathlib.Core.Path.{◌≡◌}
use Prim.Native.Nat.{◌≤◌}
use lib.ListN.{length}
use Rattle.node.specs.Nodes.{with_slots}
use Rattle.node.proofs.set_up.Placing.{moved_up}
use Rattle.node_bytes.specs.Layout.{node_size}
use Rattle.node_bytes.specs.Decoding.{decode}
use Rattle.node_bytes.proofs.set_up.move_up.Given as goal

abbrev pub invariant-loop-i : goal.invariant-loop-i
invariant-loop-i l =
    (l.place ≤ l.i) × (l.i ≤ l.free) × (length l.bytes ≡ node_size)
    × (decode l.bytes ≡ with_slots (moved_up l.i (decode l.initial.bytes).slots) (decode l.initial.bytes))
