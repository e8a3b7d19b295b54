-- `Node::set_up` meets its contract: the slots from the loop's i on have moved up.
use mathlib.Core.Path.{◌≡◌}
use Prim.Native.Nat.{◌≤◌}
use Rattle.node.specs.Nodes.{with_slots}
use Rattle.node.proofs.set_up.Placing.{moved_up}
use Rattle.node.proofs.Node.set_up.Given as goal

abbrev pub invariant-loop-i : goal.invariant-loop-i
invariant-loop-i l = (l.place ≤ l.i) × (l.i ≤ l.free) × (l.self ≡ with_slots (moved_up l.i l.fn.self.slots) l.fn.self)
