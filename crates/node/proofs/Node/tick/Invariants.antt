-- `Node::tick` meets its contract: the slots before i have lapsed, and the records of those that were due stand before `written`.
use Rattle.node.specs.Clock.{rolled}
use Rattle.node.proofs.tick.OnePass.{Passing}
use Rattle.node.proofs.Node.tick.Given as goal

abbrev pub invariant-loop-i : goal.invariant-loop-i
invariant-loop-i l = Passing rolled l.now l.initial.self l.self l.initial.out l.out l.i l.written l.dropped l.delivered
