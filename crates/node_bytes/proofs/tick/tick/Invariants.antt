-- `tick` meets its contract. The loop goes up through the slots, with those passed lapsed and their records written: a slot
-- that is due is delivered, and another has lapsed.
use Rattle.node_bytes.proofs.CallingTick.{Ticking}
use Rattle.node_bytes.proofs.tick.tick.Given as goal

abbrev pub invariant-loop-i : goal.invariant-loop-i
invariant-loop-i l = Ticking l.now l.initial.bytes l.initial.out l.bytes l.out l.i l.written l.dropped l.delivered
