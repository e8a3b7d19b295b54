-- `Message::same` meets its contract: the loop at i has found the bytes before i the same.
use Rattle.node.proofs.slots.Payloads.{Compared}
use Rattle.node.proofs.slots.Message.same.Given as goal

abbrev pub invariant-loop-i : goal.invariant-loop-i
invariant-loop-i l = Compared l.self.len l.self.bytes l.payload l.i
