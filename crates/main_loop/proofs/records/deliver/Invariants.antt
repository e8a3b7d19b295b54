-- `main_loop::records::deliver` is safe and ends: a record ends within the output and past its start, and the measure is what is left of the output.
use Prim.Native.Nat.{◌-◌}
use lib.ListN.{length}
use Rattle.main_loop.proofs.records.deliver.Given as goal

abbrev pub decreases-loop-at : goal.decreases-loop-at
decreases-loop-at l = length l.out - l.at
