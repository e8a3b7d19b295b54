-- `Bench::send` meets its contract: when the loop comes to i, each module before i has had its turn.
use Rattle.bench_in_code.specs.InBytes.{hearing_of}
use Rattle.bench_in_code.proofs.LoopsOverStations.{TurnedTo, heard_at}
use Rattle.bench_in_code.proofs.Bench.send.Given as goal

abbrev pub invariant-loop-i : goal.invariant-loop-i
invariant-loop-i l = TurnedTo hearing_of (heard_at l.frame l.to) l.initial.self l.i l.self.modules l.said l.outs
