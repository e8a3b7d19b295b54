-- `Bench::tick` meets its contract: when the loop comes to i, each module before i has had its turn.
use Rattle.bench_in_code.specs.InCode.{tick_turn}
use Rattle.bench_in_code.specs.InBytes.{ticking_of}
use Rattle.bench_in_code.proofs.LoopsOverStations.{TurnedTo}
use Rattle.bench_in_code.proofs.Bench.tick.Given as goal

abbrev pub invariant-loop-i : goal.invariant-loop-i
invariant-loop-i l = TurnedTo ticking_of (λ k m. tick_turn m) l.initial.self l.i l.self.modules l.said l.outs
