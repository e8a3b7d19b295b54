-- `Bench::tick` meets its contract: when the loop comes to i, each module before i has had its turn.
use Rattle.std.proofs.Common.{rules, ◌≡◌, length, refl}
use Rattle.bench_in_code.specs.InCode.{tick_turn}
use Rattle.bench_in_code.specs.InBytes.{ticking_of}
use Rattle.bench_in_code.proofs.LoopsOverStations.{at_first, one_place_turned, all_ticked}
use Rattle.bench_in_code.proofs.Bench.tick.Goals as goal

pub loop-i-init : goal.loop-i-init
loop-i-init c =
    let eight : length c.args.self.now.modules ≡ 8 = search rules in
    let eight_outs : length c.args.outs.now ≡ 8 = search rules in
    at_first ticking_of (λ k m. tick_turn m) c.args.self.now eight _ _ refl eight_outs

pub loop-i-preserved : goal.loop-i-preserved
loop-i-preserved c =
    let eight : length c.loop-i.self.modules ≡ 8 = search rules in
    let u = c.tick.ensures in
    one_place_turned ticking_of (λ k m. tick_turn m) c.args.self.now c.loop-i.self.modules c.loop-i.invariant c.loop-i-test.true eight _ _ _ _
    (u.answer, (u.output, u.leaves))

pub returns : goal.returns
returns c =
    let t = all_ticked c.args.self.now c.loop-i-test.false c.loop-i.self.modules c.loop-i.invariant in
    record { answer = t.0; outputs = t.1.0; leaves = t.1.1 }
