-- `Bench::send` meets its contract: when the loop comes to i, each module before i has had its turn.
use Rattle.std.proofs.Common.{rules, ◌≡◌, length, refl, sym}
use Rattle.bench_in_code.specs.InBytes.{bench_in, hearing_of}
use Rattle.bench_in_code.proofs.LoopsOverStations.{at_first, one_place_turned, heard_at, all_heard, none_heard}
use Rattle.bench_in_code.proofs.Bench.send.Goals as goal

pub returns-then-not-is_live : goal.returns-then-not-is_live
returns-then-not-is_live c =
    let a = c.args in
    let t = none_heard (bench_in a.self.now) a.frame a.to (sym c.if-not-is_live.ensures) in
    record { answer = t.0; outputs = t.1.0; leaves = t.1.1 }

pub loop-i-init : goal.loop-i-init
loop-i-init c =
    let eight : length c.args.self.now.modules ≡ 8 = search rules in
    let eight_outs : length c.args.outs.now ≡ 8 = search rules in
    at_first hearing_of (heard_at c.args.frame c.args.to) c.args.self.now eight _ _ refl eight_outs

pub loop-i-preserved : goal.loop-i-preserved
loop-i-preserved c =
    let a = c.args in
    let eight : length c.loop-i.self.modules ≡ 8 = search rules in
    let u = c.hear.ensures in
    one_place_turned hearing_of (heard_at a.frame a.to) a.self.now c.loop-i.self.modules c.loop-i.invariant c.loop-i-test.true eight _ _ _ _
    (u.answer, (u.output, u.leaves))

pub returns : goal.returns
returns c =
    let a = c.args in
    let t = all_heard a.self.now c.loop-i-test.false c.loop-i.self.modules a.frame a.to (sym c.if-not-is_live.ensures) c.loop-i.invariant in
    record { answer = t.0; outputs = t.1.0; leaves = t.1.1 }
