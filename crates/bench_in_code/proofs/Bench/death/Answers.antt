-- `Bench::death` meets its contract: the module that died is live no longer; past the places nothing changes.
use Rattle.std.proofs.Common.{rules, ◌≡◌, length}
use Rattle.bench_in_code.proofs.CallsInCode.{dies_inside, dies_past}
use Rattle.bench_in_code.proofs.Bench.death.Goals as goal

pub returns-then-who-lt-PLACES : goal.returns-then-who-lt-PLACES
returns-then-who-lt-PLACES c =
    let eight : length c.args.self.now.modules ≡ 8 = search rules in
    let t = dies_inside c.args.self.now eight c.args.who c.if-who-lt-PLACES.true _ in
    record { modules = t.0; leaves = t.1 }

pub returns-else-who-lt-PLACES : goal.returns-else-who-lt-PLACES
returns-else-who-lt-PLACES c =
    let eight : length c.args.self.now.modules ≡ 8 = search rules in
    let t = dies_past c.args.self.now eight c.args.who c.if-who-lt-PLACES.false in
    record { modules = t.0; leaves = t.1 }
