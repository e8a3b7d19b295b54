-- `Bench::is_live` meets its contract: past the eight places nobody is live.
use Rattle.std.proofs.Common.{rules, ◌≡◌, length}
use Rattle.bench_in_code.proofs.StationsInBytes.{live_here, dead_past}
use Rattle.bench_in_code.proofs.Bench.is_live.Goals as goal

pub returns-then-who-ge-PLACES : goal.returns-then-who-ge-PLACES
returns-then-who-ge-PLACES c =
    let eight : length c.args.self.now.modules ≡ 8 = search rules in
    dead_past c.args.self.now eight c.args.who c.if-who-ge-PLACES.true

pub returns : goal.returns
returns c =
    let eight : length c.args.self.now.modules ≡ 8 = search rules in
    live_here c.args.self.now eight c.args.who _ c.if-who-ge-PLACES.false
