-- `Bench::set_up` meets its contract: where no module is there, nobody answers; else its node does.
use Rattle.std.proofs.Common.{rules, ◌≡◌, length, lt-ltb, le-ltb}
use Rattle.node.specs.Calls.{set_up}
use Rattle.bench_in_code.proofs.CallsInCode.{nobody_in, answers_in}
use Rattle.bench_in_code.proofs.Bench.set_up.Goals as goal

pub returns-then-who-ge-PLACES : goal.returns-then-who-ge-PLACES
returns-then-who-ge-PLACES c =
    let a = c.args in
    let eight : length a.self.now.modules ≡ 8 = search rules in
    let t = nobody_in a.self.now eight _ (le-ltb a.who 8 c.if-who-ge-PLACES.true) (set_up a.stream a.settings) a.who in
    record { answer = t.0; leaves = t.1 }

pub returns : goal.returns
returns c =
    let a = c.args in
    let eight : length a.self.now.modules ≡ 8 = search rules in
    let h = c.if-who-ge-PLACES.false in
    let u = c.set_up.ensures in
    let t = answers_in a.self.now eight a.who h _ _ (lt-ltb a.who 8 h) (set_up a.stream a.settings) u.answer _ u.leaves in
    record { answer = t.0; leaves = t.1 }
