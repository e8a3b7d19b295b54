-- `Module::hear` meets its contract: a module that the sending reaches hears the payload.
use Rattle.std.proofs.Common.{rules, ◌≡◌, length}
use Rattle.bench_in_code.proofs.CallsInCode.{reached}
use Rattle.bench_in_code.proofs.stations.Module.hear.Goals as goal

pub returns : goal.returns
returns c =
    let a = c.args in
    let whole : length a.self.now.node ≡ 1026 = search rules in
    let u = c.hear.ensures in
    let t = reached a.self.now a.named a.own a.frame c.if-not-self-named.false whole _ c.payload-payload.ensures.0 u.answer u.output u.leaves in
    record { answer = t.0; output = t.1.0; leaves = t.1.1 }
