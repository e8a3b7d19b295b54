-- `Bench::request` meets its contract: where the module is not live, nobody answers; else its node does.
use Rattle.std.proofs.Common.{rules, ◌≡◌, ◌<◌, length, sym, arith}
use Rattle.node.specs.Calls.{request}
use Rattle.bench_in_code.specs.InBytes.{bench_in}
use Rattle.bench_in_code.proofs.StationsInBytes.{eight_places, live_is_there}
use Rattle.bench_in_code.proofs.CallsInCode.{nobody_in, answers_in}
use Rattle.bench_in_code.proofs.Bench.request.Goals as goal
use Rattle.bench_in_code.proofs.Bench.request.Goals.{Start, Else-not-is_live}

eight : (c : Start) → length c.args.self.now.modules ≡ 8
eight c = search rules

pub returns-then-not-is_live : goal.returns-then-not-is_live
returns-then-not-is_live c =
    let a = c.args in
    let t = nobody_in a.self.now (eight (goal.at.returns-then-not-is_live c).Start) _ (sym c.if-not-is_live.ensures) (request a.stream a.payload.now) a.who in
    record { answer = t.0; leaves = t.1 }

-- a module that is live has a place
there : (c : Else-not-is_live) → c.before.args.who < 8
there c =
    let a = c.before.args in
    live_is_there (bench_in a.self.now) (eight_places a.self.now (eight (goal.at.Else-not-is_live c).Start)) a.who (sym c.if-not-is_live.ensures)

pub offset_bounds-self-who : goal.offset_bounds-self-who
offset_bounds-self-who c = let h = there (goal.at.offset_bounds-self-who c).Else-not-is_live in omega (arith, h)

pub bounds-self-who : goal.bounds-self-who
bounds-self-who c = there (goal.at.bounds-self-who c).Else-not-is_live

pub returns : goal.returns
returns c =
    let a = c.args in
    let u = c.request.ensures in
    let h = there (goal.at.returns c).Else-not-is_live in
    let live = sym c.if-not-is_live.ensures in
    let call = request a.stream a.payload.now in
    let t = answers_in a.self.now (eight (goal.at.returns c).Start) a.who h _ _ live call u.answer _ u.leaves in
    record { answer = t.0; leaves = t.1 }
