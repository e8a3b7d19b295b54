-- `Bench::give` meets its contract: each return cites the way through the definition.
use Rattle.std.proofs.Common.{rules, ◌≡◌, ◌<◌, length, sym, arith}
use Rattle.bench_in_code.specs.InBytes.{bench_in}
use Rattle.bench_in_code.proofs.StationsInBytes.{eight_places, live_is_there}
use Rattle.bench_in_code.proofs.CallsInCode.{dead_in, nothing_in, full_in, given_in}
use Rattle.bench_in_code.proofs.Bench.give.Goals as goal
use Rattle.bench_in_code.proofs.Bench.give.Goals.{Start, Else-not-is_live}

eight : (c : Start) → length c.args.self.now.modules ≡ 8
eight c = search rules

pub returns-then-not-is_live : goal.returns-then-not-is_live
returns-then-not-is_live c =
    let a = c.args in
    let t = dead_in a.self.now (eight (goal.at.returns-then-not-is_live c).Start) a.who a.frames.now (sym c.if-not-is_live.ensures) in
    record { answer = t.0; frames = t.1.0; leaves = t.1.1 }

-- a module that is live has a place
there : (c : Else-not-is_live) → c.before.args.who < 8
there c =
    let a = c.before.args in
    live_is_there (bench_in a.self.now) (eight_places a.self.now (eight (goal.at.Else-not-is_live c).Start)) a.who (sym c.if-not-is_live.ensures)

pub offset_bounds-self-who : goal.offset_bounds-self-who
offset_bounds-self-who c = let h = there (goal.at.offset_bounds-self-who c).Else-not-is_live in omega (arith, h)

pub bounds-self-who : goal.bounds-self-who
bounds-self-who c = there (goal.at.bounds-self-who c).Else-not-is_live

pub offset_bounds-self-who-2 : goal.offset_bounds-self-who-2
offset_bounds-self-who-2 c = let h = there (goal.at.offset_bounds-self-who-2 c).Else-not-is_live in omega (arith, h)

pub bounds-self-who-2 : goal.bounds-self-who-2
bounds-self-who-2 c = there (goal.at.bounds-self-who-2 c).Else-not-is_live

-- ── its node was asked ──
pub returns-in_default : goal.returns-in_default
returns-in_default c =
    let a = c.args in
    let live = sym c.if-not-is_live.ensures in
    let t = nothing_in a.self.now (eight (goal.at.returns-in_default c).Start) a.who a.frames.now live _ c.in_default.ensures.answer in
    record { answer = t.0; frames = t.1.0; leaves = t.1.1 }

pub returns-then-frames-ge-MOST : goal.returns-then-frames-ge-MOST
returns-then-frames-ge-MOST c =
    let a = c.args in
    let live = sym c.if-not-is_live.ensures in
    let t = full_in a.self.now (eight (goal.at.returns-then-frames-ge-MOST c).Start) a.who a.frames.now live _ c.in-Ok.ensures.answer
    c.if-frames-ge-MOST.true in
    record { answer = t.0; frames = t.1.0; leaves = t.1.1 }

pub returns : goal.returns
returns c =
    let a = c.args in
    let live = sym c.if-not-is_live.ensures in
    let t = given_in a.self.now (eight (goal.at.returns c).Start) a.who a.frames.now live _ c.in-Ok.ensures.answer
    c.if-frames-ge-MOST.false _ c.in-Ok.ensures.leaves c.push.ensures in
    record { answer = t.0; frames = t.1.0; leaves = t.1.1 }
