-- `Frames::at` meets its contract: past the places there is no frame.
use Rattle.std.proofs.Common.{rules, ◌≡◌, length, sym, arith}
use Rattle.bench.proofs.laws.ListPlaces.{nth_past, nth_inside}
use Rattle.bench_in_code.specs.InCode.{no_frame}
use Rattle.bench_in_code.proofs.outbox.Frames.at.Goals as goal
use Rattle.bench_in_code.proofs.outbox.Frames.at.Goals.{Start}

full : (c : Start) → length c.args.self.now.all ≡ 1024
full c = search rules

pub returns-then-n-ge-MOST : goal.returns-then-n-ge-MOST
returns-then-n-ge-MOST c =
    sym (nth_past no_frame c.args.n c.args.self.now.all (omega (arith, full (goal.at.returns-then-n-ge-MOST c).Start)))

pub returns : goal.returns
returns c = nth_inside _ no_frame c.args.n c.args.self.now.all (omega (arith, full (goal.at.returns c).Start))
