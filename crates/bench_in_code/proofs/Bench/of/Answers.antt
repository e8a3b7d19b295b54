-- `Bench::of` meets its contract: the bytes of each place are a fresh node.
use Rattle.bench_in_code.proofs.CallsInCode.{all_fresh}
use Rattle.bench_in_code.proofs.Bench.of.Goals as goal

pub returns-clause-leaves : goal.returns-clause-leaves
returns-clause-leaves c =
    rw (c.fresh.ensures, c.fresh-2.ensures, c.fresh-3.ensures, c.fresh-4.ensures, c.fresh-5.ensures, c.fresh-6.ensures, c.fresh-7.ensures, c.fresh-8.ensures)
    (all_fresh c.args.n)
