-- The statements about runs are not empty: the day of eight modules, with streams of all three classes, runs in code and agrees with the
-- rules.
use mathlib.Core.List.{List}
use lib.ListN.{length}
use lib.Dec.{leb→le}
use Rattle.one_stream.proofs.Truth.{and_l, so}
use Rattle.bench.specs.Lists.{every}
use Rattle.bench.specs.Bench.{Ledger}
use Rattle.bench.specs.SetUp.{start}
use Rattle.bench.specs.Events.{run}
use Rattle.bench.specs.Rules.{one_omission, keeps_so_far}
use Rattle.bench.proofs.examples.EightModules.{eight, busy_day, a_busy_day}
use Rattle.bench_in_code.specs.InCode.{capacity}
use Rattle.bench_in_code.specs.Runs.{Command, SetUps, SetsUp, Runs, Agrees, ready, give_outs, Allowed}
use Rattle.bench_in_code.proofs.SetUpInStep.{every_plan_is_set_up}
use Rattle.bench_in_code.proofs.EveryHistoryRuns.{every_history_runs, every_run_agrees}

allowed : (xs : SetUps) → SetsUp xs eight → Allowed eight xs busy_day
allowed xs sets_up =
    record {
      is_proper = so a_busy_day.set_up;
      set_up = sets_up;
      keeps_rules =
          and_l (keeps_so_far (start eight) busy_day) (every (λ (l : Ledger). every one_omission l.books) (run (start eight) busy_day).ledgers)
          (so a_busy_day.keeps_rules);
      enough_room = leb→le (give_outs busy_day) capacity tt;
    }

-- the plan is set up so in code, and the day is run by these commands
pub record RunsInCode : Type 0 where
  pub set_ups_law : SetUps
  pub commands : List Command
  pub runs : Runs (start eight) (ready (length eight) set_ups_law) busy_day commands
  pub agrees : Agrees (start eight) (ready (length eight) set_ups_law) busy_day commands

pub busy_day_runs : RunsInCode
busy_day_runs =
    let (xs, sets_up) = every_plan_is_set_up eight in
    let (cs, r) = every_history_runs eight xs busy_day (allowed xs sets_up) in
    record { set_ups_law = xs; commands = cs; runs = r; agrees = every_run_agrees eight xs busy_day (allowed xs sets_up) cs r }
