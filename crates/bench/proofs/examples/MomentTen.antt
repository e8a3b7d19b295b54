-- Moment 10 holds in both forms, and each has a message that demand 3 judges.
use mathlib.Core.Path.{refl}
use mathlib.Core.List.{[], ◌++◌}
use Rattle.bench.specs.SetUp.{start}
use Rattle.bench.specs.Demands.{MessageIn, OneTickBeyond}
use Rattle.bench.specs.MomentTen.{five, three, message, wait, short_since, short_confirmation, full_since, full_confirmation, MomentTen}
use Rattle.bench.proofs.examples.ExampleHistories.{computing}

pub moment_ten : MomentTen
unfolding computing
moment_ten =
    record {
      short = record { set_up = refl; keeps_rules = refl; delivers = refl };
      full = record { set_up = refl; keeps_rules = refl; delivers = refl };
    }

-- its message, one tick beyond Rd + dd after the request
unfoldable pub short_message : MessageIn (start three) short_confirmation
unfolding computing
short_message =
    record {
      before = wait 10;
      sender = 0;
      stream = five;
      payload = message;
      since = short_since ++ wait 1;
      rest = [];
      split = refl;
      accepted = tt;
    }

pub short_judged : OneTickBeyond (start three) short_confirmation short_message
unfolding computing short_message
short_judged = record { earlier = short_since; last = refl; long = refl }

unfoldable pub full_message : MessageIn (start three) full_confirmation
unfolding computing
full_message =
    record {
      before = wait 10;
      sender = 0;
      stream = five;
      payload = message;
      since = full_since ++ wait 1;
      rest = [];
      split = refl;
      accepted = tt;
    }

pub full_judged : OneTickBeyond (start three) full_confirmation full_message
unfolding computing full_message
full_judged = record { earlier = full_since; last = refl; long = refl }
