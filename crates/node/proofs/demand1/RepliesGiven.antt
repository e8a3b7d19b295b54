-- Every reply of every call is given, by every clock.
use Rattle.std.proofs.Common.{refl}
use Rattle.wire.specs.Settings.{legal}
use Rattle.wire.specs.Identifiers.{join}
use Rattle.wire.specs.Classes.{carries}
use Rattle.node.specs.Slots.{same_bytes, first, on_first, some}
use Rattle.node.specs.Clock.{Clock}
use Rattle.node.specs.SetUp.{less_free, in_place, set_up}
use Rattle.node.specs.Hear.{heard_by, hear}
use Rattle.node.specs.Tick.{tick}
use Rattle.node.specs.Request.{requested, request}
use Rattle.node.specs.NextFrame.{give, next_frame}
use Rattle.node.specs.Refused.{RepliesGiven}

pub replies_given : (clock : Clock) → RepliesGiven clock
unfolding set_up less_free in_place hear heard_by tick request requested next_frame join give legal carries same_bytes first on_first some
replies_given clock =
    record {
      set_up = λ s settings n. record { given = refl; every = refl };
      hear = λ id dlc payload output x. record { given = refl; every = refl };
      tick = λ output. record { given = refl; every = refl };
      request = λ payload x. record { given = refl; every = refl };
      next_frame = λ output n. record { given = refl; every = refl };
    }
