-- What the example histories compute with.
use mathlib.Core.Bool.{Bool, true}
use Rattle.wire.specs.Identifiers.{join}
use Rattle.wire.specs.Classes.{carries}
use Rattle.wire.specs.Settings.{legal}
use Rattle.wire.specs.Delivered.{record_of}
use Rattle.node.specs.Slots.{same_bytes, first, on_first, some}
use Rattle.node.specs.SetUp as Setting-up
use Rattle.node.specs.Hear as hearing
use Rattle.node.specs.Tick as ticking
use Rattle.node.specs.Request as requesting
use Rattle.node.specs.NextFrame as giving
use Rattle.bench.specs.SetUp.{proper, start}
use Rattle.bench.specs.Events.{step}
use Rattle.bench.specs.Rules.{may}

-- `unfolding computing` opens every definition that a history computes with
unfoldable pub computing : Bool
unfolding
    legal carries record_of same_bytes first on_first some Setting-up.set_up Setting-up.in_place Setting-up.less_free
    hearing.heard_by hearing.delivered_at_once hearing.hear
    ticking.late ticking.due ticking.hold_over ticking.lapsed ticking.due_slots ticking.records_from ticking.tick
    requesting.requested requesting.request
    join giving.given_out giving.payload_for giving.give giving.next_frame
    proper start step may
computing = true
