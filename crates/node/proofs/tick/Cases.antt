-- A tick, by cases: refused, or the node has ticked, with an output that was long enough.
use Rattle.std.proofs.Common.{ℕ, ◌≤◌, List, length, refl, ltb-false, le-ltb}
use Rattle.wire.proofs.Refusing.{Passes}
use Rattle.node.specs.declared.Node.{Node}
use Rattle.node.specs.Nodes.{Outcome, done, telling}
use Rattle.node.specs.Clock.{Clock}
use Rattle.node.specs.Tick.{tick_room, lapses, due_slots, records_from, ticked, tick_refusals, tick}
use Rattle.node.proofs.Cases.{Cases, cases}

module _ (output : List ℕ) where
  pub record TickFacts : Type 0 where
    pub room : tick_room ≤ length output

  pub tick_facts : Passes (tick_refusals output) → TickFacts
  tick_facts (room, end) = record { room = ltb-false _ _ room }

  pub tick_passes : TickFacts → Passes (tick_refusals output)
  tick_passes h = (le-ltb _ _ h.room, tt)

  module _ (clock : Clock) (n : Node) where
    abbrev pub after_tick : Outcome
    after_tick =
        telling (lapses clock (clock.next n.counter) n.slots)
        (done (ticked clock n) (records_from (due_slots clock (clock.next n.counter) n.slots)))

    pub tick_cases : Cases n (tick_refusals output) TickFacts after_tick (tick clock output n)
    unfolding tick
    tick_cases = cases n (tick_refusals output) after_tick refl tick_facts tick_passes
