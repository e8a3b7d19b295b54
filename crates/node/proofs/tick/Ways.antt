-- The ways through a tick, from what its code did.
use Rattle.std.proofs.Common.{◌≡◌, ℕ, ◌<◌, ◌≤◌, List, map, length, Ok, lt-ltb}
use Rattle.wire.specs.declared.reply.Reply.TheVariants.{ShortOutput}
use Rattle.wire.specs.Delivered.{over}
use Rattle.wire.proofs.Refusing.{here}
use Rattle.node.specs.declared.Node.{Node}
use Rattle.node.specs.Slots.{many}
use Rattle.node.specs.Nodes.{refused, as_ticked}
use Rattle.node.specs.Clock.{Clock}
use Rattle.node.specs.Tick.{tick_room, late, due, age_of, tick_slot, due_slots, records_from, tick}
use Rattle.node.proofs.tick.Cases.{after_tick, tick_cases}
use Rattle.node.proofs.rollover.Promises.{AnswersWritten}

module _ (clock : Clock) (n : Node) (output : List ℕ) where
  pub tick_refused : length output < tick_room → tick clock output n ≡ refused n ShortOutput
  tick_refused h = (tick_cases output clock n).refused_if ShortOutput (here (lt-ltb _ _ h))

  module _ (room : tick_room ≤ length output) (now : ℕ) (e : now ≡ clock.next n.counter) where
    taken : tick clock output n ≡ after_tick output clock n
    taken = (tick_cases output clock n).accepted_if (record { room = room })

    -- the answer, and what is left of the node and the output
    pub tick_done : (node : Node) (written : ℕ) (left : List ℕ) (dropped delivered : ℕ)
        → node ≡ record { slots = map (tick_slot clock now) n.slots; counter = now }
        → (written ≡ length (records_from (due_slots clock now n.slots))) × (left ≡ over (records_from (due_slots clock now n.slots)) output)
        → (dropped ≡ many (λ x. late (age_of clock now x) x) n.slots) × (delivered ≡ many (λ x. due (age_of clock now x) x) n.slots)
        → AnswersWritten as_ticked output (tick clock output n) (Ok (record { written = written; dropped = dropped; delivered = delivered })) node left
    tick_done node written left dropped delivered s w t = (rw (taken, ← e, w.0, t.0, t.1), rw (taken, ← e) s, rw (taken, ← e) w.1)
