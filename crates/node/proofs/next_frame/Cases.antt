-- The next frame, by cases: refused, or given out, with what the output and the table then have.
use Rattle.std.proofs.Common.{◌≡◌, ℕ, ◌≤◌, true, not, List, length, refl, ap, ltb-false, le-ltb}
use borrow.Author.Tests.{not-false}
use Rattle.wire.proofs.Refusing.{Passes}
use Rattle.node.specs.declared.Node.{Node}
use Rattle.node.specs.Slots.{some}
use Rattle.node.specs.NextFrame.{next_room, has_frame, give, next_refusals, next_frame}
use Rattle.node.proofs.Cases.{Cases, cases}

module _ (output : List ℕ) (n : Node) where
  pub record NextFacts : Type 0 where
    pub room : next_room ≤ length output
    pub pending : some has_frame n.slots ≡ true

  pub next_facts : Passes (next_refusals output n) → NextFacts
  next_facts (room, (pending, end)) = record { room = ltb-false _ _ room; pending = not-false _ pending }

  pub next_passes : NextFacts → Passes (next_refusals output n)
  next_passes h = (le-ltb _ _ h.room, (ap not h.pending, tt))

  pub next_cases : Cases n (next_refusals output n) NextFacts (give n) (next_frame output n)
  unfolding next_frame
  next_cases = cases n (next_refusals output n) (give n) refl next_facts next_passes
