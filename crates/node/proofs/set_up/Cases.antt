-- Setting up a stream, by cases: refused, or the stream has a slot, with what the settings and the table then have.
use Rattle.std.proofs.Common.{◌≡◌, true, false, not, [], refl, ap}
use borrow.Author.Tests.{not-false}
use Rattle.wire.specs.declared.ids.Stream.{Stream}
use Rattle.wire.specs.declared.settings.Settings.{Settings}
use Rattle.wire.specs.Settings.{legal}
use Rattle.wire.proofs.Refusing.{Passes}
use Rattle.node.specs.declared.Node.{Node}
use Rattle.node.specs.Slots.{slot_for, is_free, some}
use Rattle.node.specs.Nodes.{has_slot, with_slots, Outcome, done}
use Rattle.node.specs.SetUp.{set_up_refusals, in_place, set_up}
use Rattle.node.proofs.Cases.{Cases, cases}

module _ (s : Stream) (settings : Settings) (n : Node) where
  pub record SetUpFacts : Type 0 where
    pub lawful : legal s settings ≡ true
    pub new : has_slot s n ≡ false
    pub room : some is_free n.slots ≡ true

  pub set_up_facts : Passes (set_up_refusals s settings n) → SetUpFacts
  set_up_facts (lawful, (new, (room, end))) = record { lawful = not-false _ lawful; new = new; room = not-false _ room }

  pub set_up_passes : SetUpFacts → Passes (set_up_refusals s settings n)
  set_up_passes h = (ap not h.lawful, (h.new, (ap not h.room, tt)))

  abbrev pub set : Outcome
  set = done (with_slots (in_place (slot_for s settings) n.slots) n) []

  pub set_up_cases : Cases n (set_up_refusals s settings n) SetUpFacts set (set_up s settings n)
  unfolding set_up
  set_up_cases = cases n (set_up_refusals s settings n) set refl set_up_facts set_up_passes
