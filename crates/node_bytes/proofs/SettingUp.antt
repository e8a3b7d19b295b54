-- A stream that is set up: its slot is stored where it is to stand, and the slots from there on have moved up.
use Rattle.std.proofs.Common.{◌≡◌, ℕ, ◌<◌, ◌≤◌, true, [], length, set, ◌∙◌, arith}
use Rattle.wire.specs.declared.ids.Stream.{Stream}
use Rattle.wire.specs.declared.settings.Settings.{Settings}
use Rattle.wire.specs.Settings.{legal}
use Rattle.node.specs.declared.slots.Slot.{Slot}
use Rattle.node.specs.declared.Node.{Node}
use Rattle.node.specs.Slots.{slot_for, is_free, is_of}
use Rattle.node.specs.Nodes.{with_slots, done}
use Rattle.node.specs.SetUp.{set_up}
use Rattle.node.proofs.slots.Finding.{index_of, found, missed}
use Rattle.node.proofs.set_up.Cases.{set_up_cases}
use Rattle.node.proofs.set_up.Placing.{is_after, moved_up, after_or_free, placed}

module _ (s : Stream) (settings : Settings) (n : Node) (good : legal s settings ≡ true) (new : length n.slots ≤ index_of (is_of s) n.slots)
    (inside : index_of is_free n.slots < length n.slots) where
  pub place_inside : index_of (is_after s) n.slots < length n.slots
  place_inside = omega (arith, after_or_free s n.slots)

  pub stream_stored : (k : ℕ) → k ≡ index_of (is_after s) n.slots → (m : Node) → m ≡ with_slots (moved_up k n.slots) n → (x : Slot) → x ≡ slot_for s settings
      → set_up s settings n ≡ done (with_slots (set m.slots k x) m) []
  stream_stored k place m moved x made =
      let taken =
      (set_up_cases s settings n).accepted_if
      (record { lawful = good; new = (missed (is_of s) n.slots new).not_there; room = (found is_free n.slots inside).there }) in
      let in_place = placed (slot_for s settings) n.slots place_inside in
      taken ∙ rw (moved, made, place, in_place)
