-- The ways through setting up a stream: on each of them the outcome of the definition.
use Rattle.std.proofs.Common.{◌≡◌, ℕ, ◌<◌, ◌≤◌, true, false, not, ltb, [], length, take, set, position, unwrap_or, ap, ◌∙◌, arith}
use Rattle.wire.specs.declared.ids.Stream.{Stream}
use Rattle.wire.specs.declared.settings.Settings.{Settings}
use Rattle.wire.specs.declared.reply.Reply.{Reply}
use Rattle.wire.specs.declared.reply.Reply.TheVariants.{BadSettings, TableFull, Taken}
use Rattle.wire.specs.Settings.{legal}
use Rattle.wire.proofs.Refusing.{Refuses, here, later}
use Rattle.node.specs.declared.slots.Slot.{Slot}
use Rattle.node.specs.declared.Node.{Node}
use Rattle.node.specs.Slots.{slot_for, is_free, is_of, some}
use Rattle.node.specs.Nodes.{has_slot, with_slots, Outcome, refused, done}
use Rattle.node.specs.SetUp.{set_up_refusals, set_up}
use Rattle.node.proofs.set_up.Cases.{set_up_cases}
use Rattle.node.proofs.set_up.Placing.{is_after, place_is, moved_up, after_or_free, placed}
use Rattle.node.proofs.slots.Finding.{index_of, found, missed}

module _ (s : Stream) (settings : Settings) (n : Node) where
  abbrev Gives : Outcome → Type 0
  Gives o = set_up s settings n ≡ o

  refused_for : {r : Reply} → Refuses (set_up_refusals s settings n) r → Gives (refused n r)
  refused_for {r} why = (set_up_cases s settings n).refused_if r why

  pub bad_settings : legal s settings ≡ false → Gives (refused n BadSettings)
  bad_settings bad = refused_for (here (ap not bad))

  module _ (good : legal s settings ≡ true) (i : ℕ) (at_index : i ≡ index_of (is_of s) n.slots) where
    pub stream_taken : i < length n.slots → Gives (refused n Taken)
    stream_taken inside = refused_for (later (ap not good) (here (found (is_of s) n.slots (omega arith)).there))

    module _ (past : length n.slots ≤ i) (j : ℕ) (free : j ≡ index_of is_free n.slots) where
      new : has_slot s n ≡ false
      new = (missed (is_of s) n.slots (omega arith)).not_there

      pub table_full : length n.slots ≤ j → Gives (refused n TableFull)
      table_full full =
          let none : some is_free n.slots ≡ false = (missed is_free n.slots (omega arith)).not_there in
          refused_for (later (ap not good) (later new (here (ap not none))))

      -- the slots from its place on are moved up to the free one
      module _ (inside : j < length n.slots) (k : ℕ) (place : k ≡ unwrap_or (position (λ y. ltb s.0 y.stream.0) (take j n.slots)) j) where
        place_law : k ≡ index_of (is_after s) n.slots
        place_law = place ∙ rw free (place_is s n.slots (rw free at inside))

        pub place_before : k ≤ j
        place_before = rw (place_law, free) (after_or_free s n.slots)

        pub stream_set : (m : Node) → m ≡ with_slots (moved_up k n.slots) n → (x : Slot) → x ≡ slot_for s settings
            → Gives (done (with_slots (set m.slots k x) m) [])
        stream_set m moved x made =
            let room : some is_free n.slots ≡ true = (found is_free n.slots (omega arith)).there in
            let taken = (set_up_cases s settings n).accepted_if (record { lawful = good; new = new; room = room }) in
            let in_place = rw (← place_law) at (placed (slot_for s settings) n.slots (omega (arith, place_law, place_before))) in
            taken ∙ rw (moved, made, in_place)
