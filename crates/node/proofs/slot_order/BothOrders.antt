-- The two layouts hold their slots in another order, in histories that a caller can make; and one pass over slots that are not in stream order
-- would be seen.
use Rattle.std.proofs.Common.{◌≡◌, ℕ, ◌*◌, List, [], ◌∷◌, ◌++◌, map, take, replicate, refl}
use Rattle.wire.specs.declared.ids.Stream.{Stream}
use Rattle.wire.specs.declared.settings.Settings.{Settings}
use Rattle.wire.specs.Identifiers.{join}
use Rattle.wire.specs.Classes.{carries}
use Rattle.wire.specs.Settings.{of_plain, of_imd, legal}
use Rattle.wire.specs.Delivered.{record_of}
use Rattle.node.specs.declared.slots.Slot.{Slot}
use Rattle.node.specs.declared.Node.{Node}
use Rattle.node.specs.Slots.{first, on_first, some}
use Rattle.node.specs.Nodes.{fresh}
use Rattle.node.specs.Clock.{rolled}
use Rattle.node.specs.SetUp.{less_free, in_place, set_up}
use Rattle.node.specs.Hear.{hear_room, hear, heard_by, delivered_at_once}
use Rattle.node.specs.Tick.{tick_room, late, due, hold_over, lapsed, due_slots, records_from, tick}
use Rattle.node.specs.Request.{request, requested}
use Rattle.node.specs.NextFrame.{next_room, give, next_frame}
use Rattle.node.specs.Calls.{Call, after}
use Rattle.node.specs.OldLayout.{old_outcome}
use Rattle.node.specs.SlotOrder.{after_by}

abbrev in_old_layout : List Call → Node
in_old_layout calls = after_by (old_outcome rolled) fresh calls

abbrev streams : Node → List ℕ
streams n = map (λ (x : Slot). x.stream.0) (take 3 n.slots)

abbrev nine : Stream
nine = record { 0 = 9 }

abbrev five : Stream
five = record { 0 = 5 }

-- ── a tick ──
abbrev imd : Settings
imd = of_imd 0 1 1

abbrev data_for : Stream → (byte : ℕ) → Call
data_for s byte = Call.hear (record { 0 = s.0 * 4 }) 1 (byte ∷ []) (replicate hear_room 0)

-- stream 9 is set up first, and each holds data that is due at the next tick
abbrev history : List Call
history = Call.set_up nine imd ∷ Call.set_up five imd ∷ data_for nine 7 ∷ data_for five 8 ∷ Call.tick (replicate tick_room 0) ∷ []

pub two_layouts : (streams (after rolled history) ≡ 5 ∷ 9 ∷ 0 ∷ []) × (streams (in_old_layout history) ≡ 9 ∷ 5 ∷ 0 ∷ [])
unfolding set_up less_free in_place hear heard_by delivered_at_once tick late due hold_over lapsed legal carries first on_first some
two_layouts = (refl, refl)

abbrev delivered_in_one_pass : Node → List ℕ
delivered_in_one_pass n = (tick rolled (replicate tick_room 0) n).bytes

pub ascending_in_order : delivered_in_one_pass (after rolled history) ≡ record_of five (8 ∷ []) ++ record_of nine (7 ∷ [])
unfolding set_up less_free in_place hear heard_by delivered_at_once tick late due
    hold_over lapsed due_slots records_from record_of legal carries first on_first some
ascending_in_order = refl

pub not_ascending_otherwise : delivered_in_one_pass (in_old_layout history) ≡ record_of nine (7 ∷ []) ++ record_of five (8 ∷ [])
unfolding hear heard_by delivered_at_once tick late due hold_over lapsed due_slots records_from record_of legal carries first on_first some
not_ascending_otherwise = refl

-- ── the next frame ──
-- both send a plain frame
abbrev sends_plain : Stream → List Call
sends_plain s = Call.set_up s (of_plain 1) ∷ Call.request s (7 ∷ []) ∷ []

abbrev given_by_first : Node → ℕ
given_by_first n = (next_frame (replicate next_room 0) n).id.0

pub lowest_in_order : given_by_first (after rolled (sends_plain nine ++ sends_plain five)) ≡ 23
unfolding set_up less_free in_place request requested join give next_frame legal first on_first some
lowest_in_order = refl

-- slots with nothing pending are passed over
pub first_with_any : given_by_first (after rolled (sends_plain nine ++ (Call.set_up five imd ∷ []))) ≡ 39
unfolding set_up less_free in_place request requested join give next_frame legal first on_first some
first_with_any = refl

pub not_lowest_otherwise : given_by_first (in_old_layout (sends_plain nine ++ sends_plain five)) ≡ 39
unfolding request requested join give next_frame legal first on_first some
not_lowest_otherwise = refl
