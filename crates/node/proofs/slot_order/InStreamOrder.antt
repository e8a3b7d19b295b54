-- With the slots in stream order every history has the same answers as in the old layout, and leaves the same slots.
use Rattle.std.proofs.Common.{◌≡◌, sym, refl, ◌∙◌}
use Rattle.wire.specs.Identifiers.{stream_of, code_of}
use Rattle.wire.specs.Refusals.{Refusals}
use Rattle.node.specs.declared.Node.{Node}
use Rattle.node.specs.Slots.{is_of}
use Rattle.node.specs.Nodes.{fresh, slot_count, Outcome}
use Rattle.node.specs.Clock.{Clock}
use Rattle.node.specs.SetUp.{in_place, set_up}
use Rattle.node.specs.Hear.{heard_by}
use Rattle.node.specs.Tick.{tick_slot}
use Rattle.node.specs.Request.{requested}
use Rattle.node.specs.NextFrame.{has_frame, lowest_given, give}
use Rattle.node.specs.Calls.{Call, outcome, answer_of}
use Rattle.node.specs.Reachable.{InOrder}
use Rattle.node.specs.OldLayout.{first_free, outcome_in, old_outcome}
use Rattle.node.specs.SlotOrder.{SameSlots, StreamOrderUnseen}
use Rattle.node.proofs.Cases.{Case, by_case}
use Rattle.node.proofs.set_up.Cases.{set_up_cases}
use Rattle.node.proofs.hear.Cases.{hear_cases}
use Rattle.node.proofs.tick.Cases.{tick_cases}
use Rattle.node.proofs.request.Cases.{request_cases}
use Rattle.node.proofs.next_frame.Cases.{next_cases}
use Rattle.node.proofs.slots.Streams.{heard_keeps, requested_keeps, lowest_given_keeps}
use Rattle.node.proofs.slots.InOrder.{set_up_in_order, fresh_in_order, map_in_order, on_first_in_order}
use Rattle.node.proofs.slot_order.Settled.{tick_keeps}
use Rattle.node.proofs.slot_order.EveryCall.{layout_unseen, in_every_history, first_free_fills, as_answers, as_after, same_fresh}
use Rattle.node.proofs.slot_order.InPlace.{in_place_fills}
use Rattle.node.proofs.slot_order.TickInOrder.{tick_in_order}
use Rattle.node.proofs.slot_order.NextFrameInOrder.{next_in_order}

-- ── on slots in order the calls are those of the layout ──
pub as_in_place : (clock : Clock) (c : Call) (n : Node) → InOrder n.slots → outcome clock c n ≡ outcome_in in_place clock c n
unfolding set_up
as_in_place clock (Call.set_up s settings) n h = refl
as_in_place clock (Call.hear id dlc payload output) n h = refl
as_in_place clock (Call.tick output) n h = tick_in_order clock output n h
as_in_place clock (Call.request s payload) n h = refl
as_in_place clock (Call.next_frame output) n h = next_in_order output n h

-- ── and the order stays ──
module _ (n : Node) (h : InOrder n.slots) where
  in_order_unless : {tests : Refusals} {Facts : Type 0} {result o : Outcome} → Case n tests Facts result o
      → (Facts → InOrder result.node.slots) → InOrder o.node.slots
  in_order_unless c step = by_case (λ (o : Outcome). InOrder o.node.slots) (λ r why. h) step c

  pub stays_in_order : (clock : Clock) (c : Call) → InOrder (outcome clock c n).node.slots
  unfolding give
  stays_in_order clock (Call.set_up s settings) =
      in_order_unless (set_up_cases s settings n).case (λ facts. set_up_in_order s settings n.slots facts.new h)
  stays_in_order clock (Call.hear id dlc payload output) =
      in_order_unless (hear_cases id dlc payload output n).case
      (λ facts. on_first_in_order (heard_by n.counter (code_of id) payload) (heard_keeps n.counter (code_of id) payload) (is_of (stream_of id)) n.slots h)
  stays_in_order clock (Call.tick output) =
      let now = clock.next n.counter in
      in_order_unless (tick_cases output clock n).case (λ facts. map_in_order (tick_slot clock now) (tick_keeps clock now) n.slots h)
  stays_in_order clock (Call.request s payload) =
      in_order_unless (request_cases payload s n).case
      (λ facts. on_first_in_order (requested n.counter payload) (requested_keeps n.counter payload) (is_of s) n.slots h)
  stays_in_order clock (Call.next_frame output) =
      in_order_unless (next_cases output n).case (λ facts. on_first_in_order lowest_given lowest_given_keeps has_frame n.slots h)

-- ── every history ──
abbrev SameInOrder : Node → Node → Type 0
SameInOrder n m = SameSlots n m × InOrder n.slots

pub same_in_order : (clock : Clock) (c : Call) (n m : Node) → SameInOrder n m
    → (answer_of (outcome clock c n) ≡ answer_of (old_outcome clock c m)) × SameInOrder (outcome clock c n).node (old_outcome clock c m).node
same_in_order clock c n m (same, h) =
    let both = layout_unseen in_place first_free in_place_fills first_free_fills clock c n m same in
    (rw (as_in_place clock c n h) both.answer, (rw (as_in_place clock c n h) both.node, stays_in_order n h clock c))

pub stream_order_unseen : StreamOrderUnseen
stream_order_unseen clock calls =
    let all = in_every_history (outcome clock) (old_outcome clock) SameInOrder (same_in_order clock) calls fresh fresh
    (same_fresh, fresh_in_order slot_count) in
    record {
      same_answers = sym (as_answers clock calls fresh) ∙ all.0;
      same_slots = rw (← (as_after clock calls fresh)) all.1.0;
      in_order = rw (← (as_after clock calls fresh)) all.1.1;
    }
