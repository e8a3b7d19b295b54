-- What every reached node keeps is kept by every call.
use Rattle.std.proofs.Common.{◌≡◌, ℕ, ◌+◌, ◌-◌, Bool, true, List, [], ◌∷◌, length, refl, ◌∙◌}
use mathlib.Core.Bool.{and-eq-true_iff}
use lib.ListN.{length-map}
use Rattle.wire.specs.declared.ids.Stream.{Stream}
use Rattle.wire.specs.declared.ids.BusId.{BusId}
use Rattle.wire.specs.declared.settings.Settings.{Settings}
use Rattle.wire.specs.Identifiers.{stream_of, code_of}
use Rattle.wire.specs.Frames.{is_bare}
use Rattle.wire.proofs.Frames.{frame_length}
use Rattle.wire.specs.Refusals.{Refusals}
use Rattle.node.specs.declared.slots.Slot.{Slot}
use Rattle.node.specs.declared.Node.{Node}
use Rattle.node.specs.Slots.{slot_for, empty, is_of, first, on_first}
use Rattle.node.specs.Nodes.{fresh, slot_count, slot_of, with_slots, Outcome}
use Rattle.node.specs.Clock.{unbounded}
use Rattle.node.specs.SetUp.{set_up}
use Rattle.node.specs.Hear.{hear, heard_by}
use Rattle.node.specs.Tick.{tick, tick_slot}
use Rattle.node.specs.Request.{has_pending, request, requested}
use Rattle.node.specs.NextFrame.{has_frame, lowest_code, lowest_given, give, next_frame}
use Rattle.node.specs.Calls.{Call, outcome, after_from, after}
use Rattle.node.specs.Reachable.{KeptSlot, Kept}
use Rattle.node.proofs.Cases.{Case, by_case}
use Rattle.node.proofs.set_up.Cases.{set_up_cases}
use Rattle.node.proofs.hear.Cases.{hear_cases}
use Rattle.node.proofs.tick.Cases.{tick_cases}
use Rattle.node.proofs.request.Cases.{request_cases}
use Rattle.node.proofs.next_frame.Cases.{next_cases}
use Rattle.node.proofs.slots.Table.{length_on_first, all_map, all_replicate, all_first, all_on_first}
use Rattle.node.proofs.slots.Streams.{KeepsKind, heard_keeps, lapsed_keeps, requested_keeps, lowest_given_keeps}
use Rattle.node.proofs.slots.InOrder.{all_in_place, length_in_place, set_up_in_order, fresh_in_order, map_in_order, on_first_in_order}
use Rattle.node.proofs.kept.EachSlot.{kept_empty, kept_set_up, kept_heard, kept_lapsed, kept_requested, kept_given_out}

pub kept_fresh : Kept fresh
kept_fresh = record { slots_32 = refl; in_order = fresh_in_order slot_count; each = all_replicate (KeptSlot 0) slot_count empty (kept_empty 0) }

module _ (n : Node) (k : Kept n) where
  -- a refusal keeps all
  kept_unless : {tests : Refusals} {Facts : Type 0} {result o : Outcome} → Case n tests Facts result o → (Facts → Kept result.node) → Kept o.node
  kept_unless c step = by_case (λ o. Kept o.node) (λ r why. k) step c

  set_up_keeps : (s : Stream) (settings : Settings) → Kept (set_up s settings n).node
  set_up_keeps s settings =
      kept_unless (set_up_cases s settings n).case λ h.
      record {
        slots_32 = length_in_place (slot_for s settings) n.slots h.room ∙ k.slots_32;
        in_order = set_up_in_order s settings n.slots h.new k.in_order;
        each = all_in_place (KeptSlot n.counter) (slot_for s settings) (kept_set_up n.counter s settings h.lawful) n.slots k.each;
      }

  -- a change of one slot
  on_first_keeps : (test : Slot → Bool) (f : Slot → Slot) → KeepsKind f
      → (let x = first test n.slots in test x ≡ true → KeptSlot n.counter x → KeptSlot n.counter (f x))
      → Kept (with_slots (on_first test f n.slots) n)
  on_first_keeps test f keeps step =
      record {
        slots_32 = length_on_first test f n.slots ∙ k.slots_32;
        in_order = on_first_in_order f keeps test n.slots k.in_order;
        each = all_on_first (KeptSlot n.counter) test f n.slots k.each step;
      }

  -- the slot of any stream, the empty one where it has none
  pub slot_kept : (s : Stream) → KeptSlot n.counter (slot_of s n)
  slot_kept s = all_first (KeptSlot n.counter) (is_of s) (kept_empty n.counter) n.slots k.each

  hear_keeps : (id : BusId) (dlc : ℕ) (payload output : List ℕ) → Kept (hear id dlc payload output n).node
  hear_keeps id dlc payload output =
      kept_unless (hear_cases id dlc payload output n).case λ h.
      on_first_keeps (is_of (stream_of id)) (heard_by n.counter (code_of id) payload) (heard_keeps n.counter (code_of id) payload)
      (λ here kx.
      kept_heard n.counter (slot_of (stream_of id) n) kx (code_of id) payload h.own h.fits (frame_length (is_bare id) id dlc (length payload) h.good))

  tick_keeps : (output : List ℕ) → Kept (tick unbounded output n).node
  tick_keeps output =
      kept_unless (tick_cases output unbounded n).case λ h.
      record {
        slots_32 = length-map n.slots _ ∙ k.slots_32;
        in_order = map_in_order (tick_slot unbounded (n.counter + 1)) (λ x. lapsed_keeps (n.counter + 1 - x.message.stamp) x) n.slots k.in_order;
        each = all_map (KeptSlot n.counter) (KeptSlot (n.counter + 1)) _ (kept_lapsed n.counter) n.slots k.each;
      }

  request_keeps : (s : Stream) (payload : List ℕ) → Kept (request s payload n).node
  request_keeps s payload =
      kept_unless (request_cases payload s n).case λ h.
      on_first_keeps (is_of s) (requested n.counter payload) (requested_keeps n.counter payload)
      (λ here kx. kept_requested n.counter (slot_of s n) kx payload h.own h.short)

  next_frame_keeps : (output : List ℕ) → Kept (next_frame output n).node
  unfolding give
  next_frame_keeps output =
      kept_unless (next_cases output n).case λ h.
      on_first_keeps has_frame lowest_given lowest_given_keeps
      (λ here kx. let x = first has_frame n.slots in kept_given_out n.counter x kx (lowest_code x) (used x here))
    where
      -- a frame is pending only in a slot that is set up
      used : (x : Slot) → has_frame x ≡ true → x.used ≡ true
      used x frame = ((and-eq-true_iff x.used _).0 ((and-eq-true_iff (has_pending x.pending) _).0 frame).1).0

pub kept_by : (c : Call) (n : Node) → Kept n → Kept (outcome unbounded c n).node
kept_by (Call.set_up s settings) n k = set_up_keeps n k s settings
kept_by (Call.hear id dlc payload output) n k = hear_keeps n k id dlc payload output
kept_by (Call.tick output) n k = tick_keeps n k output
kept_by (Call.request s payload) n k = request_keeps n k s payload
kept_by (Call.next_frame output) n k = next_frame_keeps n k output

pub kept_from : (n : Node) → Kept n → (h : List Call) → Kept (after_from unbounded n h)
kept_from n k [] = k
kept_from n k (c ∷ cs) = kept_from (outcome unbounded c n).node (kept_by c n k) cs

pub kept : (h : List Call) → Kept (after unbounded h)
kept h = kept_from fresh kept_fresh h
