-- On slots in stream order, as calls leave them, the identifier that next frame gives out is pending and none that is pending is lower; it
-- answers Nothing exactly where no frame is pending.
use Rattle.std.proofs.Common.{◌≡◌, ℕ, ◌≤◌, Bool, true, false, eqb, ltb, List, [], ◌∷◌, length, refl, ap, arith, le-ltb}
use mathlib.Core.List.{Memᴰ}
use Rattle.wire.specs.declared.reply.Reply.{Reply}
use Rattle.wire.specs.declared.reply.Reply.TheVariants.{Done, Nothing}
use Rattle.wire.specs.Replies.{number_of}
use Rattle.node.specs.declared.Node.{Node}
use Rattle.node.specs.Nodes.{Outcome}
use Rattle.node.specs.NextFrame.{next_room, next_frame}
use Rattle.node.specs.OldLayout.{pending_ids, give_by_id, next_by_id}
use Rattle.node.specs.Reachable.{InOrder}
use Rattle.node.specs.Clock.{Clock}
use Rattle.node.specs.Calls.{Call, after}
use Rattle.node.proofs.Choices.{contrary}
use Rattle.node.proofs.Cases.{by_case}
use Rattle.node.proofs.slot_order.LowestOfAll.{lowest_is_one, none_lower}
use Rattle.node.proofs.slot_order.NextFrameInOrder.{next_in_order, next_by_id_cases}
use Rattle.node.proofs.slot_order.InStreamOrder.{stream_order_unseen}

pub record LowestOf (ids : List ℕ) (i : ℕ) : Type 0 where
  pub is_one : Memᴰ i ids
  pub none_is_lower : (j : ℕ) → Memᴰ j ids → i ≤ j

module _ (output : List ℕ) (n : Node) (h : InOrder n.slots) where
  pub given_id_is_lowest : (next_frame output n).reply ≡ Done → LowestOf (pending_ids n.slots) (next_frame output n).id.0
  unfolding give_by_id
  given_id_is_lowest =
      by_case (λ (o : Outcome). o.reply ≡ Done → LowestOf (pending_ids n.slots) o.id.0)
      (λ r why done. contrary (ap (λ (q : Reply). eqb (number_of q) 0) done) ((next_by_id_cases output n h).not_done r why))
      (λ facts done.
      record { is_one = lowest_is_one (pending_ids n.slots) facts.pending; none_is_lower = λ j m. none_lower (pending_ids n.slots) m })
      (next_by_id_cases output n h).case

  pub nothing_answered : next_room ≤ length output → pending_ids n.slots ≡ [] → (next_frame output n).reply ≡ Nothing
  unfolding next_by_id
  nothing_answered room none = rw (next_in_order output n h, le-ltb (length output) next_room room, none)

  pub nothing_pending : (next_frame output n).reply ≡ Nothing → pending_ids n.slots ≡ []
  unfolding next_by_id give_by_id
  nothing_pending nothing = go (pending_ids n.slots) (ltb (length output) next_room) refl refl (rw (next_in_order output n h) at nothing)
    where
      go : (ids : List ℕ) (short : Bool) → pending_ids n.slots ≡ ids → ltb (length output) next_room ≡ short → (next_by_id output n).reply ≡ Nothing → ids ≡ []
      go [] short e s answered = refl
      go (i ∷ ids) true e s answered = absurd (let z : ◌≡◌ {A = ℕ} 11 12 = ap number_of (rw s at answered) in omega arith)
      go (i ∷ ids) false e s answered = absurd (let z : ◌≡◌ {A = ℕ} 0 12 = ap number_of (rw (s, e) at answered) in omega arith)

-- so it is after any calls
pub lowest_after : (clock : Clock) (calls : List Call) (output : List ℕ)
    → let n = after clock calls in (next_frame output n).reply ≡ Done → LowestOf (pending_ids n.slots) (next_frame output n).id.0
lowest_after clock calls output = given_id_is_lowest output (after clock calls) (stream_order_unseen clock calls).in_order
