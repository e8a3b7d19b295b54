-- The order of the slots is seen by no caller: a node that keeps them in stream order and one in the old layout give the same answers in every
-- history, and hold the same slots. The statements; their proofs are in slot_order.
use Rattle.std.specs.Prelude.{◌≡◌, true, false, List, [], ◌∷◌}
use mathlib.Core.List.{Permᴰ}
use Rattle.node.specs.declared.slots.Slot.{Slot}
use Rattle.node.specs.declared.Node.{Node}
use Rattle.node.specs.Slots.{empty, is_of, is_free, some}
use Rattle.node.specs.Nodes.{fresh, Outcome}
use Rattle.node.specs.Clock.{Clock}
use Rattle.node.specs.Calls.{Call, after, Answer, answer_of, answers}
use Rattle.node.specs.Reachable.{All, InOrder}
use Rattle.node.specs.OldLayout.{Layout, first_free, outcome_in, old_outcome}

-- ── the same slots ──
-- the stream of a used slot is that of no later one
abbrev pub Distinct : List Slot → Type 0
Distinct [] = Unit {0}
Distinct (x ∷ xs) = (x.used ≡ true → some (is_of x.stream) xs ≡ false) × Distinct xs

-- no two slots are of one stream, and a free one is empty
pub record Settled (xs : List Slot) : Type 0 where
  pub distinct : Distinct xs
  pub free : All (λ x. x.used ≡ false → x ≡ empty) xs

-- the same slots, which are settled, in some order; and the same counter
pub record SameSlots (n m : Node) : Type 0 where
  pub settled : Settled n.slots
  pub slots : Permᴰ n.slots m.slots
  pub counter : n.counter ≡ m.counter

-- the same reply, identifier and bytes; and again the same slots in some order
pub record SameOutcome (o p : Outcome) : Type 0 where
  pub answer : answer_of o ≡ answer_of p
  pub node : SameSlots o.node p.node

-- histories of calls that do this
module _ (does : Call → Node → Outcome) where
  abbrev pub after_by : Node → List Call → Node
  after_by n [] = n
  after_by n (c ∷ cs) = after_by (does c n).node cs

  abbrev pub answers_by : Node → List Call → List Answer
  answers_by n [] = []
  answers_by n (c ∷ cs) = answer_of (does c n) ∷ answers_by (does c n).node cs

-- ── where set up puts a slot ──
-- any place will do, and the other slots may move: all that counts is that the table has the slot instead of a free one
abbrev pub Fills : Layout → Type 0
Fills put = (x : Slot) (xs : List Slot) → some is_free xs ≡ true → Permᴰ (put x xs) (first_free x xs)

-- of each call, in any two layouts
abbrev pub LayoutUnseen : Type 0
LayoutUnseen =
    (a b : Layout) → Fills a → Fills b → (clock : Clock) (c : Call) (n m : Node) → SameSlots n m
    → SameOutcome (outcome_in a clock c n) (outcome_in b clock c m)

-- ── the old layout, and stream order ──
pub record SameHistory (clock : Clock) (calls : List Call) : Type 0 where
  pub same_answers : answers clock calls ≡ answers_by (old_outcome clock) fresh calls
  pub same_slots : SameSlots (after clock calls) (after_by (old_outcome clock) fresh calls)
  pub in_order : InOrder (after clock calls).slots

abbrev pub StreamOrderUnseen : Type 0
StreamOrderUnseen = (clock : Clock) (calls : List Call) → SameHistory clock calls
