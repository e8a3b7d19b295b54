-- Over every history C sees what the definitions say with ticks counted without bound.
use Prim.Native.Nat.{ℕ}
use mathlib.Core.Path.{◌≡◌, refl, ap, ap₂, ◌∙◌}
use mathlib.Core.List.{List, ◌∷◌}
use Rattle.node.specs.declared.Node.{Node}
use Rattle.node.specs.Nodes.{fresh, Outcome}
use Rattle.node.specs.Clock.{unbounded, rolled}
use Rattle.node.specs.Calls.{Call, set_up, hear, tick, request, next_frame, outcome, after_from, roll, roll_outcome}
use Rattle.node.specs.Reachable.{Kept}
use Rattle.node.proofs.kept.EveryCall.{kept_fresh, kept_by}
use Rattle.node.proofs.rollover.SameAnswers.{rolls}
use Rattle.firmware.specs.Histories.{Returned, Promised, node_in, Seen, seen, seen_of, seen_from, Run, start, next, EveryHistory}

-- a call that kept its promise: what is seen of it, and the node that it gives back
seen_so : (c : Call) (n : Node) (r : Returned c) (left : List ℕ) → Promised c n r left → seen c r left ≡ seen_of c (outcome rolled c n)
seen_so (set_up s settings) n r left p = rw p
seen_so (hear id dlc payload output) n r left p = rw (p.0, p.1)
seen_so (tick output) n r left p = rw (p.0, p.1)
seen_so (request s payload) n r left p = rw p
seen_so (next_frame output) n r left p = rw (p.0, p.1)

node_so : (c : Call) (n : Node) (r : Returned c) (left : List ℕ) → Promised c n r left → node_in c r ≡ (outcome rolled c n).node
node_so (set_up s settings) n r left p = rw p
node_so (hear id dlc payload output) n r left p = rw p.0
node_so (tick output) n r left p = rw p.0
node_so (request s payload) n r left p = rw p
node_so (next_frame output) n r left p = rw p.0

-- rolling over hides nothing of it
pub seen_rolls : (c : Call) (o : Outcome) → seen_of c (roll_outcome o) ≡ seen_of c o
seen_rolls (set_up s settings) o = refl
seen_rolls (hear id dlc payload output) o = refl
seen_rolls (tick output) o = refl
seen_rolls (request s payload) o = refl
seen_rolls (next_frame output) o = refl

module _ (u : Node) (k : Kept u) {n : Node} (e : n ≡ roll u) (c : Call) (r : Returned c) (left : List ℕ) (p : Promised c n r left) where
  seen_unbounded : seen c r left ≡ seen_of c (outcome unbounded c u)
  seen_unbounded =
      seen_so c n r left p ∙ ap (λ (m : Node). seen_of c (outcome rolled c m)) e ∙ ap (seen_of c) (rolls c u k) ∙ seen_rolls c (outcome unbounded c u)

  node_unbounded : node_in c r ≡ roll (outcome unbounded c u).node
  node_unbounded =
      node_so c n r left p ∙ ap (λ (m : Node). (outcome rolled c m).node) e ∙ ap (λ (o : Outcome). o.node) (rolls c u k)

run_so : (u : Node) → Kept u → {n end : Node} {calls : List Call} {xs : List Seen} → n ≡ roll u → Run n calls xs end
    → (xs ≡ seen_from unbounded u calls) × (end ≡ roll (after_from unbounded u calls))
run_so u k e start = (refl, e)
run_so u k e (next {cs = cs} c r left p rest) =
    let later = run_so (outcome unbounded c u).node (kept_by c u k) (node_unbounded u k e c r left p) rest in
    (ap₂ (λ (x : Seen) (l : List Seen). x ∷ l) (seen_unbounded u k e c r left p) later.0, later.1)

pub every_history : EveryHistory
every_history calls xs end run = run_so fresh kept_fresh refl run
