-- What each call promises, `exact` and `unbounded`, follows from its outcome being what the definition says with counts
-- that roll over.
use Rattle.std.proofs.Common.{◌≡◌, ℕ, List, sym}
use mathlib.Core.Path.{subst}
use Rattle.wire.specs.Delivered.{over}
use Rattle.node.specs.declared.Node.{Node}
use Rattle.node.specs.Nodes.{Outcome}
use Rattle.node.specs.Clock.{unbounded, rolled}
use Rattle.node.specs.Calls.{Call, outcome, after, roll_outcome}
use Rattle.node.proofs.rollover.SameAnswers.{unrolled}

same_outcome : (c : Call) (n : Node) (h : List Call) → n ≡ after rolled h
    → outcome rolled c n ≡ roll_outcome (outcome unbounded c (after unbounded h))
same_outcome c n h reached = rw reached (unrolled h c)

module _ {R : Type 0} (answer : Outcome → R) where
  -- what an outcome answers, and leaves of the node
  abbrev pub Answers : Outcome → (r : R) (left : Node) → Type 0
  Answers o r left = (r ≡ answer o) × (left ≡ o.node)

  -- and of a lent output
  abbrev pub AnswersWritten : (output : List ℕ) → Outcome → (r : R) (left : Node) (written : List ℕ) → Type 0
  AnswersWritten output o r left written = (r ≡ answer o) × (left ≡ o.node) × (written ≡ over o.bytes output)

module _ (c : Call) (n : Node) {R : Type 0} (answer : Outcome → R) where
  -- a call that answers, and changes the node
  abbrev pub Promised : (r : R) (left : Node) → Type 0
  Promised r left =
      Answers answer (outcome rolled c n) r left
      × ((h : List Call) → n ≡ after rolled h → Answers answer (roll_outcome (outcome unbounded c (after unbounded h))) r left)

  pub promised : {r : R} {left : Node} {o : Outcome} → outcome rolled c n ≡ o → Answers answer o r left → Promised r left
  promised {r} {left} does says =
      let exact = subst (λ (o : Outcome). Answers answer o r left) (sym does) says in
      (exact, λ h reached. subst (λ (o : Outcome). Answers answer o r left) (same_outcome c n h reached) exact)

  -- a call that answers, changes the node, and writes to a lent output
  module _ (output : List ℕ) where
    abbrev pub PromisedWritten : (r : R) (left : Node) (written : List ℕ) → Type 0
    PromisedWritten r left written =
        AnswersWritten answer output (outcome rolled c n) r left written
        × ((h : List Call) → n ≡ after rolled h
        → AnswersWritten answer output (roll_outcome (outcome unbounded c (after unbounded h))) r left written)

    pub promised_exact : {r : R} {left : Node} {written : List ℕ} → AnswersWritten answer output (outcome rolled c n) r left written
        → PromisedWritten r left written
    promised_exact {r} {left} {written} exact = (
      exact,
      λ h reached. subst (λ (o : Outcome). AnswersWritten answer output o r left written) (same_outcome c n h reached) exact,
    )

    pub promised_written : {r : R} {left : Node} {written : List ℕ} {o : Outcome} → outcome rolled c n ≡ o
        → AnswersWritten answer output o r left written → PromisedWritten r left written
    promised_written {r} {left} {written} does says = promised_exact (subst (λ (o : Outcome). AnswersWritten answer output o r left written) (sym does) says)
