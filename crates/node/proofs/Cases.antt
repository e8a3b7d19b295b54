-- The outcome of a call, by cases: the first of its tests that holds refused it, or none did and it was accepted.
use Rattle.std.proofs.Common.{◌≡◌, Bool, true, false, cond, eqb, [], ◌∷◌, refl}
use Rattle.wire.specs.declared.reply.Reply.{Reply}
use Rattle.wire.specs.Replies.{number_of}
use Rattle.wire.specs.Refusals.{Refusals}
use Rattle.node.specs.declared.Node.{Node}
use Rattle.node.specs.Nodes.{Outcome, refused, unless_refused}
use Rattle.wire.proofs.Refusing.{Refuses, here, later, Passes, refusing, refused_not_passed, refused_not_done}

-- An outcome of a call that these tests may refuse: a refusal with its number, or what is done, with the facts that led there.
pub data Case (n : Node) (tests : Refusals) (Facts : Type 0) (result : Outcome) : Outcome → Type 0 where
  refusal : {r : Reply} → Refuses tests r → Case n tests Facts result (refused n r)
  accepted : Facts → Case n tests Facts result result

-- what holds of every refusal, and of what is done if the facts hold, holds of the outcome
pub by_case : {n : Node} {tests : Refusals} {Facts : Type 0} {result o : Outcome} (P : Outcome → Type 0)
    → ((r : Reply) → Refuses tests r → P (refused n r)) → (Facts → P result) → Case n tests Facts result o → P o
by_case P if_refused if_accepted (refusal {r} why) = if_refused r why
by_case P if_refused if_accepted (accepted facts) = if_accepted facts

-- what the tests decide, either way
pub refuses : (n : Node) (result : Outcome) {tests : Refusals} {r : Reply} → Refuses tests r → unless_refused n tests result ≡ refused n r
refuses n result (here e) = rw e
refuses n result (later e rest) = rw e (refuses n result rest)

pub passes : (n : Node) (result : Outcome) (tests : Refusals) → Passes tests → unless_refused n tests result ≡ result
passes n result [] p = refl
passes n result ((r, t) ∷ rest) p = rw p.0 (passes n result rest p.1)

by_tests : (n : Node) (result : Outcome) (tests : Refusals) {Facts : Type 0} → (Passes tests → Facts)
    → Case n tests Facts result (unless_refused n tests result)
by_tests n result [] facts = accepted (facts tt)
by_tests n result ((r, t) ∷ rest) {Facts} facts = go t refl (λ e. by_tests n result rest (λ p. facts (e, p)))
  where
    go : (b : Bool) → t ≡ b → (t ≡ false → Case n rest Facts result (unless_refused n rest result))
        → Case n ((r, t) ∷ rest) Facts result (cond b (refused n r) (unless_refused n rest result))
    go true e otherwise = refusal (here e)
    go false e otherwise = by_case (Case n ((r, t) ∷ rest) Facts result) (λ q why. refusal (later e why)) accepted (otherwise e)

-- THE CASE LAW of a call: its outcome by cases, and the outcome from what led to each of them
pub record Cases (n : Node) (tests : Refusals) (Facts : Type 0) (result o : Outcome) : Type 0 where
  pub case : Case n tests Facts result o
  pub refused_if : (r : Reply) → Refuses tests r → o ≡ refused n r
  pub accepted_if : Facts → o ≡ result
  pub not_both : (r : Reply) → Refuses tests r → Facts → ⊥
  pub not_done : (r : Reply) → Refuses tests r → eqb (number_of r) 0 ≡ false

pub cases : (n : Node) (tests : Refusals) (result : Outcome) {Facts : Type 0} → refusing tests ≡ true → (Passes tests → Facts) → (Facts → Passes tests)
    → Cases n tests Facts result (unless_refused n tests result)
cases n tests result all facts back =
    record {
      case = by_tests n result tests facts;
      refused_if = λ r why. refuses n result why;
      accepted_if = λ h. passes n result tests (back h);
      not_both = λ r why h. refused_not_passed why (back h);
      not_done = λ r why. refused_not_done all why;
    }
