-- A call's answer as C gets it: the number of its reply, and its values, which are 0 where it is refused.
use Rattle.std.proofs.Common.{◌≡◌, Bool, true, false, cond, List, ℕ, Result, Ok, Err, length, refl, sym, ap, ◌∙◌}
use Rattle.std.specs.Result.{result_unwrap_or}
use Rattle.wire.specs.declared.reply.Reply.{Reply}
use Rattle.wire.specs.Replies.{number_of}
use Rattle.wire.specs.Answers.{is_done, answered}
use Rattle.node.specs.declared.Node.{Node}
use Rattle.node.specs.declared.Heard.{Heard}
use Rattle.node.specs.declared.Ticked.{Ticked}
use Rattle.node.specs.declared.Given.{Given}
use Rattle.node.specs.Nodes.{Outcome, refused}
use Rattle.node.specs.Clock.{rolled}
use Rattle.node.specs.Calls.{Call, outcome}
use Rattle.node_bytes.specs.LentCalls.{lent_outcome}
use Rattle.node_bytes.proofs.LentHistories.{refusal_alone, lent_refusal_alone}
use Rattle.module.specs.Tallies.{reply_in}
use Rattle.module.proofs.Replies.{reply_so}

pub number_so : {A : Type 0} (r : Reply) (value : A) → number_of (reply_in (answered r value)) ≡ number_of r
number_so r value = ap number_of (reply_so r value)

-- what C is told of an answer: its number, and its values
module _ {V : Type 0} (values : Outcome → V) where
  says : (o : Outcome) → (is_done o.reply ≡ false → o ≡ refused o.node o.reply) → {answer : Result V Reply} {number : ℕ} {value : V}
      → answer ≡ answered o.reply (values o) → number ≡ number_of (reply_in answer) → value ≡ result_unwrap_or answer (values (refused o.node o.reply))
      → (number ≡ number_of o.reply) × (value ≡ values o)
  says o alone same counted or_none = (
    counted ∙ ap (λ r. number_of (reply_in r)) same ∙ number_so o.reply (values o),
    or_none ∙ ap (λ r. result_unwrap_or r (values (refused o.node o.reply))) same ∙ go (is_done o.reply) refl,
  )
    where
      go : (b : Bool) → is_done o.reply ≡ b → result_unwrap_or (cond b (Ok (values o)) (Err o.reply)) (values (refused o.node o.reply)) ≡ values o
      go true e = refl
      go false e = ap values (sym (alone e))

  module _ (c : Call) where
    pub call_says : (n : Node) {answer : Result V Reply} {number : ℕ} {value : V} → let o = outcome rolled c n in answer ≡ answered o.reply (values o)
        → number ≡ number_of (reply_in answer) → value ≡ result_unwrap_or answer (values (refused o.node o.reply))
        → (number ≡ number_of o.reply) × (value ≡ values o)
    call_says n = says (outcome rolled c n) (refusal_alone c n)

    pub lent_call_says : (bytes : List ℕ) {answer : Result V Reply} {number : ℕ} {value : V} → let o = lent_outcome c bytes in
        answer ≡ answered o.reply (values o) → number ≡ number_of (reply_in answer) → value ≡ result_unwrap_or answer (values (refused o.node o.reply))
        → (number ≡ number_of o.reply) × (value ≡ values o)
    lent_call_says bytes = says (lent_outcome c bytes) (lent_refusal_alone c bytes)

-- the values of each call
abbrev pub heard_values : Outcome → Heard
heard_values o = record { written = length o.bytes; told = o.report.frame }

abbrev pub ticked_values : Outcome → Ticked
ticked_values o = record { written = length o.bytes; dropped = o.report.dropped; delivered = o.report.delivered }

abbrev pub given_values : Outcome → Given
given_values o = record { id = o.id; len = length o.bytes }
