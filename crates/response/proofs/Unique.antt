-- Every public promise of the crate is met by one answer only, and by one content of the lent output.
use mathlib.Core.Path.{◌≡◌, refl, sym, ap, ◌∙◌}
use mathlib.Core.List.{List}
use Rattle.std.specs.Prelude.{Result, Ok, Err}
use Prim.Native.Nat.{ℕ}
use seplogic.Ra.Ura.{Ura}
use base.Logic.{SProp}
use prog.Memory.{Memory}
use prog.Routine.{Routine}
use types.Logic.{Logic}
use contract.Lifetimes.{Lfts}
use contract.Monad.{Fun, fact}
use denote.Triple.Clauses.{AtExit}
use denote.Triple.Entry.{Args, Res}
use Rattle.wire.specs.Uniqueness.{OneAnswer, OneContent}
use Rattle.wire.proofs.Unique.{same}
use Rattle.response.specs.declared.streams.StreamRecord.{StreamRecord}
use Rattle.response.specs.declared.streams.Errors.{Errors}
use Rattle.response.specs.declared.refusal.Refusal.{Refusal}
use Rattle.response.specs.declared.refusal.Refusal.TheVariants as refusal
use Rattle.response.specs.Verdicts.{Verdict, Done, ShortOutput, BadStream, Late, verdict_of}
use Rattle.response.specs.Sheet.{Answers}
use Rattle.response.proofs.streams.StreamRecord.legal.Reads as legal_record
use Rattle.response.proofs.streams.Errors.legal.Reads as legal_errors
use Rattle.response.proofs.refusal.Refusal.number.Reads as refusal_number
use Rattle.response.proofs.refusal.Refusal.position.Reads as refusal_position
use Rattle.response.proofs.refusal.number_of.Reads as number
use Rattle.response.proofs.refusal.position_of.Reads as position
use Rattle.response.proofs.lent.solve_array.Reads as solve_array
use Rattle.response.specs.contracts.lent.solve as solve

pub legal_record_unique : OneAnswer legal_record.Post
legal_record_unique l input a b s t = same

pub legal_errors_unique : OneAnswer legal_errors.Post
legal_errors_unique l input a b s t = same

pub refusal_number_unique : OneAnswer refusal_number.Post
refusal_number_unique l input a b s t = same

pub refusal_position_unique : OneAnswer refusal_position.Post
refusal_position_unique l input a b s t = same

-- of every answer, Done too
pub number_unique : OneAnswer number.Post
number_unique l input a b s t = same

pub position_unique : OneAnswer position.Post
position_unique l input a b s t = same

-- a verdict is that of one answer
abbrev answer_of : Verdict → Result Unit Refusal
answer_of Done = Ok tt
answer_of ShortOutput = Err refusal.ShortOutput
answer_of BadStream = Err refusal.BadStream
answer_of (Late at) = Err (refusal.Late at)

answer_back : (r : Result Unit Refusal) → answer_of (verdict_of r) ≡ r
answer_back (Ok done) = refl
answer_back (Err refusal.ShortOutput) = refl
answer_back (Err refusal.BadStream) = refl
answer_back (Err (refusal.Late at)) = refl

-- what is answered for a list, and what is left in the output
pub answers_unique : {streams : List StreamRecord} {errors : Errors} {out : List ℕ} {r r' : Result Unit Refusal} {after after' : List ℕ}
    → Answers streams errors out r after → Answers streams errors out r' after' → (r ≡ r') × (after ≡ after')
answers_unique {r = r} {r' = r'} p q = (sym (answer_back r) ∙ ap answer_of (same p.says q.says) ∙ answer_back r', same p.leaves q.leaves)

pub solve_array_unique : OneAnswer solve_array.Post
solve_array_unique l input a b s t p q = (answers_unique p q).0

pub solve_array_content_unique : OneContent solve_array.Post (λ l e. e.1.1.1.0.now)
solve_array_content_unique l input a b s t p q = (answers_unique p q).1

-- that is the promise of the function over a lent list, as it is read from its source: `a` is what it is passed, `e` what is behind
-- its parameters at the exit
module _ {M : Type 1} {𝓤 : Ura M} (𝓛 : Logic 𝓤) (mem : Memory → SProp 𝓤) (run : Routine → Fun 𝓤) where
  pub solve_says : (κs : Lfts 2) (a : Args solve.signature κs) (r : Res solve.signature κs) (e : AtExit solve.ended κs)
      → (solve.clauses 𝓛 mem run κs a).ensures tt r e ≡ fact 𝓤 (Answers a.0.now a.1.0 a.1.1.0.now r e.1.1.0.now)
  solve_says κs a r e = refl
