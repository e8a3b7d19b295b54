-- The replies' numbers are distinct.
use mathlib.Core.Path.{◌≡◌, refl, sym, ap}
use mathlib.Core.Bool.{false, not}
use borrow.Author.Tests.{eqb-false, not-true}
use lib.Dec.{eqb}
use Rattle.wire.proofs.Variants.{at_each, told_apart}
use Rattle.heard.specs.declared.reply.Reply as code
use Rattle.heard.specs.Replies.{Reply, Done, Refused, refusal_number, number_of}
use Rattle.heard.specs.contracts.reply.Reply.{enum}

pub refusals_distinct : (a b : code.Reply) → refusal_number a ≡ refusal_number b → a ≡ b
refusals_distinct = told_apart enum refusal_number refl

-- none is that of done
pub not_done : (a : code.Reply) → eqb (refusal_number a) 0 ≡ false
not_done a = not-true _ (at_each enum (λ r. not (eqb (refusal_number r) 0)) refl a)

not_zero : (a : code.Reply) → refusal_number a ≡ 0 → ⊥
not_zero a = eqb-false _ _ (not_done a)

pub numbers_distinct : (a b : Reply) → number_of a ≡ number_of b → a ≡ b
numbers_distinct Done Done e = refl
numbers_distinct Done (Refused b) e = absurd (not_zero b (sym e))
numbers_distinct (Refused a) Done e = absurd (not_zero a e)
numbers_distinct (Refused a) (Refused b) e = ap Refused (refusals_distinct a b e)
