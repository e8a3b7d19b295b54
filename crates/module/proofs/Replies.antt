-- The reply of a call that answers a Result is the one that it was made of.
use Rattle.std.proofs.Common.{◌≡◌, Bool, true, false, cond, Ok, Err, refl, sym, eqb-true}
use Rattle.wire.specs.declared.reply.Reply.{Reply}
use Rattle.wire.specs.declared.reply.Reply.TheVariants.{Done}
use Rattle.wire.specs.Answers.{is_done, answered}
use Rattle.wire.proofs.Replies.{numbers_distinct}
use Rattle.module.specs.Tallies.{reply_in}

pub reply_so : {A : Type 0} (r : Reply) (value : A) → reply_in (answered r value) ≡ r
reply_so {A} r value = go (is_done r) refl
  where
    go : (b : Bool) → is_done r ≡ b → reply_in {A = A} (cond b (Ok value) (Err r)) ≡ r
    go true e = sym (numbers_distinct r Done (eqb-true _ _ e))
    go false e = refl
