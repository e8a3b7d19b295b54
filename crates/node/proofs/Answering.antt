-- What a `?` hands on, and what a refused call then answers.
use Rattle.std.proofs.Common.{◌≡◌, Bool, true, false, cond, Result, Ok, Err, Option, Some, None, sym, refl, ap, ◌∙◌}
use Rattle.std.specs.Option.{ok_or}
use Rattle.std.specs.Result.{is_ok, IsErrAnd}
use Rattle.std.proofs.lemmas.Result.{err_from_is_err_and}
use Rattle.wire.specs.declared.reply.Reply.{Reply}
use Rattle.wire.specs.declared.reply.Reply.TheVariants.{Done}
use Rattle.wire.specs.Answers.{is_done, answered}
use Rattle.node.proofs.Choices.{contrary}

abbrev reply_in : {A : Type 0} → Result A Reply → Reply
reply_in (Ok v) = Done
reply_in (Err r) = r

abbrev value_or : {A : Type 0} → A → Result A Reply → A
value_or d (Ok v) = v
value_or d (Err r) = d

not_both : {A B : Type 0} {v : A} {r : Reply} → ◌≡◌ {A = Result A Reply} (Ok v) (Err r) → B
not_both e = contrary (ap is_ok (sym e)) refl

-- ── of an answer ──
module _ {A : Type 0} (r : Reply) (v : A) where
  pub was_refused : {q : Reply} → Err q ≡ answered r v → (q ≡ r) × (is_done r ≡ false)
  was_refused {q} e = go (is_done r) refl e
    where
      go : (b : Bool) → is_done r ≡ b → ◌≡◌ {A = Result A Reply} (Err q) (cond b (Ok v) (Err r)) → (q ≡ r) × (is_done r ≡ false)
      go true h e = not_both (sym e)
      go false h e = (ap reply_in e, h)

  pub was_done : {w : A} → Ok w ≡ answered r v → (w ≡ v) × (is_done r ≡ true)
  was_done {w} e = go (is_done r) refl e
    where
      go : (b : Bool) → is_done r ≡ b → ◌≡◌ {A = Result A Reply} (Ok w) (cond b (Ok v) (Err r)) → (w ≡ v) × (is_done r ≡ true)
      go true h e = (ap (value_or w) e, h)
      go false h e = not_both e

-- ── of a place that was looked for ──
pub was_missed : {A : Type 0} (o : Option A) (r : Reply) {q : Reply} → Err q ≡ ok_or o r → (q ≡ r) × (o ≡ None)
was_missed None r e = (ap reply_in e, refl)
was_missed (Some x) r e = not_both (sym e)

pub was_found : {A : Type 0} (o : Option A) (r : Reply) {x : A} → Ok x ≡ ok_or o r → o ≡ Some x
was_found None r e = not_both e
was_found (Some y) r {x} e = ap Some (sym (ap (value_or x) e))

-- ── a call that hands on a reply ──
pub hands_on : {A : Type 0} (result : Result A Reply) {q r : Reply} → IsErrAnd result (λ p. p ≡ q) → q ≡ r → result ≡ Err r
hands_on result e said = let p = err_from_is_err_and result e in p.1 ∙ ap Err (p.2 ∙ said)

pub refuses_with : {A : Type 0} (result : Result A Reply) {q r : Reply} (v : A) → IsErrAnd result (λ p. p ≡ q) → (q ≡ r) × (is_done r ≡ false)
    → result ≡ answered r v
refuses_with result v e said = hands_on result e said.0 ∙ rw said.1
