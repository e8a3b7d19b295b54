-- What a list of refusals decides: the first test that holds gives its reply, or none does.
use mathlib.Core.Path.{◌≡◌, refl, sym, ◌∙◌}
use mathlib.Core.Bool.{Bool, true, false, cond, not, ◌&&◌, and-eq-true_iff, true≢false}
use mathlib.Core.List.{[], ◌∷◌, ◌++◌}
use lib.Dec.{eqb}
use borrow.Author.Tests.{not-true}
use Rattle.wire.specs.declared.reply.Reply.{Reply}
use Rattle.wire.specs.declared.reply.Reply.TheVariants.{Done}
use Rattle.wire.specs.Replies.{number_of}
use Rattle.wire.specs.Refusals.{Refusals, reply_of}

-- the first test that holds has this reply
pub data Refuses : Refusals → Reply → Type 0 where
  here : {r : Reply} {t : Bool} {rest : Refusals} → t ≡ true → Refuses ((r, t) ∷ rest) r
  later : {q r : Reply} {t : Bool} {rest : Refusals} → t ≡ false → Refuses rest r → Refuses ((q, t) ∷ rest) r

-- no test holds
abbrev pub Passes : Refusals → Type 0
Passes [] = Unit {0}
Passes ((r, t) ∷ rest) = (t ≡ false) × Passes rest

-- not both
pub refused_not_passed : {tests : Refusals} {r : Reply} → Refuses tests r → Passes tests → ⊥
refused_not_passed (here e) p = true≢false (sym e ∙ p.0)
refused_not_passed (later e rest) p = refused_not_passed rest p.1

-- every reply has another number than 0
abbrev pub refusing : Refusals → Bool
refusing [] = true
refusing ((r, t) ∷ rest) = not (eqb (number_of r) 0) && refusing rest

pub refused_not_done : {tests : Refusals} {r : Reply} → refusing tests ≡ true → Refuses tests r → eqb (number_of r) 0 ≡ false
refused_not_done all (here {r} {t} {rest} e) = not-true _ ((and-eq-true_iff (not (eqb (number_of r) 0)) (refusing rest)).0 all).0
refused_not_done all (later {q} {r} {t} {rest} e why) =
    refused_not_done ((and-eq-true_iff (not (eqb (number_of q) 0)) (refusing rest)).0 all).1 why

-- the reply of the tests says what they decide
pub reply_refuses : (tests : Refusals) → eqb (number_of (reply_of tests)) 0 ≡ false → Refuses tests (reply_of tests)
reply_refuses [] e = absurd (true≢false e)
reply_refuses ((r, t) ∷ rest) e = go t refl (reply_refuses rest) e
  where
    go : (b : Bool) → t ≡ b → (eqb (number_of (reply_of rest)) 0 ≡ false → Refuses rest (reply_of rest))
        → eqb (number_of (cond b r (reply_of rest))) 0 ≡ false → Refuses ((r, t) ∷ rest) (cond b r (reply_of rest))
    go true h otherwise e = here h
    go false h otherwise e = later h (otherwise e)

pub reply_passes : (tests : Refusals) → refusing tests ≡ true → eqb (number_of (reply_of tests)) 0 ≡ true → Passes tests
reply_passes [] all e = tt
reply_passes ((r, t) ∷ rest) all e = go t refl (reply_passes rest both.1) e
  where
    both : (not (eqb (number_of r) 0) ≡ true) × (refusing rest ≡ true)
    both = (and-eq-true_iff (not (eqb (number_of r) 0)) (refusing rest)).0 all

    go : (b : Bool) → t ≡ b → (eqb (number_of (reply_of rest)) 0 ≡ true → Passes rest)
        → eqb (number_of (cond b r (reply_of rest))) 0 ≡ true → Passes ((r, t) ∷ rest)
    go true h otherwise e = absurd (true≢false (sym e ∙ not-true _ both.0))
    go false h otherwise e = (h, otherwise e)

-- and is what they decide
pub reply_refused : {tests : Refusals} {r : Reply} → Refuses tests r → reply_of tests ≡ r
reply_refused (here e) = rw e
reply_refused (later e rest) = rw e (reply_refused rest)

pub reply_passed : (tests : Refusals) → Passes tests → reply_of tests ≡ Done
reply_passed [] p = refl
reply_passed ((r, t) ∷ rest) p = rw p.0 (reply_passed rest p.1)

-- ── of one list and a further one ──
pub among : {tests : Refusals} {r : Reply} → Refuses tests r → (rest : Refusals) → Refuses (tests ++ rest) r
among (here e) rest = here e
among (later e why) rest = later e (among why rest)

pub past : (tests : Refusals) → Passes tests → {rest : Refusals} {r : Reply} → Refuses rest r → Refuses (tests ++ rest) r
past [] p why = why
past ((q, t) ∷ tests) p why = later p.0 (past tests p.1 why)

pub both_pass : (tests rest : Refusals) → Passes tests → Passes rest → Passes (tests ++ rest)
both_pass [] rest p q = q
both_pass ((r, t) ∷ tests) rest p q = (p.0, both_pass tests rest p.1 q)
