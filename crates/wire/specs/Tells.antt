-- What a Boolean test tells: a test tells a statement where it is true exactly if the statement holds.
use Rattle.std.specs.Prelude.{◌≡◌, refl, Bool, true, false, not, ◌&&◌, ◌||◌, ◌⊎◌, ◌≢◌, ℕ, ◌≤◌, ◌<◌, eqb, leb, ltb}
use Rattle.std.proofs.Common.{ap, inl, inr, leb-true, ltb-true, eqb-true, le-leb, lt-ltb, eq-eqb, ne_eqb}
use Rattle.std.proofs.lemmas.Bool.{false≢true, eqb-false, not-true}

pub record Tells (b : Bool) (P : Type 0) : Type 0 where
  pub says : b ≡ true → P
  pub back : P → b ≡ true

-- where the statement does not hold, the test is false
pub untold : (b : Bool) {P : Type 0} → Tells b P → (P → ⊥) → b ≡ false
untold true t no_way = absurd (no_way (t.says refl))
untold false t no_way = refl

pub at_most : (a b : ℕ) → Tells (leb a b) (a ≤ b)
at_most a b = record { says = leb-true a b; back = le-leb a b }

pub equal : (a b : ℕ) → Tells (eqb a b) (a ≡ b)
equal a b = record { says = eqb-true a b; back = eq-eqb a b }

pub below : (a b : ℕ) → Tells (ltb a b) (a < b)
below a b = record { says = ltb-true a b; back = lt-ltb a b }

pub different : (a b : ℕ) → Tells (not (eqb a b)) (a ≢ b)
different a b = record { says = λ e. eqb-false a b (not-true _ e); back = λ h. ap not (ne_eqb a b h) }

-- the same test tells the same statement in other words
pub in_words : {b : Bool} {P Q : Type 0} → (P → Q) → (Q → P) → Tells b P → Tells b Q
in_words to from t = record { says = λ e. to (t.says e); back = λ h. t.back (from h) }

both : (a b : Bool) {P Q : Type 0} → Tells a P → Tells b Q → Tells (a && b) (P × Q)
both true b p q = record { says = λ e. (p.says refl, q.says e); back = λ h. q.back h.1 }
both false b p q = record { says = λ e. absurd (false≢true e); back = λ h. p.back h.0 }

either : (a b : Bool) {P Q : Type 0} → Tells a P → Tells b Q → P ⊎ Q → (a || b) ≡ true
either true b p q h = refl
either false b p q (inl x) = absurd (false≢true (p.back x))
either false b p q (inr y) = q.back y

either_says : (a b : Bool) {P Q : Type 0} → Tells a P → Tells b Q → (a || b) ≡ true → P ⊎ Q
either_says true b p q e = inl (p.says refl)
either_says false b p q e = inr (q.says e)

infixl 3 ◌and◌
pub ◌and◌ : {a b : Bool} {P Q : Type 0} → Tells a P → Tells b Q → Tells (a && b) (P × Q)
◌and◌ {a} {b} p q = both a b p q

infixl 2 ◌or◌
pub ◌or◌ : {a b : Bool} {P Q : Type 0} → Tells a P → Tells b Q → Tells (a || b) (P ⊎ Q)
◌or◌ {a} {b} p q = record { says = either_says a b p q; back = either a b p q }
