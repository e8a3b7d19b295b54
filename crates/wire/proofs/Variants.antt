-- Of an enum whose variants have no fields: a test that is true at each variant is true of every value, and numbers that are apart at any
-- two variants tell values apart. Both tests are computed, so a further variant asks for no further proof.
use mathlib.Core.Path.{◌≡◌, refl, sym, ap, ◌∙◌}
use mathlib.Core.Bool.{Bool, true, false, not, ◌&&◌, ◌||◌, and-eq-true_iff, false≢true}
use mathlib.Core.Logic.{inl, inr}
use mathlib.Core.List.{List, [], ◌∷◌}
use Prim.Native.Nat.{ℕ, suc}
use native.Mathlib.Omega.{arith}
use lib.Dec.{eqb}
use borrow.Author.Tests.{eqb-true, eq-eqb}
use denote.Struct.Field.{Field}
use denote.Enum.Declared.{Choice, Record}

-- the test at each variant in turn, and false where a variant has fields
abbrev each : (parts : List (List Field)) → (Choice parts → Bool) → Bool
each [] test = true
each ([] ∷ parts) test = test (inl tt) && each parts (λ c. test (inr c))
each ((field ∷ fields) ∷ parts) test = false

each_choice : (parts : List (List Field)) (test : Choice parts → Bool) → each parts test ≡ true → (c : Choice parts) → test c ≡ true
each_choice [] test e c = absurd c
each_choice ([] ∷ parts) test e (inl x) = ((and-eq-true_iff (test (inl tt)) (each parts (λ c. test (inr c)))).0 e).0
each_choice ([] ∷ parts) test e (inr c) = each_choice parts (λ c. test (inr c)) ((and-eq-true_iff (test (inl tt)) (each parts (λ c. test (inr c)))).0 e).1 c
each_choice ((field ∷ fields) ∷ parts) test e c = absurd (false≢true e)

-- which variant it is, counted from 0
abbrev turn : (parts : List (List Field)) → Choice parts → ℕ
turn [] c = absurd c
turn (fields ∷ parts) (inl x) = 0
turn (fields ∷ parts) (inr c) = suc (turn parts c)

one_turn : (parts : List (List Field)) → each parts (λ c. true) ≡ true → (c d : Choice parts) → turn parts c ≡ turn parts d → c ≡ d
one_turn [] plain c d e = absurd c
one_turn ([] ∷ parts) plain (inl x) (inl y) e = refl
one_turn ([] ∷ parts) plain (inl x) (inr d) e = absurd (omega arith)
one_turn ([] ∷ parts) plain (inr c) (inl y) e = absurd (omega arith)
one_turn ([] ∷ parts) plain (inr c) (inr d) e = ap inr (one_turn parts plain c d (omega arith))
one_turn ((field ∷ fields) ∷ parts) plain c d e = absurd (false≢true plain)

module _ (N : Record) where
  -- true at each variant
  abbrev pub everywhere : (N.D → Bool) → Bool
  everywhere test = each N.parts (λ c. test (N.make c))

  pub at_each : (test : N.D → Bool) → everywhere test ≡ true → (d : N.D) → test d ≡ true
  at_each test e d = ap test (sym (N.eta d)) ∙ each_choice N.parts (λ c. test (N.make c)) e (N.as_values d)

  abbrev turn_of : N.D → ℕ
  turn_of d = turn N.parts (N.as_values d)

  -- the numbers of two values are apart, or the values are one variant
  abbrev apart : (N.D → ℕ) → (N.D × N.D) → Bool
  apart number (a, b) = not (eqb (number a) (number b)) || eqb (turn_of a) (turn_of b)

  abbrev pub all_apart : (N.D → ℕ) → Bool
  all_apart number = each N.parts (λ c. true) && everywhere (λ a. everywhere (λ b. apart number (a, b)))

  pub told_apart : (number : N.D → ℕ) → all_apart number ≡ true → (a b : N.D) → number a ≡ number b → a ≡ b
  told_apart number e a b same =
      let (plain, two) = (and-eq-true_iff (each N.parts (λ c. true)) (everywhere (λ x. everywhere (λ y. apart number (x, y))))).0 e in
      let here : apart number (a, b) ≡ true = at_each (λ y. apart number (a, y)) (at_each (λ x. everywhere (λ y. apart number (x, y))) two a) b in
      let turns : turn_of a ≡ turn_of b = eqb-true _ _ (ap (λ (t : Bool). not t || eqb (turn_of a) (turn_of b)) (sym (eq-eqb _ _ same)) ∙ here) in
      sym (N.eta a) ∙ ap N.make (one_turn N.parts plain (N.as_values a) (N.as_values b) turns) ∙ N.eta b
