-- What it is for a promise to be met by one answer only, and to leave one content only.
use Rattle.std.specs.Prelude.{◌≡◌}

-- A function's promise, as it is read from its source: a statement about lifetimes, the input, the answer, and what is behind each parameter at the exit.
module _ {L : Type 0} {I A E : L → Type 0} where
  -- for every input two answers that meet the promise have this part of them equal
  abbrev pub OneAnswer : {B : Type 0} → ((l : L) → A l → B) → ((l : L) → I l → A l → E l → Type 0) → Type 0
  OneAnswer part promise =
      (l : L) (input : I l) (a b : A l) (s t : E l) → promise l input a s → promise l input b t → part l a ≡ part l b

  -- and so is this part of what they leave
  abbrev pub OneContent : {B : Type 0} → ((l : L) → E l → B) → ((l : L) → I l → A l → E l → Type 0) → Type 0
  OneContent part promise =
      (l : L) (input : I l) (a b : A l) (s t : E l) → promise l input a s → promise l input b t → part l s ≡ part l t
