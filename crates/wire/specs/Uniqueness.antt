-- What it is for a promise to be met by one answer only, and to leave a lent output one content only. Each crate's proofs/Unique.antt shows it of
-- every public function, naming the promise as it is read from the source.
use Rattle.std.specs.Prelude.{◌≡◌, List, ℕ}

-- A function's promise, as it is read from its source: a statement about lifetimes, the input, the answer, and what is
-- behind each parameter at the exit.
module _ {L : Type 0} {I A E : L → Type 0} where
  -- for every input any two answers that meet the promise are equal
  abbrev pub OneAnswer : ((l : L) → I l → A l → E l → Type 0) → Type 0
  OneAnswer promise = (l : L) (input : I l) (a b : A l) (s t : E l) → promise l input a s → promise l input b t → a ≡ b

  -- and so are any two contents of what was lent
  abbrev pub OneContent : ((l : L) → I l → A l → E l → Type 0) → ((l : L) → E l → List ℕ) → Type 0
  OneContent promise content =
      (l : L) (input : I l) (a b : A l) (s t : E l) → promise l input a s → promise l input b t → content l s ≡ content l t
