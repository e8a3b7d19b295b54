-- What is said of a list of streams, the rules paper's number of it and the value that is returned with it.
use Rattle.std.specs.Prelude.{ℕ, List, ◌++◌, Result, Ok, Err, codes}
use Rattle.std.specs.Fmt.{decimal}
use Rattle.response.specs.declared.refusal.Refusal.{Refusal}
use Rattle.response.specs.declared.refusal.Refusal.TheVariants as refusal

pub data Verdict : Type 0 where
  Done : Verdict
  ShortOutput : Verdict
  BadStream : Verdict
  -- the first stream that can be late, by its position from 0
  Late : ℕ → Verdict

abbrev pub number_of : Verdict → ℕ
number_of Done = 0
number_of ShortOutput = 11
number_of BadStream = 13
number_of (Late at) = 14

-- Late alone returns a value
abbrev pub position_of : Verdict → ℕ
position_of Done = 0
position_of ShortOutput = 0
position_of BadStream = 0
position_of (Late at) = at

-- the verdict of a refusal
abbrev pub refused : Refusal → Verdict
refused refusal.ShortOutput = ShortOutput
refused refusal.BadStream = BadStream
refused (refusal.Late at) = Late at

-- the verdict of an answer: Done, where nothing is refused
abbrev pub verdict_of : Result Unit Refusal → Verdict
verdict_of (Ok done) = Done
verdict_of (Err refusal) = refused refusal

-- what is printed of a refusal
abbrev pub words_of : Refusal → List ℕ
words_of refusal.ShortOutput = codes "the output is too short"
words_of refusal.BadStream = codes "a number is out of range, a priority stands twice, or there are too many streams"
words_of (refusal.Late at) = codes "stream " ++ decimal at ++ codes " can be late"
