-- What the verdict and the written numbers tell, in words; proofs/InWords.antt shows it.
use Rattle.std.specs.Prelude.{◌≡◌, List, [], ℕ, ◌+◌, ◌*◌, ◌≤◌, ◌<◌, length, get_or}
use Rattle.response.specs.declared.streams.StreamRecord.{StreamRecord}
use Rattle.response.specs.declared.streams.Errors.{Errors}
use Rattle.response.specs.Verdicts.{Verdict, Done, ShortOutput, BadStream, Late}
use Rattle.response.specs.Streams.{at, Legal}
use Rattle.response.specs.Waiting.{demand}

-- w is the least number that satisfies the equation, and s keeps its deadline with it
pub record LeastSolution (streams : List StreamRecord) (errors : Errors) (s : StreamRecord) (w : ℕ) : Type 0 where
  pub solves : w ≡ demand streams errors s w
  pub timely : w + s.c ≤ s.d
  pub least : (v : ℕ) → v ≡ demand streams errors s v → w ≤ v

-- no number that satisfies the equation lets s keep its deadline
abbrev pub NoSolution : List StreamRecord → Errors → StreamRecord → Type 0
NoSolution streams errors s = (v : ℕ) → v ≡ demand streams errors s v → v + s.c ≤ s.d → ⊥

module _ (streams : List StreamRecord) (errors : Errors) (room : ℕ) where
  -- past the first two refusals
  pub record Taken : Type 0 where
    pub legal : Legal streams errors
    pub fits : 2 * length streams ≤ room

  -- two numbers for each stream, in list order
  pub record Times (numbers : List ℕ) : Type 0 where
    pub count : length numbers ≡ 2 * length streams
    pub waiting : (k : ℕ) → k < length streams → LeastSolution streams errors (at streams k) (get_or numbers (2 * k) 0)
    pub response : (k : ℕ) → k < length streams → get_or numbers (2 * k + 1) 0 ≡ get_or numbers (2 * k) 0 + (at streams k).c

  -- the verdict, and what is written with it
  pub data Judged : Verdict → List ℕ → Type 0 where
    bad : (Legal streams errors → ⊥) → Judged BadStream []
    short : Legal streams errors → room < 2 * length streams → Judged ShortOutput []
    late : (i : ℕ) → Taken → i < length streams → NoSolution streams errors (at streams i)
        → ((k : ℕ) → k < i → (w : ℕ) × LeastSolution streams errors (at streams k) w) → Judged (Late i) []
    all : (numbers : List ℕ) → Taken → Times numbers → Judged Done numbers
