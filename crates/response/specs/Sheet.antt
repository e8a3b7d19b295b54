-- What is said of a list of streams, and what is written for it.
use Rattle.std.specs.Prelude.{◌≡◌, ℕ, suc, ◌*◌, Bool, cond, not, List, [], ◌∷◌, length, ltb, Result}
use Rattle.wire.specs.Delivered.{over}
use Rattle.response.specs.declared.streams.StreamRecord.{StreamRecord}
use Rattle.response.specs.declared.streams.Errors.{Errors}
use Rattle.response.specs.declared.refusal.Refusal.{Refusal}
use Rattle.response.specs.Verdicts.{Verdict, Done, ShortOutput, BadStream, Late, verdict_of}
use Rattle.response.specs.Streams.{legal}
use Rattle.response.specs.Waiting.{timely, waiting, response}

-- some solution keeps the deadline
abbrev pub is_timely : List StreamRecord → Errors → StreamRecord → Bool
is_timely streams errors s = ltb (waiting streams errors s) (timely s)

-- the position of the first of the listed streams that can be late, among all streams; where none can, how many are listed
unfoldable pub first_late : (all listed : List StreamRecord) → Errors → ℕ
first_late all [] errors = 0
first_late all (s ∷ listed) errors = cond (is_timely all errors s) (suc (first_late all listed errors)) 0

-- waiting time and response time of each, in list order
unfoldable pub times : (all listed : List StreamRecord) → Errors → List ℕ
times all [] errors = []
times all (s ∷ listed) errors = waiting all errors s ∷ response all errors s ∷ times all listed errors

abbrev pub all_timely : List StreamRecord → Errors → Verdict
all_timely streams errors =
    cond (ltb (first_late streams streams errors) (length streams)) (Late (first_late streams streams errors)) Done

unfoldable pub verdict : List StreamRecord → Errors → (room : ℕ) → Verdict
verdict streams errors room =
    cond (not (legal streams errors)) BadStream
    (cond (ltb room (2 * length streams)) ShortOutput
    (all_timely streams errors))

-- a refusal writes nothing
abbrev pub if_done : Verdict → List ℕ → List ℕ
if_done Done numbers = numbers
if_done ShortOutput numbers = []
if_done BadStream numbers = []
if_done (Late at) numbers = []

unfoldable pub written : List StreamRecord → Errors → (room : ℕ) → List ℕ
written streams errors room = if_done (verdict streams errors room) (times streams streams errors)

-- what is answered for a list of streams, and what is then in the lent output
pub record Answers (streams : List StreamRecord) (errors : Errors) (out : List ℕ) (answer : Result Unit Refusal) (after : List ℕ) : Type 0 where
  pub says : verdict_of answer ≡ verdict streams errors (length out)
  pub leaves : after ≡ over (written streams errors (length out)) out
