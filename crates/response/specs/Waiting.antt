-- How long a message of a stream waits for the bus at worst: equations (3), (4) and (8) to (10), and the least time that satisfies them.
use Rattle.std.specs.Prelude.{ℕ, zero, suc, ◌+◌, ◌-◌, ◌*◌, ◌/◌, max, Bool, cond, List, [], ◌∷◌, eqb, ltb}
use Rattle.response.specs.declared.streams.StreamRecord.{StreamRecord}
use Rattle.response.specs.declared.streams.Errors.{Errors}

-- ⌈a / b⌉
abbrev pub ceiling : ℕ → ℕ → ℕ
ceiling a b = (a + (b - 1)) / b

-- the lower priority number goes first
abbrev pub goes_before : StreamRecord → StreamRecord → Bool
goes_before j s = ltb j.priority s.priority

-- (4): the longest message of those that s goes before; 0, where there is none
unfoldable pub blocking : List StreamRecord → StreamRecord → ℕ
blocking [] s = 0
blocking (j ∷ streams) s = max (cond (goes_before s j) j.c 0) (blocking streams s)

-- (3): the messages that go before s and are requested while it waits, the bit in which arbitration begins included
unfoldable pub interference : List StreamRecord → StreamRecord → (waiting : ℕ) → ℕ
interference [] s w = 0
interference (j ∷ streams) s w = cond (goes_before j s) (ceiling (w + 1) j.t * j.c) 0 + interference streams s w

-- (9) and (10): the errors until the message is through
abbrev pub inaccessible : Errors → StreamRecord → (waiting : ℕ) → ℕ
inaccessible errors s w = errors.n * ceiling (w + s.c) errors.period * errors.inaccessibility

-- (8): its right side
unfoldable pub demand : List StreamRecord → Errors → StreamRecord → (waiting : ℕ) → ℕ
demand streams errors s w = blocking streams s + interference streams s w + inaccessible errors s w

abbrev pub solves : List StreamRecord → Errors → StreamRecord → (waiting : ℕ) → Bool
solves streams errors s w = eqb w (demand streams errors s w)

-- of the numbers from `first` on, so many of them, the least that passes the test; where none does, the number that follows them
unfoldable pub least_from : (first count : ℕ) → (ℕ → Bool) → ℕ
least_from first zero test = first
least_from first (suc count) test = cond (test first) first (least_from (suc first) count test)

-- the waiting times with which s keeps its deadline are those below this
abbrev pub timely : StreamRecord → ℕ
timely s = s.d + 1 - s.c

-- the least solution with which s keeps its deadline; where there is none, `timely s`
unfoldable pub waiting : List StreamRecord → Errors → StreamRecord → ℕ
waiting streams errors s = least_from 0 (timely s) (solves streams errors s)

-- (2)
abbrev pub response : List StreamRecord → Errors → StreamRecord → ℕ
response streams errors s = waiting streams errors s + s.c
