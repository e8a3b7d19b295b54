-- Lines that a program skips: empty ones, and comments, also those whose first bytes were dropped because they are too long.
use Rattle.std.specs.Prelude.{ℕ, Bool, cond, ◌||◌, List, eqb, length, get_or, Result, Ok, Err}
use Rattle.std.specs.Borrow.{Bor}
use Rattle.text.specs.Input.{Kind, Line, Long, More, End, Step}
use Rattle.text.specs.declared.input.TooLong.{TooLong}

-- a comment begins with `#`
abbrev pub begins_comment : List ℕ → (at : ℕ) → Bool
begins_comment s at = eqb (get_or s at 0) 35

abbrev pub is_skipped : List ℕ → Bool
is_skipped line = eqb (length line) 0 || begins_comment line 0

-- the line of which more is to be read is a comment; where its first bytes were dropped, that was seen before
abbrev pub in_comment_by : Kind → (over : Bool) → (begins before : Bool) → Bool
in_comment_by Line over begins before = before
in_comment_by Long over begins before = before
in_comment_by More over begins before = cond over before begins
in_comment_by End over begins before = before

abbrev pub in_comment : List ℕ → Step → (before : Bool) → Bool
in_comment buf r before = in_comment_by r.kind r.input.over (begins_comment buf r.start) before

-- a line has no answer that is skipped, or that is a comment and was too long
abbrev pub has_no_answer : Result (Bor (List ℕ)) TooLong → Bool
has_no_answer (Ok line) = is_skipped line.now
has_no_answer (Err long) = long.comment
