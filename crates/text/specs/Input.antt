-- Which lines a buffer of input holds, as `text::input` hands them out one after the other, and what may become of the buffer when more is read.
use Rattle.std.specs.Prelude.{ℕ, ◌+◌, ◌-◌, ◌≤◌, min, Bool, true, false, cond, ◌||◌, ◌≡◌, List, ltb, eqb, take, drop}
use Rattle.text.specs.Bytes.{index_of, slice}
use Rattle.text.specs.Buffer.{size}

-- where the unread bytes stand in a buffer, from the one index up to the other, and what is known of the input besides
pub record Input : Type 0 where
  pub from : ℕ
  pub to : ℕ
  -- the line at hand is too long, and its bytes are dropped
  pub over : Bool
  -- no byte comes any more
  pub ended : Bool

pub data Kind : Type 0 where
  -- a line
  Line : Kind
  -- a line ends here that was too long
  Long : Kind
  -- there is no whole line in the buffer: more is to be read
  More : Kind
  -- there is no line any more
  End : Kind

-- what is at hand, from index start up to index end, and what to go on from
pub record Step : Type 0 where
  pub input : Input
  pub kind : Kind
  pub start : ℕ
  pub end : ℕ

-- the input before anything is read
abbrev pub fresh : Input
fresh = record { from = 0; to = 0; over = false; ended = false }

-- the index past the unread bytes, which is never past the buffer
abbrev pub stop_of : Input → ℕ
stop_of i = min i.to size

-- the index of the first unread byte
abbrev pub start_of : Input → ℕ
start_of i = min i.from (stop_of i)

-- the unread bytes
abbrev pub unread : List ℕ → Input → List ℕ
unread s i = slice (start_of i) (stop_of i) s

-- where the line at hand ends: at its newline, or where the unread bytes end
abbrev pub end_of : List ℕ → Input → ℕ
end_of s i = start_of i + index_of 10 (unread s i)

-- a line whose bytes were dropped is a long one
abbrev pub kind_of : Bool → Kind
kind_of true = Long
kind_of false = Line

-- the line at hand, which ends at index end; the next one starts at index next
abbrev pub line_of : Input → ℕ → ℕ → Step
line_of i end next =
    record { input = record { from = next; to = stop_of i; over = false; ended = i.ended }; kind = kind_of i.over; start = start_of i; end = end }

-- no whole line is there, and more is to be read
abbrev pub more_of : Input → Step
more_of i =
    record {
      input = record { from = start_of i; to = stop_of i; over = i.over; ended = i.ended };
      kind = More;
      start = start_of i;
      end = start_of i;
    }

-- no line is there, and none comes
abbrev pub none_of : Input → Step
none_of i = record { input = record { from = stop_of i; to = stop_of i; over = false; ended = i.ended }; kind = End; start = stop_of i; end = stop_of i }

-- a line up to its newline; if there is no newline, more, until the input has ended; then what is left, if anything is, is the last line
abbrev pub step_of : List ℕ → Input → Step
step_of s i =
    cond (ltb (end_of s i) (stop_of i))
    (line_of i (end_of s i) (end_of s i + 1))
    (cond i.ended
    (cond (i.over || ltb (start_of i) (stop_of i)) (line_of i (stop_of i) (stop_of i)) (none_of i))
    (more_of i))

-- the bytes that a step hands out
abbrev pub line_in : List ℕ → Step → List ℕ
line_in s r = take (r.end - r.start) (drop r.start s)

-- where no whole line is there, the line at hand is too long if it was so before, or fills the buffer
abbrev pub over_of : Input → Bool
over_of i = i.over || eqb (stop_of i - start_of i) size

-- how many of the unread bytes are kept: none of a line that is too long
abbrev pub kept_of : Input → ℕ
kept_of i = cond (over_of i) 0 (stop_of i - start_of i)

-- these bytes
abbrev pub kept_in : List ℕ → Input → List ℕ
kept_in s i = take (kept_of i) (unread s i)

-- one read has made new of the buffer old, and r of the input i: what is kept stands at the front, and what came stands behind it
pub record Refilled (old : List ℕ) (i : Input) (new : List ℕ) (r : Input) : Type 0 where
  -- how many bytes came, of which nothing else is known
  pub came : ℕ
  pub fits : kept_of i + came ≤ size
  pub next : r ≡ record { from = 0; to = kept_of i + came; over = over_of i; ended = eqb came 0 }
  pub kept : take (kept_of i) new ≡ take (kept_of i) (unread old i)
