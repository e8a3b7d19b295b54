-- The lines of the input, as `text::input` reads them and hands them out one after the other.
use Rattle.std.specs.Prelude.{ℕ, zero, suc, ◌-◌, ◌<◌, ◌≤◌, Bool, false, cond, ◌≡◌, List, eqb, take, drop, Option, None, Some, Result, Ok, Err, is_some}
use Rattle.std.specs.Borrow.{Fml, Bor, MutBor}
use Rattle.std.specs.Io.BufRead.{Rests}
use Rattle.text.specs.Buffer.{size}
use Rattle.text.specs.Input.{Input, Line, Long, More, End, Step, start_of, step_of, line_in, over_of, Refilled}
use Rattle.text.specs.Comments.{begins_comment, in_comment}
use Rattle.text.specs.declared.input.Lines.{Lines}
use Rattle.text.specs.contracts.input.Lines.{the_row}
use Rattle.text.specs.declared.input.TooLong.{TooLong}
use Rattle.text.specs.declared.input.AtHand.{AtHand}
use Rattle.text.specs.declared.input.AtHand.TheVariants.{Whole, Part, Nothing}
use Rattle.text.specs.declared.output.Printer.{Printer}

-- whether the line of which bytes were dropped began as a comment
abbrev pub was_comment : Option TooLong → Bool
was_comment None = false
was_comment (Some long) = long.comment

-- where the unread bytes stand
abbrev pub input_of : Lines → Input
input_of l = record { from = l.window.from; to = l.window.to; over = is_some l.over; ended = l.window.ended }

-- what is at hand
abbrev pub step_at : Lines → Step
step_at l = step_of l.window.buffer (input_of l)

-- new goes on from what is at hand in old
pub record GoneOn (old new : Lines) : Type 0 where
  pub input : input_of new ≡ (step_at old).input
  pub buffer : new.window.buffer ≡ old.window.buffer

-- a is what is at hand in old, with which new goes on
abbrev pub IsAtHand : (old : Lines) (a : AtHand) (new : Lines) → Type 0
IsAtHand old (Whole (Ok p)) new =
    ((step_at old).kind ≡ Line) × (p.0 ≡ (step_at old).start) × (p.1 ≡ (step_at old).end) × (p.0 ≤ p.1) × (p.1 ≤ size)
IsAtHand old (Whole (Err long)) new = ((step_at old).kind ≡ Long) × (old.over ≡ Some long)
IsAtHand old Part new = ((step_at old).kind ≡ More) × (new.over ≡ old.over)
IsAtHand old Nothing new = (step_at old).kind ≡ End

-- what is known of the line at hand once more is to be read: it is too long if it was so before, or fills the buffer
abbrev pub long_of : Lines → Option TooLong
long_of l =
    cond (over_of (input_of l))
    (Some (record { comment = cond (is_some l.over) (was_comment l.over) (begins_comment l.window.buffer (start_of (input_of l))) }))
    None

-- one read, as more is to be read, has made new of old
pub record ReadOn (old new : Lines) : Type 0 where
  pub more : (step_at old).kind ≡ More
  pub refilled : Refilled old.window.buffer (step_at old).input new.window.buffer (input_of new)
  pub comment : (long : TooLong) → new.over ≡ Some long → long.comment ≡ in_comment old.window.buffer (step_at old) (was_comment old.over)

-- so many reads have
abbrev pub ReadTimes : (n : ℕ) (old new : Lines) → Type 0
ReadTimes zero old new = new ≡ old
ReadTimes (suc n) old new = (mid : Lines) × (ReadTimes n old mid × ReadOn mid new)

-- how many reads a call makes at most
abbrev pub most : ℕ
most = 18446744073709551615

-- what was answered is printed before a read, and at the end
abbrev pub printed_at : {A : Type 0} → (reads : ℕ) → Option A → ℕ → ℕ
printed_at n None at = 0
printed_at n (Some line) at = cond (eqb n 0) at 0

-- after n reads that made old of the lines, the next one stands from the one index up to the other, and new goes on behind it
abbrev pub IsFound : (n : ℕ) (old : Lines) (r : Option (Result (ℕ × ℕ) TooLong)) (new : Lines) → Type 0
IsFound n old (Some (Ok p)) new = IsAtHand old (Whole (Ok p)) new × GoneOn old new
IsFound n old (Some (Err long)) new = IsAtHand old (Whole (Err long)) new × GoneOn old new
IsFound n old None new = (n < most → IsAtHand old Nothing new × GoneOn old new) × (most ≤ n → new ≡ old)

pub record Found (old : Lines) (from : Printer) (r : Option (Result (ℕ × ℕ) TooLong)) (new : Lines) (to : Printer) : Type 0 where
  pub reads : ℕ
  -- the lines after them
  pub last : Lines
  pub came : ReadTimes reads old last
  pub found : IsFound reads last r new
  pub buffer : to.buffer ≡ from.buffer
  pub at : to.at ≡ printed_at reads r from.at

-- r is the line that was found in the buffer s
abbrev pub IsLine : (s : List ℕ) (found : Result (ℕ × ℕ) TooLong) (r : Result (Bor (List ℕ)) TooLong) → Type 0
IsLine s (Ok p) (Ok line) = line.now ≡ take (p.1 - p.0) (drop p.0 s)
IsLine s (Ok p) (Err long) = ⊥
IsLine s (Err long) (Ok line) = ⊥
IsLine s (Err found) (Err long) = long ≡ found

-- after n reads that made old of the lines, this is the next one
abbrev pub IsHanded : (n : ℕ) (old : Lines) (r : Option (Result (Bor (List ℕ)) TooLong)) → Type 0
IsHanded n old (Some (Ok line)) = ((step_at old).kind ≡ Line) × (line.now ≡ line_in old.window.buffer (step_at old))
IsHanded n old (Some (Err long)) = ((step_at old).kind ≡ Long) × (old.over ≡ Some long)
IsHanded n old None = n < most → (step_at old).kind ≡ End

-- r is the next line of old, and what was answered is printed as it has to be
pub record IsNext (old : Lines) (from : Printer) (r : Option (Result (Bor (List ℕ)) TooLong)) (to : Printer) : Type 0 where
  pub reads : ℕ
  -- the lines after them
  pub last : Lines
  pub came : ReadTimes reads old last
  pub handed : IsHanded reads last r
  pub buffer : to.buffer ≡ from.buffer
  pub at : to.at ≡ printed_at reads r from.at

-- new goes on behind what is handed out
abbrev pub IsBehind : {A : Type 0} → (n : ℕ) (old : Lines) → Option A → (new : Lines) → Type 0
IsBehind n old (Some line) new = GoneOn old new
IsBehind n old None new = (n < most → GoneOn old new) × (most ≤ n → new ≡ old)

pub record IsLeft (old : Lines) (from : Printer) (r : Option (Result (Bor (List ℕ)) TooLong)) (to : Printer) (new : Lines) : Type 0 where
  pub next : IsNext old from r to
  pub behind : IsBehind next.reads next.last r new

abbrev pub RestsAs : MutBor Lines → Printer → Option (Result (Bor (List ℕ)) TooLong) → Printer → Fml
RestsAs lines from r to = Rests the_row lines (IsLeft lines.now from r to)
