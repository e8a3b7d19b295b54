-- What a buffer of output holds after a text was put into it, and when `text::output` prints the buffer.
use Rattle.std.specs.Prelude.{ℕ, ◌+◌, ◌-◌, ◌≤◌, cond, ◌≡◌, List, ◌++◌, leb, length, take, drop}
use Rattle.text.specs.Buffer.{size}

-- how many bytes are kept free for the next text
abbrev pub free : ℕ
free = 4096

-- the index to go on at, after a flush if too little is free
abbrev pub room_at : ℕ → ℕ
room_at at = cond (leb at (size - free)) at 0

-- old with a text from index at on: all else is as before
abbrev pub placed : List ℕ → ℕ → List ℕ → List ℕ
placed old at text = take at old ++ (text ++ drop (at + length text) old)

-- the index past a text that was put behind index at; a text that is longer than what is kept free is printed at once, and then the buffer is empty
unfoldable pub past_text : ℕ → List ℕ → ℕ
past_text at text = cond (leb (length text) free) (room_at at + length text) 0

-- the buffer then
unfoldable pub with_text : List ℕ → ℕ → List ℕ → List ℕ
with_text old at text = cond (leb (length text) free) (placed old (room_at at) text) old

-- text was put into old behind index at, which made new of it, and r is the index to go on at
pub record Put (old : List ℕ) (at : ℕ) (text new : List ℕ) (r : ℕ) : Type 0 where
  pub past : r ≡ past_text at text
  pub whole : new ≡ with_text old at text

-- text was written into old from index at on, where there is room
pub record Wrote (old : List ℕ) (at : ℕ) (text new : List ℕ) (r : ℕ) : Type 0 where
  pub past : r ≡ at + length text
  pub fits : r ≤ length old
  pub whole : new ≡ take at old ++ (text ++ drop r old)
