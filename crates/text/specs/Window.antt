-- A window on the bytes of the input that are at hand, and what may become of it when more is read.
use Rattle.std.specs.Prelude.{ℕ, ◌+◌, ◌-◌, ◌≤◌, min, Bool, false, ◌&&◌, ◌≡◌, List, eqb, ltb, length, take, drop}
use Rattle.text.specs.declared.window.Window.{Window as Declared}

-- where the bytes at hand stand in a buffer, and whether no byte comes any more
pub record Window : Type 0 where
  pub from : ℕ
  pub to : ℕ
  pub ended : Bool

-- those of a window with its buffer
abbrev pub span_of : {N : ℕ} → Declared N → Window
span_of w = record { from = w.from; to = w.to; ended = w.ended }

-- before anything is read
abbrev pub empty : Window
empty = record { from = 0; to = 0; ended = false }

-- behind the first n bytes, or at the end where there are fewer
abbrev pub past_bytes : (n : ℕ) → Window → Window
past_bytes n w = record { from = min (min w.from w.to + n) w.to; to = w.to; ended = w.ended }

-- the bytes at hand, or as many of them as there are
abbrev pub bytes_in : List ℕ → Window → List ℕ
bytes_in s w = take (w.to - w.from) (drop w.from s)

-- one read has made new of the buffer old, and r of the window w: the bytes at hand stand at the front, and what came stands behind them
pub record WindowRead (old : List ℕ) (w : Window) (new : List ℕ) (r : Window) : Type 0 where
  -- how many bytes came, of which nothing else is known
  pub came : ℕ
  pub fits : length (bytes_in old w) + came ≤ length old
  pub next : r ≡ record { from = 0; to = length (bytes_in old w) + came; ended = eqb came 0 && ltb (length (bytes_in old w)) (length old) }
  pub kept : take (length (bytes_in old w)) new ≡ bytes_in old w
