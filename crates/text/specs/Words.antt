-- The words of a line, which one space parts, as `text::words` finds them.
use Rattle.std.specs.Prelude.{ℕ, ◌+◌, ◌-◌, min, Bool, true, false, ◌&&◌, List, [], ◌∷◌, ltb, eqb, length, take, drop}
use Rattle.text.specs.Bytes.{index_of}

-- where a reader of words stands: the line, and the index in it where the next word starts
pub record Place : Type 0 where
  pub line : List ℕ
  pub at : ℕ

-- a word is the bytes from start to end, and the next one starts at index next
pub record Word : Type 0 where
  pub start : ℕ
  pub end : ℕ
  pub next : ℕ

-- where the word of s that starts at index start ends: at the next space, or at the end of s
abbrev pub word_end : List ℕ → ℕ → ℕ
word_end s start = start + index_of 32 (drop start s)

-- the word of s that starts at index at; the next one starts past its space. Past the end of s the word is the empty one at its end
unfoldable pub word_at : List ℕ → ℕ → Word
word_at s at =
    record { start = min at (length s); end = word_end s (min at (length s)); next = word_end s (min at (length s)) + 1 }

-- the bytes of the word w of s
abbrev pub bytes_of : List ℕ → Word → List ℕ
bytes_of s w = take (w.end - w.start) (drop w.start s)

-- the bytes of the word of s that starts at index at
abbrev pub bytes_at : List ℕ → ℕ → List ℕ
bytes_at s at = bytes_of s (word_at s at)

-- no word of s starts at index at: a word that ends where s ends has its next one past the end
abbrev pub done_at : List ℕ → ℕ → Bool
done_at s at = ltb (length s) at

-- a reader that stands at the first word of a line
abbrev pub first_place : List ℕ → Place
first_place line = record { line = line; at = 0 }

-- a reader past the word that it stood at
abbrev pub past : Place → Place
past p = record { line = p.line; at = (word_at p.line p.at).next }

-- the same bytes in the same order
abbrev pub same_bytes : List ℕ → List ℕ → Bool
same_bytes [] [] = true
same_bytes [] (y ∷ t) = false
same_bytes (x ∷ s) [] = false
same_bytes (x ∷ s) (y ∷ t) = eqb x y && same_bytes s t
