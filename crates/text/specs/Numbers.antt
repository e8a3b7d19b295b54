-- Numbers in decimal: what a word says as a number, and the digits that are written for a number.
use Rattle.std.specs.Prelude.{ℕ, zero, suc, ◌+◌, ◌-◌, ◌*◌, ◌/◌, ◌%◌, Bool, true, false, cond, ◌&&◌, List, [], ◌∷◌, ◌++◌, ltb, leb, length}
use Rattle.text.specs.Digits.{hex_digit_ascii}
use Rattle.text.specs.Words.{word_at, bytes_at}

-- what a word says as a number: where it is no number, ok is false and value is 0
pub record Number : Type 0 where
  pub ok : Bool
  pub value : ℕ

-- the same, and the index where the next word starts
pub record NumberAt : Type 0 where
  pub ok : Bool
  pub value : ℕ
  pub next : ℕ

-- what a byte says as a digit, `0` to `9`, and 10 if it is none
abbrev pub digit_of : ℕ → ℕ
digit_of b = cond (ltb b 48) 10 (cond (ltb 57 b) 10 (b - 48))

-- every byte is a digit
abbrev pub all_digits : List ℕ → Bool
all_digits [] = true
all_digits (b ∷ s) = leb (digit_of b) 9 && all_digits s

-- the number whose digits are those of v and then those of s
abbrev pub value_of : ℕ → List ℕ → ℕ
value_of v [] = v
value_of v (b ∷ s) = value_of (v * 10 + digit_of b) s

-- the answer for a word that is no number
abbrev pub no_number : Number
no_number = record { ok = false; value = 0 }

-- at least one digit and nothing else, with any zeros in front, and a number up to the limit
unfoldable pub number_of : ℕ → List ℕ → Number
number_of limit s = cond (ltb 0 (length s) && (all_digits s && leb (value_of 0 s) limit)) (record { ok = true; value = value_of 0 s }) no_number

-- the word of s that starts at index at, as a number, and where the next word starts
unfoldable pub number_at : ℕ → List ℕ → ℕ → NumberAt
number_at limit s at =
    record {
      ok = (number_of limit (bytes_at s at)).ok;
      value = (number_of limit (bytes_at s at)).value;
      next = (word_at s at).next;
    }

-- the digits of n with no zero in front, if there are at most f of them
abbrev pub digits_of : ℕ → ℕ → List ℕ
digits_of zero n = []
digits_of (suc f) n = cond (ltb n 10) (hex_digit_ascii n ∷ []) (digits_of f (n / 10) ++ (hex_digit_ascii (n % 10) ∷ []))

-- the digits of a number below 2 ^ 64, which are at most 20
unfoldable pub decimal_text : ℕ → List ℕ
decimal_text n = digits_of 20 n
