-- Worked examples of the definitions, on lines written out in bytes.
use mathlib.Core.Path.{◌≡◌, refl}
use mathlib.Core.Bool.{true, false}
use mathlib.Core.List.{List, [], ◌∷◌}
use Prim.Native.Nat.{ℕ}
use Rattle.text.specs.Bytes.{index_of, index_after, slice}
use Rattle.text.specs.Input.{Line, More, End, step_of}
use Rattle.text.specs.Words.{word_at, done_at}
use Rattle.text.specs.Numbers.{no_number, number_of, number_at, decimal_text}
use Rattle.text.specs.Payloads.{is_payload, payload_bytes, payload_of}

-- `a 12`
line : List ℕ
line = 97 ∷ 32 ∷ 49 ∷ 50 ∷ []

-- its second word is the number 12, and no word is left behind it
second_word : number_at 99 line 2 ≡ record { ok = true; value = 12; next = 5 }
unfolding line number_at number_of word_at index_of index_after
second_word = refl

none_left : done_at line 5 ≡ true
unfolding line
none_left = refl

-- `a  1`: the word between the two spaces is empty, and no number
doubled_space : number_at 99 (97 ∷ 32 ∷ 32 ∷ 49 ∷ []) 2 ≡ record { ok = false; value = 0; next = 3 }
unfolding number_at number_of word_at index_of index_after
doubled_space = refl

-- `1 `: behind the space at the end there is an empty word
trailing_space : done_at (49 ∷ 32 ∷ []) 2 ≡ false
trailing_space = refl

-- `007` is 7, where the limit allows it; `+7` is no number
zeros_in_front : number_of 7 (48 ∷ 48 ∷ 55 ∷ []) ≡ record { ok = true; value = 7 }
unfolding number_of
zeros_in_front = refl

past_the_limit : number_of 6 (48 ∷ 48 ∷ 55 ∷ []) ≡ no_number
unfolding number_of
past_the_limit = refl

no_sign : number_of 99 (43 ∷ 55 ∷ []) ≡ no_number
unfolding number_of
no_sign = refl

-- `0a0b` is two bytes and `-` none; `0A`, `abc` and bytes that there is no room for are no payloads
two_bytes : payload_bytes 2 (48 ∷ 97 ∷ 48 ∷ 98 ∷ []) ≡ 10 ∷ 11 ∷ []
unfolding payload_bytes
two_bytes = refl

two_in_two : payload_of 2 (48 ∷ 97 ∷ 48 ∷ 98 ∷ []) ≡ record { ok = true; len = 2 }
unfolding payload_of is_payload payload_bytes
two_in_two = refl

two_in_one : payload_of 1 (48 ∷ 97 ∷ 48 ∷ 98 ∷ []) ≡ record { ok = false; len = 0 }
unfolding payload_of is_payload payload_bytes
two_in_one = refl

no_bytes : payload_of 0 (45 ∷ []) ≡ record { ok = true; len = 0 }
unfolding payload_of is_payload payload_bytes
no_bytes = refl

upper_case : payload_of 2 (48 ∷ 65 ∷ []) ≡ record { ok = false; len = 0 }
unfolding payload_of is_payload payload_bytes
upper_case = refl

odd_digits : payload_of 2 (97 ∷ 98 ∷ 99 ∷ []) ≡ record { ok = false; len = 0 }
unfolding payload_of is_payload payload_bytes
odd_digits = refl

-- a buffer that holds `a`, a newline and `b`: first the line `a`
buffer : List ℕ
buffer = 97 ∷ 10 ∷ 98 ∷ []

first_line : step_of buffer (record { from = 0; to = 3; over = false; ended = false })
    ≡ record { input = record { from = 2; to = 3; over = false; ended = false }; kind = Line; start = 0; end = 1 }
unfolding buffer slice index_of index_after
first_line = refl

-- then more is to be read, for `b` may go on
more : (step_of buffer (record { from = 2; to = 3; over = false; ended = false })).kind ≡ More
unfolding buffer slice index_of index_after
more = refl

-- where nothing comes, `b` is the last line, and then there is none
last_line : step_of buffer (record { from = 2; to = 3; over = false; ended = true })
    ≡ record { input = record { from = 3; to = 3; over = false; ended = true }; kind = Line; start = 2; end = 3 }
unfolding buffer slice index_of index_after
last_line = refl

no_more : (step_of buffer (record { from = 3; to = 3; over = false; ended = true })).kind ≡ End
unfolding buffer slice index_of index_after
no_more = refl

-- 1234 is written `1234`, and 0 is written `0`
digits : decimal_text 1234 ≡ 49 ∷ 50 ∷ 51 ∷ 52 ∷ []
unfolding decimal_text
digits = refl

zero_digit : decimal_text 0 ≡ 48 ∷ []
unfolding decimal_text
zero_digit = refl
