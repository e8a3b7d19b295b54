-- Payloads in hex: the bytes that a word says as a payload, and the text that is written for bytes. No byte at all is `-`.
use Rattle.std.specs.Prelude.{ℕ, ◌+◌, ◌-◌, ◌*◌, ◌/◌, ◌%◌, Bool, true, false, cond, ◌&&◌, ◌||◌, List, [], ◌∷◌, ◌++◌, ltb, leb, eqb, length, drop, get_or}
use Rattle.text.specs.Digits.{hex_digit_ascii}
use Rattle.text.specs.Words.{word_at, bytes_at}

-- what a word says as a payload: it is the first len bytes of what was lent. Where it is no payload, ok is false and len is 0
pub record Payload : Type 0 where
  pub ok : Bool
  pub len : ℕ

-- the same, and the index where the next word starts
pub record PayloadAt : Type 0 where
  pub ok : Bool
  pub len : ℕ
  pub next : ℕ

-- what a byte says as a hex digit, `0` to `9` and `a` to `f`, and 16 if it is none
abbrev pub nibble_of : ℕ → ℕ
nibble_of b = cond (ltb b 48) 16 (cond (leb b 57) (b - 48) (cond (ltb b 97) 16 (cond (leb b 102) (b - 97 + 10) 16)))

-- the byte that two hex digits say, and 256 if one of them is none
abbrev pub byte_of : ℕ → ℕ → ℕ
byte_of high low = cond (ltb 15 (nibble_of high)) 256 (cond (ltb 15 (nibble_of low)) 256 (nibble_of high * 16 + nibble_of low))

-- hex digits alone, and an even number of them
abbrev pub all_pairs : List ℕ → Bool
all_pairs [] = true
all_pairs (a ∷ []) = false
all_pairs (a ∷ (b ∷ s)) = leb (byte_of a b) 255 && all_pairs s

-- the bytes that pairs of hex digits say
abbrev pub from_hex : List ℕ → List ℕ
from_hex [] = []
from_hex (a ∷ []) = []
from_hex (a ∷ (b ∷ s)) = byte_of a b ∷ from_hex s

-- `-` and nothing else
abbrev pub is_dash : List ℕ → Bool
is_dash s = eqb (length s) 1 && eqb (get_or s 0 0) 45

-- one pair of hex digits or more, for at most so many bytes
abbrev pub is_hex : ℕ → List ℕ → Bool
is_hex most s = ltb 0 (length s) && (leb (length s) (2 * most) && all_pairs s)

-- whether a word says a payload of at most so many bytes
unfoldable pub is_payload : ℕ → List ℕ → Bool
is_payload most s = is_dash s || is_hex most s

-- the bytes that it says, and none if it says no payload
unfoldable pub payload_bytes : ℕ → List ℕ → List ℕ
payload_bytes most s = cond (is_hex most s) (from_hex s) []

-- what a word says as a payload of at most so many bytes
unfoldable pub payload_of : ℕ → List ℕ → Payload
payload_of most s = record { ok = is_payload most s; len = length (payload_bytes most s) }

-- the word of s that starts at index at, as such a payload, and where the next word starts
unfoldable pub payload_at : ℕ → List ℕ → ℕ → PayloadAt
payload_at most s at =
    record { ok = (payload_of most (bytes_at s at)).ok; len = (payload_of most (bytes_at s at)).len; next = (word_at s at).next }

-- what was lent, with these bytes at its front
abbrev pub over : List ℕ → List ℕ → List ℕ
over bytes lent = bytes ++ drop (length bytes) lent

-- two hex digits for each byte
abbrev pub to_hex : List ℕ → List ℕ
to_hex [] = []
to_hex (b ∷ s) = hex_digit_ascii (b / 16) ∷ (hex_digit_ascii (b % 16) ∷ to_hex s)

-- the text of a payload
abbrev pub hex_text : List ℕ → List ℕ
hex_text [] = 45 ∷ []
hex_text (b ∷ s) = to_hex (b ∷ s)
