-- Digits as bytes.
use Rattle.std.specs.Prelude.{ℕ, ◌+◌, cond, ltb}

-- the ASCII code of a digit below 16: `0` to `9`, then `a` to `f`
abbrev pub hex_digit_ascii : ℕ → ℕ
hex_digit_ascii d = cond (ltb d 10) (48 + d) (87 + d)
