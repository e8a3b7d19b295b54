-- How large the buffers are that a program lends to `text`.
use Rattle.std.specs.Prelude.{ℕ}

-- the bytes of a buffer
abbrev pub size : ℕ
size = 65536
