-- How ticks are counted: without bound, as the rules are meant, or modulo 65,536, as the counter does.
use Rattle.std.specs.Prelude.{ℕ, ◌+◌, ◌-◌, ◌%◌}

pub record Clock : Type 0 where
  pub next : ℕ → ℕ
  pub age : (now stamp : ℕ) → ℕ

-- the counter rolls over from one below this to 0
abbrev pub period : ℕ
period = 65536

abbrev pub unbounded : Clock
unbounded = record { next = λ now. now + 1; age = λ now stamp. now - stamp }

abbrev pub rolled : Clock
rolled = record { next = λ now. (now + 1) % period; age = λ now stamp. (now + (period - stamp)) % period }
