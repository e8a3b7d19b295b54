-- The kinds of heard record. They differ in how many bytes hold the count of ticks; a further kind is added here and in `src/kind.rt`.
use Rattle.std.specs.Prelude.{◌≡◌, ℕ, ◌+◌, Bool, false, cond, eqb, ltb, Result, MatchResult}
use Rattle.heard.specs.declared.kind.Kind.{Kind}
use Rattle.heard.specs.declared.kind.Kind.TheVariants.{Counter}
use Rattle.heard.specs.declared.reply.Reply.{Reply}
use Rattle.heard.specs.declared.reply.Reply.TheVariants.{UnknownKind}

-- the count is the node's 16-bit counter
abbrev pub counter_kind : ℕ
counter_kind = 32

-- how many bytes hold the count; none, where the kind is unknown
unfoldable pub count_bytes : (kind : ℕ) → ℕ
count_bytes kind = cond (eqb kind counter_kind) 2 0

abbrev pub is_known : (kind : ℕ) → Bool
is_known kind = ltb 0 (count_bytes kind)

-- kind, count, bus identifier and DLC, which the length counts beside the payload
abbrev pub head_length : (kind : ℕ) → ℕ
head_length kind = 7 + count_bytes kind

-- ── the kinds of the code ──
abbrev pub kind_number : Kind → ℕ
kind_number Counter = counter_kind

-- the kind with this number, or none, where the number is unknown
abbrev pub IsKindOf : (number : ℕ) → Result Kind Reply → Type 0
IsKindOf number r = MatchResult r (λ kind. kind_number kind ≡ number) (λ e. (e ≡ UnknownKind) × (is_known number ≡ false))
