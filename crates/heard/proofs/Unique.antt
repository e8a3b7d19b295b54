-- Every public promise is met by one answer only, and leaves a lent output one content only.
use mathlib.Core.Path.{◌≡◌, sym, ap, ◌∙◌}
use mathlib.Core.Bool.{false≢true}
use Rattle.std.specs.Prelude.{ℕ, Result, Ok, Err}
use denote.RattleType.{RattleType}
use denote.Param.Laws.{Laws}
use Rattle.wire.specs.Uniqueness.{OneAnswer, OneContent}
use Rattle.wire.proofs.Unique.{same}
use Rattle.heard.specs.declared.kind.Kind.{Kind}
use Rattle.heard.specs.declared.reply.Reply as code
use Rattle.heard.specs.declared.reading.HeardAt as reader
use Rattle.heard.specs.Kinds.{is_known, IsKindOf}
use Rattle.heard.specs.Replies.{number_of}
use Rattle.heard.specs.Reading.{HeardAt}
use Rattle.heard.specs.Answers.{was_read, was_told}
use Rattle.heard.proofs.Numbers.{kind_known, kinds_distinct}
use Rattle.heard.proofs.Replies.{refusals_distinct}
use Rattle.heard.proofs.kind.Kind.number.Reads as kind_number_law
use Rattle.heard.proofs.kind.Kind.count_bytes.Reads as kind_count_bytes
use Rattle.heard.proofs.kind.count_bytes.Reads as count_bytes
use Rattle.heard.proofs.kind.KindTryFromU16.try_from.Reads as try_from
use Rattle.heard.proofs.reading.heard_at.Reads as heard_at_law
use Rattle.heard.proofs.reply.Reply.number.Reads as refusal_number_law
use Rattle.heard.proofs.reply.number_of.Reads as number
use Rattle.heard.proofs.writing.write_heard.Reads as write_heard
use Rattle.heard.proofs.writing.written_in.Reads as written_in

pub refusal_number_unique : OneAnswer refusal_number_law.Post
refusal_number_unique l input a b s t = same

-- of every answer, Done too
pub number_unique : (T : RattleType) (laws : Laws T) → OneAnswer (number.Post T laws)
number_unique T laws l input a b s t = same

pub written_in_unique : OneAnswer written_in.Post
written_in_unique l input a b s t = same

pub kind_number_unique : OneAnswer kind_number_law.Post
kind_number_unique l input a b s t = same

pub kind_count_bytes_unique : OneAnswer kind_count_bytes.Post
kind_count_bytes_unique l input a b s t p q = same p.0 q.0

pub count_bytes_unique : OneAnswer count_bytes.Post
count_bytes_unique l input a b s t p q = same p.0 q.0

-- ── the kind with a number ──
one_kind : (number : ℕ) (a b : Result Kind code.Reply) → IsKindOf number a → IsKindOf number b → a ≡ b
one_kind number (Ok a) (Ok b) p q = ap Ok (kinds_distinct a b (p ∙ sym q))
one_kind number (Ok a) (Err b) p q = absurd (false≢true (sym q.1 ∙ ap (λ (n : ℕ). is_known n) (sym p) ∙ kind_known a))
one_kind number (Err a) (Ok b) p q = absurd (false≢true (sym p.1 ∙ ap (λ (n : ℕ). is_known n) (sym q) ∙ kind_known b))
one_kind number (Err a) (Err b) p q = ap Err (p.0 ∙ sym q.0)

pub try_from_unique : OneAnswer try_from.Post
try_from_unique l input a b s t = one_kind input.0 a b

-- ── reading ──
-- what was read, with this kind
with_kind : Kind → HeardAt → reader.HeardAt
with_kind kind r =
    record {
      heard = record { kind = kind; count = r.heard.count; id = r.heard.id; dlc = r.heard.dlc };
      payload = r.payload;
      length = r.length;
      next = r.next;
    }

one_read : (a b : reader.HeardAt) → was_read a ≡ was_read b → a ≡ b
unfolding with_kind
one_read a b e =
    ap (λ (k : Kind). with_kind k (was_read a)) (kinds_distinct a.heard.kind b.heard.kind (ap (λ (r : HeardAt). r.heard.kind) e))
    ∙ ap (with_kind b.heard.kind) e

one_told : (at : ℕ) (a b : Result reader.HeardAt code.Reply) → was_told at a ≡ was_told at b → a ≡ b
one_told at (Ok a) (Ok b) e = ap Ok (one_read a b e)
one_told at (Ok a) (Err b) e = absurd (false≢true (sym (ap (λ (r : HeardAt). r.ok) e)))
one_told at (Err a) (Ok b) e = absurd (false≢true (ap (λ (r : HeardAt). r.ok) e))
one_told at (Err a) (Err b) e = ap Err (refusals_distinct a b (ap (λ (r : HeardAt). number_of r.reply) e))

pub heard_at_unique : OneAnswer heard_at_law.Post
heard_at_unique l input a b s t p q = one_told input.1.0 a b (p ∙ sym q)

-- ── writing ──
pub write_heard_unique : OneAnswer write_heard.Post
write_heard_unique l input a b s t p q = same p.0 q.0

pub write_heard_content_unique : OneContent write_heard.Post (λ l e. e.0.now)
write_heard_content_unique l input a b s t p q = same p.1 q.1
