-- What a record that was read has passed, and where it stands.
use mathlib.Core.Path.{◌≡◌, refl, sym, ap, ◌∙◌}
use mathlib.Core.Bool.{Bool, true, false, cond, not, false≢true}
use mathlib.Core.List.{List}
use Prim.Native.Nat.{ℕ, ◌+◌, ◌-◌, ◌≤◌, ◌<◌}
use native.Mathlib.Omega.{arith}
use borrow.Author.Tests.{ltb-true, ltb-false}
use lib.ListN.{length}
use lib.Dec.{ltb}
use Rattle.wire.specs.Frames.{max_payload}
use Rattle.wire.specs.Delivered.{following, is_cut}
use Rattle.wire.proofs.Reading.{neither}
use Rattle.heard.specs.declared.reply.Reply.TheVariants.{CutRecord, UnknownKind, BadRecordLength}
use Rattle.std.specs.Prelude.{Result, Ok, Err}
use Rattle.heard.specs.declared.reply.Reply as code
use Rattle.heard.specs.declared.reading.HeardAt as reader
use Rattle.heard.specs.Kinds.{count_bytes, is_known, head_length}
use Rattle.heard.specs.Answers.{was_told}
use Rattle.heard.proofs.Numbers.{kind_there}
use Rattle.heard.specs.Reading.{HeardAt, bad_length, found, refused, kind_at, count_end, head_at, heard_at}

pub record Passed (bytes : List ℕ) (at : ℕ) : Type 0 where
  pub body : 2 + following bytes at ≤ length bytes - at
  pub known : 0 < count_bytes (kind_at bytes at)
  pub low : head_length (kind_at bytes at) ≤ following bytes at
  pub high : following bytes at ≤ head_length (kind_at bytes at) + max_payload
  pub is : heard_at bytes at ≡ found (head_at bytes at) (5 + count_end bytes at) (following bytes at - head_length (kind_at bytes at))

-- the answer by the outcomes of the three tests
abbrev pub answer_by : (bytes : List ℕ) → (at : ℕ) → (cut known bad : Bool) → HeardAt
answer_by bytes at cut known bad =
    cond cut (refused CutRecord at)
    (cond (not known) (refused UnknownKind at)
    (cond bad (refused BadRecordLength at)
    (found (head_at bytes at) (5 + count_end bytes at) (following bytes at - head_length (kind_at bytes at)))))

module _ (bytes : List ℕ) (at : ℕ) where
  by_tests : (cut known bad : Bool) → is_cut bytes at ≡ cut → is_known (kind_at bytes at) ≡ known → bad_length (kind_at bytes at) (following bytes at) ≡ bad
      → heard_at bytes at ≡ answer_by bytes at cut known bad → (heard_at bytes at).ok ≡ true → Passed bytes at
  by_tests true known bad c k b e ok = absurd (false≢true (sym (ap (λ (r : HeardAt). r.ok) e) ∙ ok))
  by_tests false false bad c k b e ok = absurd (false≢true (sym (ap (λ (r : HeardAt). r.ok) e) ∙ ok))
  by_tests false true true c k b e ok = absurd (false≢true (sym (ap (λ (r : HeardAt). r.ok) e) ∙ ok))
  by_tests false true false c k b e ok =
      let (head, body) = neither (ltb (length bytes - at) 4) (ltb (length bytes - at) (2 + following bytes at)) c in
      let least : ℕ = head_length (kind_at bytes at) in
      let (low, high) = neither (ltb (following bytes at) least) (ltb (least + max_payload) (following bytes at)) b in
      record { body = ltb-false _ _ body; known = ltb-true _ _ k; low = ltb-false _ _ low; high = ltb-false _ _ high; is = e }

  pub passed : (heard_at bytes at).ok ≡ true → Passed bytes at
  unfolding heard_at
  passed = by_tests (is_cut bytes at) (is_known (kind_at bytes at)) (bad_length (kind_at bytes at) (following bytes at)) refl refl refl refl

-- what a caller needs in order to take the record apart and to go on behind it
pub record Within (bytes : List ℕ) (at : ℕ) (r : HeardAt) : Type 0 where
  pub short : r.length ≤ max_payload
  pub next : r.next ≡ r.payload + r.length
  pub inside : r.next ≤ length bytes
  pub ahead : at < r.next

pub within : (bytes : List ℕ) (at : ℕ) (r : HeardAt) → r ≡ heard_at bytes at → r.ok ≡ true → Within bytes at r
within bytes at r e ok =
    let p = passed bytes at (ap (λ (x : HeardAt). x.ok) (sym e) ∙ ok) in
    rw (e, p.is) (record { short = omega arith; next = refl; inside = omega arith; ahead = omega arith })

-- the reader has an answer everywhere
module _ (bytes : List ℕ) (at : ℕ) where
  abbrev pub Answer : HeardAt → Type 0
  Answer h = (r : Result reader.HeardAt code.Reply) × (was_told at r ≡ h)

  some_by : (cut known bad : Bool) → is_known (kind_at bytes at) ≡ known → Answer (answer_by bytes at cut known bad)
  some_by true known bad k = (Err CutRecord, refl)
  some_by false false bad k = (Err UnknownKind, refl)
  some_by false true true k = (Err BadRecordLength, refl)
  some_by false true false k =
      let (kind, is) = kind_there (kind_at bytes at) k in
      let h = head_at bytes at in
      let payload : ℕ = 5 + count_end bytes at in
      let n : ℕ = following bytes at - head_length (kind_at bytes at) in
      (Ok (record { heard = record { kind = kind; count = h.count; id = h.id; dlc = h.dlc }; payload = payload; length = n; next = payload + n }), rw is refl)

  pub some_answer : Answer (heard_at bytes at)
  unfolding heard_at
  some_answer = some_by (is_cut bytes at) (is_known (kind_at bytes at)) (bad_length (kind_at bytes at) (following bytes at)) refl

  by_told : (r : Result reader.HeardAt code.Reply) → was_told at r ≡ heard_at bytes at → (heard_at bytes at).ok ≡ false
      → (reply : code.Reply) × (refused reply at ≡ heard_at bytes at)
  by_told (Ok r) p bad = absurd (false≢true (sym bad ∙ ap (λ (x : HeardAt). x.ok) (sym p)))
  by_told (Err reply) p bad = (reply, p)

  -- what cannot be read is refused, and is where it was looked for
  pub unread : (heard_at bytes at).ok ≡ false → (reply : code.Reply) × (refused reply at ≡ heard_at bytes at)
  unread = let (r, p) = some_answer in by_told r p
