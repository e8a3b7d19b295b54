-- Reading a delivered record: the ways to each answer; what was written is read, and what was read is written again.
use mathlib.Core.Path.{◌≡◌, refl, sym, ap, ◌∙◌}
use mathlib.Core.Bool.{Bool, true, false, cond, not, ◌||◌, false≢true}
use mathlib.Core.List.{List, [], ◌∷◌, ◌++◌, append-nil, append_assoc}
use Prim.Native.Nat.{ℕ, zero, suc, ◌+◌, ◌-◌, ◌*◌, ◌/◌, ◌%◌, ◌≤◌, ◌<◌}
use native.Mathlib.Nat.{zero-add}
use native.Mathlib.Omega.{arith}
use borrow.Author.Tests.{lt-ltb, le-ltb, eq-eqb, ltb-false, eqb-true}
use lib.ListN.{length, get_or, take, drop, length-append, length-drop, take-append-drop}
use lib.Seq.{get_or-append-add, drop-append-add, take-append_seam, drop-cons, drop-drop, take-add, length-take-le}
use lib.Dec.{eqb, ltb}
use Rattle.wire.specs.declared.ids.Stream.{Stream}
use Rattle.std.specs.Prelude.{Result, Ok, Err}
use Rattle.std.specs.Result.{is_ok}
use Rattle.wire.specs.declared.delivered.RecordAt.{RecordAt}
use Rattle.wire.specs.declared.delivered.Fault.{Fault}
use Rattle.wire.specs.declared.delivered.Fault.TheVariants.{Cut, OtherKind, OtherLength}
use Rattle.wire.specs.Frames.{max_payload}
use Rattle.wire.specs.Delivered.{little_endian, delivered_kind, record_of, over, fitting, number_at, following}
use Rattle.wire.specs.Delivered.{is_cut, other_length, ReadAt, record_found, no_record, record_at, the_record, as_read}
use Rattle.wire.specs.Delivered.{records_of, message_in, messages_at, Writable, no_message, one_more, AreBytes}
use Rattle.wire.proofs.Records.{record_length_law, does_fit}

-- two tests of which neither holds
pub neither : (a b : Bool) → (a || b) ≡ false → (a ≡ false) × (b ≡ false)
neither true b e = absurd (false≢true (sym e))
neither false b e = (refl, e)

-- the answer where no test fails
abbrev found_at : List ℕ → ℕ → ReadAt
found_at bytes at = record_found (record { 0 = number_at 4 bytes (4 + at) }) (8 + at) (following bytes at - 6)

-- ── the ways to each answer ──
module _ (bytes : List ℕ) (at : ℕ) where
  pub no_head : length bytes - at < 4 → no_record Cut ≡ record_at bytes at
  unfolding record_at
  no_head h = rw (lt-ltb _ _ h)

  pub whole : 4 ≤ length bytes - at → 2 + following bytes at ≤ length bytes - at → number_at 2 bytes (2 + at) ≡ delivered_kind
      → 6 ≤ following bytes at → following bytes at ≤ 14 → found_at bytes at ≡ record_at bytes at
  unfolding record_at
  whole head body kind low high =
      rw (le-ltb (length bytes - at) 4 head, le-ltb _ _ body, eq-eqb _ _ kind, le-ltb (following bytes at) 6 low, le-ltb 14 (following bytes at) high)

-- ── what was read ──
-- of a record that was read: the tests that it passed
record Passed (bytes : List ℕ) (at : ℕ) : Type 0 where
  body : 2 + following bytes at ≤ length bytes - at
  kind : number_at 2 bytes (2 + at) ≡ delivered_kind
  low : 6 ≤ following bytes at
  high : following bytes at ≤ 14
  is : record_at bytes at ≡ found_at bytes at

module _ (bytes : List ℕ) (at : ℕ) where
  -- a test that no fault passes
  module _ (test : ReadAt → Bool) (fails : (fault : Fault) → test (no_record fault) ≡ false) where
    by_tests : (cut kind other : Bool) → is_cut bytes at ≡ cut → eqb (number_at 2 bytes (2 + at)) delivered_kind ≡ kind
        → other_length (following bytes at) ≡ other
        → record_at bytes at ≡ cond cut (no_record Cut) (cond (not kind) (no_record OtherKind) (cond other (no_record OtherLength) (found_at bytes at)))
        → test (record_at bytes at) ≡ true → Passed bytes at
    by_tests true kind other c k o e holds = absurd (false≢true (sym (fails Cut) ∙ (sym (ap test e) ∙ holds)))
    by_tests false false other c k o e holds = absurd (false≢true (sym (fails OtherKind) ∙ (sym (ap test e) ∙ holds)))
    by_tests false true true c k o e holds = absurd (false≢true (sym (fails OtherLength) ∙ (sym (ap test e) ∙ holds)))
    by_tests false true false c k o e holds =
        let (head, body) = neither (ltb (length bytes - at) 4) (ltb (length bytes - at) (2 + following bytes at)) c in
        let (low, high) = neither (ltb (following bytes at) 6) (ltb 14 (following bytes at)) o in
        record { body = ltb-false _ _ body; kind = eqb-true _ _ k; low = ltb-false _ _ low; high = ltb-false _ _ high; is = e }

    passes : test (record_at bytes at) ≡ true → Passed bytes at
    unfolding record_at
    passes = by_tests (is_cut bytes at) (eqb (number_at 2 bytes (2 + at)) delivered_kind) (other_length (following bytes at)) refl refl refl refl

  passed : (record_at bytes at).ok ≡ true → Passed bytes at
  passed = passes (λ r. r.ok) (λ fault. refl)

-- what a caller needs in order to take the record apart and to go on behind it
pub record Within (bytes : List ℕ) (at : ℕ) (r : RecordAt) : Type 0 where
  pub payload : r.payload ≡ 8 + at
  pub short : r.length ≤ max_payload
  pub next : r.next ≡ r.payload + r.length
  pub inside : r.next ≤ length bytes

pub within : (bytes : List ℕ) (at : ℕ) → (record_at bytes at).ok ≡ true → Within bytes at (the_record (record_at bytes at))
within bytes at ok =
    let p = passed bytes at ok in
    rw p.is (record { payload = refl; short = omega arith; next = refl; inside = omega arith })

-- ── as it is answered ──
-- what an answer that is Ok holds
abbrev held : RecordAt → Result RecordAt Fault → RecordAt
held other (Ok r) = r
held other (Err fault) = other

-- the record that was answered is the one that was found
pub record Answered (bytes : List ℕ) (at : ℕ) (r : RecordAt) : Type 0 where
  pub ok : (record_at bytes at).ok ≡ true
  pub is : r ≡ the_record (record_at bytes at)

module _ (bytes : List ℕ) (at : ℕ) (r : RecordAt) where
  pub answered_record : Ok r ≡ as_read (record_at bytes at) → Answered bytes at r
  answered_record h =
      let p = passes bytes at (λ x. is_ok (as_read x)) (λ fault. refl) (sym (ap is_ok h)) in
      record { ok = ap (λ (x : ReadAt). x.ok) p.is; is = ap (held r) (h ∙ ap as_read p.is) ∙ sym (ap the_record p.is) }

  -- so that the caller can take it apart
  pub answered_within : Ok r ≡ as_read (record_at bytes at) → Within bytes at r
  answered_within h =
      let a = answered_record h in
      rw a.is (within bytes at a.ok)

-- ── what was written is read ──
-- the bytes behind some others are found as far behind them
pub behind : (before bytes : List ℕ) (i : ℕ) → get_or (before ++ bytes) (i + length before) 0 ≡ get_or bytes i 0
behind before bytes i =
    let e : i + length before ≡ length before + i = omega arith in
    rw e (get_or-append-add before bytes i 0)

pub number_behind : (k : ℕ) (before bytes : List ℕ) (i : ℕ) → number_at k (before ++ bytes) (i + length before) ≡ number_at k bytes i
number_behind zero before bytes i = refl
number_behind (suc k) before bytes i =
    let e : suc (i + length before) ≡ suc i + length before = omega arith in
    rw (behind before bytes i, e, number_behind k before bytes (suc i))

pub number_here : (k : ℕ) (before bytes : List ℕ) → number_at k (before ++ bytes) (length before) ≡ number_at k bytes 0
number_here k before bytes = ap (number_at k (before ++ bytes)) (sym (zero-add (length before))) ∙ number_behind k before bytes 0

module _ (before payload rest : List ℕ) (s : Stream) (small : s.0 < 4294967296) (short : length payload ≤ max_payload) where
  abbrev all : List ℕ
  all = before ++ (record_of s payload ++ rest)

  all_length : length all - length before ≡ 8 + length payload + length rest
  all_length = omega (arith, length-append before (record_of s payload ++ rest), length-append (record_of s payload) rest, record_length_law s payload)

  follows : following all (length before) ≡ 6 + length payload
  unfolding record_of
  follows = number_here 2 before (record_of s payload ++ rest) ∙ omega arith

  of_kind : number_at 2 all (2 + length before) ≡ delivered_kind
  unfolding record_of
  of_kind = number_behind 2 before (record_of s payload ++ rest) 2

  of_stream : number_at 4 all (4 + length before) ≡ s.0
  unfolding record_of
  of_stream = number_behind 4 before (record_of s payload ++ rest) 4 ∙ omega arith

  pub read_back : record_at all (length before) ≡ record_found s (8 + length before) (length payload)
  read_back =
      let long : 6 + length payload - 6 ≡ length payload = omega arith in
      sym (whole all (length before) (omega (arith, all_length)) (omega (arith, all_length, follows)) of_kind (omega (arith, follows)) (omega (arith, follows)))
      ∙ rw (of_stream, follows, long)

-- the writer's output is read again
pub written_is_read : (out payload : List ℕ) (s : Stream) → s.0 < 4294967296 → length payload ≤ max_payload → 8 + length payload ≤ length out
    → record_at (over (fitting (record_of s payload) out) out) 0 ≡ record_found s 8 (length payload)
written_is_read out payload s small short room =
    rw (does_fit (record_of s payload) out (omega (arith, record_length_law s payload)))
    (read_back [] payload (drop (length (record_of s payload)) out) s small short)

-- ── and what was read is written again ──
number_again : (k : ℕ) (bytes : List ℕ) (at : ℕ) → AreBytes bytes → k + at ≤ length bytes → little_endian k (number_at k bytes at) ≡ take k (drop at bytes)
number_again zero bytes at low room = refl
number_again (suc k) bytes at low room =
    let small = low at in
    let first : (get_or bytes at 0 + 256 * number_at k bytes (suc at)) % 256 ≡ get_or bytes at 0 = omega arith in
    let others : (get_or bytes at 0 + 256 * number_at k bytes (suc at)) / 256 ≡ number_at k bytes (suc at) = omega arith in
    rw (first, others, drop-cons bytes at 0 (omega arith))
    (ap (λ (l : List ℕ). get_or bytes at 0 ∷ l) (number_again k bytes (suc at) low (omega arith)))

parts : (n m i : ℕ) (bytes : List ℕ) → take (n + m) (drop i bytes) ≡ take n (drop i bytes) ++ take m (drop (n + i) bytes)
parts n m i bytes =
    let e : i + n ≡ n + i = omega arith in
    take-add n m (drop i bytes) ∙ ap (λ (l : List ℕ). take n (drop i bytes) ++ take m l) (drop-drop n i bytes ∙ ap (λ (k : ℕ). drop k bytes) e)

joined_parts : {a b c a' b' c' : List ℕ} (d : List ℕ) → a ≡ a' → b ≡ b' → c ≡ c' → a ++ (b ++ (c ++ d)) ≡ a' ++ (b' ++ (c' ++ d))
joined_parts d e₁ e₂ e₃ = rw (e₁, e₂, e₃)

-- two, two and four bytes, and what is left of n
four_parts : (n at : ℕ) (bytes : List ℕ) → 8 ≤ n → take n (drop at bytes)
    ≡ take 2 (drop at bytes) ++ (take 2 (drop (2 + at) bytes) ++ (take 4 (drop (4 + at) bytes) ++ take (n - 8) (drop (8 + at) bytes)))
four_parts n at bytes long =
    let all : n ≡ 2 + (2 + (4 + (n - 8))) = omega arith in
    let fourth : 2 + (2 + at) ≡ 4 + at = omega arith in
    let eighth : 4 + (4 + at) ≡ 8 + at = omega arith in
    ap (λ (k : ℕ). take k (drop at bytes)) all
    ∙ (parts 2 (2 + (4 + (n - 8))) at bytes
    ∙ ap (λ (l : List ℕ). take 2 (drop at bytes) ++ l)
    (parts 2 (4 + (n - 8)) (2 + at) bytes
    ∙ ap (λ (l : List ℕ). take 2 (drop (2 + at) bytes) ++ l) (rw fourth (parts 4 (n - 8) (4 + at) bytes ∙ rw eighth))))

module _ (bytes : List ℕ) (at : ℕ) (low : AreBytes bytes) (read : (record_at bytes at).ok ≡ true) where
  p : Passed bytes at
  p = passed bytes at read

  abbrev f : ℕ
  f = following bytes at

  abbrev rest : List ℕ
  rest = take (f - 6) (drop (8 + at) bytes)

  rest_length : 6 + length rest ≡ f
  rest_length = omega (arith, length-take-le (f - 6) (drop (8 + at) bytes) (omega (arith, length-drop (8 + at) bytes, p.body, p.low)), p.low)

  whole_again : record_of (record { 0 = number_at 4 bytes (4 + at) }) rest ≡ take (2 + f) (drop at bytes)
  unfolding record_of
  whole_again =
      let left : 2 + f - 8 ≡ f - 6 = omega (arith, p.low) in
      let room : 2 + f + at ≤ length bytes = omega (arith, p.body, p.low) in
      joined_parts rest
      (ap (little_endian 2) rest_length ∙ number_again 2 bytes at low (omega arith))
      (ap (little_endian 2) (sym p.kind) ∙ number_again 2 bytes (2 + at) low (omega (arith, p.low)))
      (number_again 4 bytes (4 + at) low (omega (arith, p.low)))
      ∙ sym (four_parts (2 + f) at bytes (omega (arith, p.low)) ∙ rw left)

  pub written_again : record_of (record_at bytes at).stream (message_in bytes (record_at bytes at)).1 ≡ take ((record_at bytes at).next - at) (drop at bytes)
  written_again =
      let past : 8 + at + (f - 6) - at ≡ 2 + f = omega (arith, p.low) in
      rw (p.is, past) whole_again

-- ── one after the other ──
nothing_left : (most : ℕ) (bytes : List ℕ) → messages_at most bytes (length bytes) ≡ []
nothing_left zero bytes = refl
nothing_left (suc most) bytes = rw (← no_head bytes (length bytes) (omega arith))

payload_there : (before payload rest : List ℕ) (s : Stream)
    → take (length payload) (drop (8 + length before) (before ++ (record_of s payload ++ rest))) ≡ payload
unfolding record_of
payload_there before payload rest s =
    let e : 8 + length before ≡ length before + 8 = omega arith in
    rw (e, drop-append-add before (record_of s payload ++ rest) 8) (take-append_seam payload rest)

messages_behind : {messages : List (Stream × List ℕ)} → Writable messages → (most : ℕ) → length messages ≤ most → (before : List ℕ)
    → messages_at most (before ++ records_of messages) (length before) ≡ messages
messages_behind no_message most enough before = rw append-nil (nothing_left most before)
messages_behind (one_more {s} {payload} {messages} small short others) zero enough before = absurd (omega arith)
messages_behind (one_more {s} {payload} {messages} small short others) (suc most) enough before =
    let past : 8 + length before + length payload ≡ length (before ++ record_of s payload) =
    omega (arith, length-append before (record_of s payload), record_length_law s payload) in
    rw (
      read_back before payload (records_of messages) s small short,
      payload_there before payload (records_of messages) s,
      past,
      ← append_assoc before (record_of s payload) (records_of messages),
    )
    (ap (λ (l : List (Stream × List ℕ)). (s, payload) ∷ l) (messages_behind others most (omega arith) (before ++ record_of s payload)))

pub messages_back : {messages : List (Stream × List ℕ)} → Writable messages → (most : ℕ) → length messages ≤ most
    → messages_at most (records_of messages) 0 ≡ messages
messages_back w most enough = messages_behind w most enough []

-- what was read, written again, stands at the place where it was read
pub record Front (bytes some : List ℕ) : Type 0 where
  pub rest : List ℕ
  pub split : some ++ rest ≡ bytes

module _ (most : ℕ) (bytes : List ℕ) (at : ℕ) (low : AreBytes bytes)
    (others : (next : ℕ) → Front (drop next bytes) (records_of (messages_at most bytes next))) where
  abbrev r : ReadAt
  r = record_at bytes at

  by_answer : (ok : Bool) → r.ok ≡ ok → Front (drop at bytes) (records_of (cond ok (message_in bytes r ∷ messages_at most bytes r.next) []))
  by_answer true e =
      let w = within bytes at e in
      let gone : at + (r.next - at) ≡ r.next = omega arith in
      record {
        rest = (others r.next).rest;
        split = rw (append_assoc, (others r.next).split, written_again bytes at low e)
            (ap (λ (l : List ℕ). take (r.next - at) (drop at bytes) ++ l)
            (ap (λ (k : ℕ). drop k bytes) (sym gone) ∙ sym (drop-drop (r.next - at) at bytes))
            ∙ take-append-drop (r.next - at) (drop at bytes));
      }
  by_answer false e = record { rest = drop at bytes; split = refl }

pub records_again : (most : ℕ) (bytes : List ℕ) (at : ℕ) → AreBytes bytes → Front (drop at bytes) (records_of (messages_at most bytes at))
records_again zero bytes at low = record { rest = drop at bytes; split = refl }
records_again (suc most) bytes at low = by_answer most bytes at low (λ next. records_again most bytes next low) (record_at bytes at).ok refl
