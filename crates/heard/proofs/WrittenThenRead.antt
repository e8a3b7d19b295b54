-- What calls of the writer wrote, calls of the reader read.
use mathlib.Core.Path.{◌≡◌, refl, sym, ap, subst, ◌∙◌}
use mathlib.Core.Bool.{Bool, true, false, cond}
use mathlib.Core.List.{List, [], ◌∷◌, append_assoc}
use Prim.Native.Nat.{ℕ, zero, suc, ◌+◌, ◌≤◌, ◌<◌}
use native.Mathlib.Omega.{arith}
use borrow.Author.Tests.{le-ltb, le-leb, lt-leb, leb-true, leb-false}
use lib.ListN.{length, take, drop, length-append, length-drop}
use lib.Seq.{take-append_seam, drop-append_seam, take-append-add, drop-drop}
use lib.Dec.{ltb, leb}
use Rattle.std.proofs.lemmas.Result.{MatchResult-at_ok, MatchResult-at_err}
use Rattle.wire.specs.Frames.{max_payload}
use Rattle.wire.specs.Delivered.{over}
use Rattle.std.specs.Prelude.{Result, Ok, Err}
use Rattle.heard.specs.declared.reply.Reply as code
use Rattle.heard.specs.declared.reply.Reply.TheVariants.{ShortOutput}
use Rattle.heard.specs.declared.reading.HeardAt as reader
use Rattle.heard.specs.Replies.{Done}
use Rattle.heard.specs.Records.{Heard, at_counter, record_of}
use Rattle.heard.specs.Reading.{HeardAt, heard_at}
use Rattle.heard.specs.Answers.{as_written, was_read, was_told}
use Rattle.heard.specs.Writing.{Writing, not_written, writing}
use Rattle.heard.specs.Recordings.{Record, recording_of, Recording, stopped, behind, record_in, read_from}
use Rattle.heard.specs.RoundTrip.{AllWritable, WriterPromises, ReaderPromises, WrittenBy, ReadBy}
use Rattle.heard.specs.RoundTrip.{RoundTripOfCalls, EveryListIsWritten, EveryRecordingIsRead}
use Rattle.heard.specs.RoundTrip.{none_written, one_written, at_end, at_fault, one_read}
use Rattle.heard.proofs.Ways.{writes}
use Rattle.heard.proofs.Passed.{some_answer, within}
use Rattle.heard.proofs.RoundTrip.{round_trip_of_many}
use Rattle.heard.proofs.reading.heard_at.Reads as heard_at_law
use Rattle.heard.proofs.writing.write_heard.Reads as write_heard

-- ── writing ──
abbrev ok : ℕ → Result ℕ code.Reply
ok written = Ok written

not_both : {a : ℕ} {b : code.Reply} → ok a ≡ Err b → ⊥
not_both e = MatchResult-at_err (λ x. Unit {0}) (λ y. ⊥) _ e tt

both_ok : {a b : ℕ} → ok a ≡ ok b → a ≡ b
both_ok {a} {b} e = MatchResult-at_ok (λ x. a ≡ x) (λ y. ⊥) b e refl

-- a writer that does not refuse has written the record
module _ (h : Heard) (payload output : List ℕ) (written : ℕ) (short : length payload ≤ max_payload) where
  record Wrote : Type 0 where
    bytes : (writing h payload output).bytes ≡ record_of h payload
    long : written ≡ length (record_of h payload)

  by_room : (no_room : Bool) → writing h payload output ≡ cond no_room (not_written ShortOutput) (record { reply = Done; bytes = record_of h payload })
      → ok written ≡ as_written (writing h payload output) → Wrote
  by_room true e done = absurd (not_both (done ∙ ap as_written e))
  by_room false e done = record { bytes = ap (λ (w : Writing). w.bytes) e; long = both_ok (done ∙ ap as_written e) }

  done_is_written : ok written ≡ as_written (writing h payload output) → Wrote
  unfolding writing
  done_is_written = by_room (ltb (length output) (length (record_of h payload))) (rw (le-ltb max_payload (length payload) short))

-- what calls wrote is the recording
pub record Recorded (records : List Record) (left : List ℕ) (written : ℕ) : Type 0 where
  pub bytes : take written left ≡ recording_of records
  pub long : written ≡ length (recording_of records)

calls_write : {output left : List ℕ} {records : List Record} {written : ℕ} → AllWritable records → WrittenBy output records left written
    → Recorded records left written
calls_write all none_written = record { bytes = refl; long = refl }
calls_write all (one_written {output} {rest} {records} {n} (h, payload) w left p others) =
    let wrote = done_is_written h payload output w all.0.short p.0 in
    let then = calls_write all.1 others in
    let long = wrote.long in
    let front : take w left ≡ record_of h payload = rw (long, p.1, wrote.bytes) (take-append_seam (record_of h payload) _) in
    record {
      bytes = rw (front, long, take-append-add (record_of h payload) rest n, then.bytes);
      long = rw (long, then.long) (sym (length-append (record_of h payload) (recording_of records)));
    }

-- ── reading ──
-- calls read what the definition reads
calls_read : {bytes : List ℕ} {at : ℕ} {read : Recording} (most : ℕ) → length bytes ≤ most + at → ReadBy bytes at read → read ≡ read_from most bytes at
calls_read zero enough (at_end over) = refl
calls_read zero enough (at_fault reply more p) = absurd (omega arith)
calls_read zero enough (one_read r more p others) = absurd (omega arith)
calls_read {bytes} {at} (suc most) enough (at_end over) = rw (le-leb (length bytes) at over)
calls_read {bytes} {at} (suc most) enough (at_fault reply more p) = rw (lt-leb (length bytes) at more, ← p)
calls_read {bytes} {at} (suc most) enough (one_read r more p others) =
    let w = within bytes at (was_read r) p refl in
    rw (lt-leb (length bytes) at more, ← p, calls_read most (omega arith) others)

pub round_trip_of_calls : RoundTripOfCalls
round_trip_of_calls output left records written read all wrote by =
    let r = calls_write all wrote in
    calls_read (length (take written left)) (omega arith) by ∙ rw (r.bytes, r.long) (round_trip_of_many records all)

-- ── such calls there are ──
written_by : {output left left' : List ℕ} {records : List Record} {n n' : ℕ} → left ≡ left' → n ≡ n' → WrittenBy output records left n
    → WrittenBy output records left' n'
written_by e f w = rw (e, f) at w

pub every_list_is_written : EveryListIsWritten
every_list_is_written output [] all room = none_written
every_list_is_written output ((h, payload) ∷ records) all room =
    let bytes = record_of h payload in
    let more = recording_of records in
    let both = length-append bytes more in
    let is = writes h payload output all.0.short (omega arith) in
    let rest = every_list_is_written (drop (length bytes) output) records all.1 (omega (arith, length-drop (length bytes) output)) in
    written_by
    (rw (take-append_seam bytes (drop (length bytes) output), both, ← drop-drop (length more) (length bytes) output) (sym (append_assoc bytes more _)))
    (sym both)
    (one_written {rest = over more (drop (length bytes) output)} (h, payload) (length bytes) (over bytes output)
    (rw is (refl, refl)) (rw (drop-append_seam bytes (drop (length bytes) output)) rest))

-- a reading that goes on, by the two tests that decide how
module _ (most : ℕ) (bytes : List ℕ) (at : ℕ) (others : (next : ℕ) → at < next → ReadBy bytes next (read_from most bytes next)) where
  abbrev by_answer : HeardAt → Recording
  by_answer r = cond r.ok (behind (record_in bytes r) (read_from most bytes r.next)) (stopped r.reply r.next)

  by_answer_here : (r : Result reader.HeardAt code.Reply) → was_told at r ≡ heard_at bytes at → at < length bytes
      → ReadBy bytes at (by_answer (heard_at bytes at))
  by_answer_here (Ok r) p more =
      subst (λ (x : HeardAt). ReadBy bytes at (by_answer x)) p (one_read r more p (others r.next (within bytes at (was_read r) p refl).ahead))
  by_answer_here (Err reply) p more = subst (λ (x : HeardAt). ReadBy bytes at (by_answer x)) p (at_fault reply more p)

  by_end : (end : Bool) → leb (length bytes) at ≡ end → ReadBy bytes at (cond end (stopped Done at) (by_answer (heard_at bytes at)))
  by_end true e = at_end (leb-true _ _ e)
  by_end false e = let (r, p) = some_answer bytes at in by_answer_here r p (leb-false _ _ e)

reads_from : (most : ℕ) (bytes : List ℕ) (at : ℕ) → length bytes ≤ most + at → ReadBy bytes at (read_from most bytes at)
reads_from zero bytes at enough = let over : length bytes ≤ at = omega arith in at_end over
reads_from (suc most) bytes at enough =
    by_end most bytes at (λ next ahead. reads_from most bytes next (omega arith)) (leb (length bytes) at) refl

pub every_recording_is_read : EveryRecordingIsRead
every_recording_is_read bytes = reads_from (length bytes) bytes 0 (omega arith)

-- ── these are the promises of the sources ──
-- two statements about lifetimes, the input, the answer, and what is behind each parameter at the exit, are one
module _ {L : Type 0} {I A E : L → Type 0} where
  abbrev pub Says : (said is : (l : L) → I l → A l → E l → Type 0) → Type 1
  Says said is = (l : L) (i : I l) (a : A l) (e : E l) → said l i a e ≡ is l i a e

pub write_heard_says :
    Says write_heard.Post
    (λ l i a e. WriterPromises (at_counter i.1.0 i.1.1.0 i.1.1.1.0, i.1.1.1.1.0.now) i.0.now a e.0.now)
write_heard_says l i a e = refl

pub heard_at_says : Says heard_at_law.Post (λ l i a e. ReaderPromises i.0.now i.1.0 a)
heard_at_says l i a e = refl
