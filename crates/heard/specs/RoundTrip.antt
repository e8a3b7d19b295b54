-- Reading gives back what was written: one record wherever it stands, a whole recording, and what calls of the writer left to calls of the reader.
use Rattle.std.specs.Prelude.{ℕ, ◌+◌, ◌^◌, ◌≤◌, ◌<◌, ◌≡◌, true, List, [], ◌∷◌, ◌++◌, length, take, drop, Result, Ok, Err}
use Rattle.wire.specs.declared.ids.BusId.{BusId}
use Rattle.wire.specs.Frames.{max_payload}
use Rattle.wire.specs.Delivered.{over}
use Rattle.heard.specs.declared.reply.Reply as code
use Rattle.heard.specs.declared.reading.HeardAt as reader
use Rattle.heard.specs.Replies.{Done, Refused}
use Rattle.heard.specs.Kinds.{count_bytes}
use Rattle.heard.specs.Records.{at_counter, record_of}
use Rattle.heard.specs.Reading.{heard_at}
use Rattle.heard.specs.Writing.{writing}
use Rattle.heard.specs.Answers.{as_written, was_read, was_told}
use Rattle.heard.specs.Recordings.{Record, recording_of, Recording, stopped, behind, record_in, recording_in}

-- of a known kind; kind, count and bus identifier have room in their bytes; and the payload has at most eight
pub record Writable (r : Record) : Type 0 where
  pub known : 0 < count_bytes r.0.kind
  pub kind : r.0.kind < 65536
  pub count : r.0.count < 256 ^ count_bytes r.0.kind
  pub id : r.0.id.0 < 4294967296
  pub short : length r.1 ≤ max_payload

abbrev pub AllWritable : List Record → Type 0
AllWritable [] = Unit {0}
AllWritable (r ∷ records) = Writable r × AllWritable records

-- such is the record of every frame: any 16-bit counter, any 32-bit identifier (also one above 536,870,911), any DLC
abbrev pub EveryFrameWritable : Type 0
EveryFrameWritable =
    (counter : ℕ) (id : BusId) (dlc : ℕ) (payload : List ℕ) → counter < 65536 → id.0 < 4294967296 → length payload ≤ max_payload
    → Writable (at_counter counter id dlc, payload)

-- ── the definitions ──
abbrev pub bytes_of : Record → List ℕ
bytes_of r = record_of r.0 r.1

-- at this place reading finds the record, and goes on at the next
pub record Found (bytes : List ℕ) (at : ℕ) (r : Record) (next : ℕ) : Type 0 where
  pub ok : (heard_at bytes at).ok ≡ true
  pub gives : record_in bytes (heard_at bytes at) ≡ r
  pub goes_on : (heard_at bytes at).next ≡ next

-- ONE RECORD, whatever stands before and behind it
abbrev pub RoundTrip : Type 0
RoundTrip =
    (before rest : List ℕ) (r : Record) → Writable r
    → Found (before ++ (bytes_of r ++ rest)) (length before) r (length before + length (bytes_of r))

abbrev pub read_whole : List Record → (end : ℕ) → Recording
read_whole records end = record { records = records; reply = Done; offset = end }

-- MANY, one after the other
abbrev pub RoundTripOfMany : Type 0
RoundTripOfMany = (records : List Record) → AllWritable records → recording_in (recording_of records) ≡ read_whole records (length (recording_of records))

-- ── the calls ──
-- what `write_heard` promises of its answer and of the output that it leaves, and `heard_at` of its answer
abbrev pub WriterPromises : Record → (output : List ℕ) → Result ℕ code.Reply → (left : List ℕ) → Type 0
WriterPromises r output w left =
    (w ≡ as_written (writing r.0 r.1 output)) × (left ≡ over (writing r.0 r.1 output).bytes output)

abbrev pub ReaderPromises : (bytes : List ℕ) → (at : ℕ) → Result reader.HeardAt code.Reply → Type 0
ReaderPromises bytes at r = was_told at r ≡ heard_at bytes at

-- calls of the writer, none of them refused, each into the part of the output that was still free: what they left, and how many bytes they wrote
pub data WrittenBy : (output : List ℕ) → List Record → (left : List ℕ) → (written : ℕ) → Type 0 where
  none_written : {output : List ℕ} → WrittenBy output [] output 0
  one_written : {output rest : List ℕ} {records : List Record} {n : ℕ} (r : Record) (written : ℕ) (left : List ℕ)
      → WriterPromises r output (Ok written) left → WrittenBy (drop written left) records rest n
      → WrittenBy output (r ∷ records) (take written left ++ rest) (written + n)

-- calls of the reader from a place on, each where the one before said, to the end of the bytes or to the first record at fault
pub data ReadBy (bytes : List ℕ) : (at : ℕ) → Recording → Type 0 where
  at_end : {at : ℕ} → length bytes ≤ at → ReadBy bytes at (stopped Done at)
  at_fault : {at : ℕ} (reply : code.Reply) → at < length bytes → ReaderPromises bytes at (Err reply) → ReadBy bytes at (stopped (Refused reply) at)
  one_read : {at : ℕ} {rest : Recording} (r : reader.HeardAt) → at < length bytes → ReaderPromises bytes at (Ok r) → ReadBy bytes r.next rest
      → ReadBy bytes at (behind (record_in bytes (was_read r)) rest)

-- THE CALLS: what the one wrote, the other reads
abbrev pub RoundTripOfCalls : Type 0
RoundTripOfCalls =
    (output left : List ℕ) (records : List Record) (written : ℕ) (read : Recording) → AllWritable records
    → WrittenBy output records left written → ReadBy (take written left) 0 read → read ≡ read_whole records written

-- such calls there are: for records that the output has room for, and for every recording
abbrev pub EveryListIsWritten : Type 0
EveryListIsWritten =
    (output : List ℕ) (records : List Record) → AllWritable records → length (recording_of records) ≤ length output
    → WrittenBy output records (over (recording_of records) output) (length (recording_of records))

abbrev pub EveryRecordingIsRead : Type 0
EveryRecordingIsRead = (bytes : List ℕ) → ReadBy bytes 0 (recording_in bytes)
