-- Recordings: heard records one after the other.
use Rattle.std.specs.Prelude.{ℕ, zero, suc, cond, List, [], ◌∷◌, ◌++◌, length, take, drop, leb}
use Rattle.heard.specs.Replies.{Reply, Done}
use Rattle.heard.specs.Records.{Heard, record_of}
use Rattle.heard.specs.Reading.{HeardAt, heard_at}

-- a record with its payload
abbrev pub Record : Type 0
Record = Heard × List ℕ

abbrev pub recording_of : List Record → List ℕ
recording_of [] = []
recording_of ((h, payload) ∷ records) = record_of h payload ++ recording_of records

-- ── reading ──
-- the records that were read; then Done, or why the next one was not, and where reading stopped
pub record Recording : Type 0 where
  pub records : List Record
  pub reply : Reply
  pub offset : ℕ

abbrev pub stopped : Reply → (at : ℕ) → Recording
stopped reply at = record { records = []; reply = reply; offset = at }

abbrev pub behind : Record → Recording → Recording
behind r rest = record { records = r ∷ rest.records; reply = rest.reply; offset = rest.offset }

abbrev pub record_in : (bytes : List ℕ) → HeardAt → Record
record_in bytes r = (r.heard, take r.length (drop r.payload bytes))

-- from a place on, so many records at most: to the end of the bytes, or to the first record at fault
abbrev pub read_from : (most : ℕ) → (bytes : List ℕ) → (at : ℕ) → Recording
read_from zero bytes at = stopped Done at
read_from (suc most) bytes at =
    cond (leb (length bytes) at) (stopped Done at)
    (let r = heard_at bytes at in
    cond r.ok (behind (record_in bytes r) (read_from most bytes r.next)) (stopped r.reply r.next))

-- the whole of it: a record has more than one byte, so there are no more records than bytes
abbrev pub recording_in : (bytes : List ℕ) → Recording
recording_in bytes = read_from (length bytes) bytes 0
