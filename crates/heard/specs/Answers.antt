-- What the calls answer, and how it is read from the definitions.
use Rattle.std.specs.Prelude.{ℕ, true, Result, Ok, Err, length}
use Rattle.heard.specs.declared.reply.Reply as code
use Rattle.heard.specs.declared.reading.HeardAt as reader
use Rattle.heard.specs.Replies.{Reply, Done, Refused}
use Rattle.heard.specs.Records.{heard_of}
use Rattle.heard.specs.Reading.{HeardAt, refused}
use Rattle.heard.specs.Writing.{Writing}

-- the value where the reply is Done, and else why not
abbrev pub answered : {A : Type 0} → Reply → A → Result A code.Reply
answered Done value = Ok value
answered (Refused r) value = Err r

-- the reply in an answer: done, or why not
abbrev pub reply_in : {A : Type 0} → Result A code.Reply → Reply
reply_in (Ok value) = Done
reply_in (Err r) = Refused r

-- how many bytes of the output were written
abbrev pub as_written : Writing → Result ℕ code.Reply
as_written w = answered w.reply (length w.bytes)

-- how many bytes an answer says were written: none with a refusal
abbrev pub written_in : Result ℕ code.Reply → ℕ
written_in (Ok n) = n
written_in (Err r) = 0

-- a record that was read
abbrev pub was_read : reader.HeardAt → HeardAt
was_read r =
    record {
      ok = true;
      reply = Done;
      heard = heard_of r.heard;
      payload = r.payload;
      length = r.length;
      next = r.next;
    }

-- what was told of the record at a place
abbrev pub was_told : (at : ℕ) → Result reader.HeardAt code.Reply → HeardAt
was_told at (Ok r) = was_read r
was_told at (Err reply) = refused reply at
