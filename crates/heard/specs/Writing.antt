-- Writing a heard record to the front of a lent output: the replies BadRecordLength, ShortOutput, in this order.
use Rattle.std.specs.Prelude.{ℕ, cond, List, [], length, ltb}
use Rattle.wire.specs.Frames.{max_payload}
use Rattle.heard.specs.declared.reply.Reply as code
use Rattle.heard.specs.declared.reply.Reply.TheVariants.{ShortOutput, BadRecordLength}
use Rattle.heard.specs.Replies.{Reply, Done, Refused}
use Rattle.heard.specs.Records.{Heard, record_of}

-- what is answered, and the bytes that are written to the front of the output; the rest of the output stays as it was
pub record Writing : Type 0 where
  pub reply : Reply
  pub bytes : List ℕ

abbrev pub not_written : code.Reply → Writing
not_written reply = record { reply = Refused reply; bytes = [] }

unfoldable pub writing : Heard → (payload output : List ℕ) → Writing
writing h payload output =
    cond (ltb max_payload (length payload)) (not_written BadRecordLength)
    (cond (ltb (length output) (length (record_of h payload))) (not_written ShortOutput)
    (record { reply = Done; bytes = record_of h payload }))
