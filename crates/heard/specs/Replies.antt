-- What reading and writing heard records answer, and the number of each answer.
use Rattle.std.specs.Prelude.{ℕ, List, codes}
use Rattle.heard.specs.declared.reply.Reply as code
use Rattle.heard.specs.declared.reply.Reply.TheVariants.{ShortOutput, CutRecord, UnknownKind, BadRecordLength}

-- done, or why not
pub data Reply : Type 0 where
  Done : Reply
  Refused : code.Reply → Reply

abbrev pub refusal_number : code.Reply → ℕ
refusal_number ShortOutput = 11
refusal_number CutRecord = 15
refusal_number UnknownKind = 16
refusal_number BadRecordLength = 17

abbrev pub number_of : Reply → ℕ
number_of Done = 0
number_of (Refused r) = refusal_number r

-- as printed
abbrev pub words_of : code.Reply → List ℕ
words_of ShortOutput = codes "the output is too short"
words_of CutRecord = codes "the record is cut"
words_of UnknownKind = codes "the record is of an unknown kind"
words_of BadRecordLength = codes "the record has a bad length"
