-- The rules paper's number of each reply, and its words. The numbers need not run on without a gap.
use Rattle.std.specs.Prelude.{ℕ, List, codes}
use Rattle.wire.specs.declared.reply.Reply.{Reply}
use Rattle.wire.specs.declared.reply.Reply.TheVariants.{Done, BadSettings, TableFull, Taken, BadFrame, NotMine, Misfit}
use Rattle.wire.specs.declared.reply.Reply.TheVariants.{Clash, Busy, NotSender, BadLength, ShortOutput, Nothing}
use Rattle.wire.specs.declared.reply.Reply.TheVariants.{IdentifierTooBig, DlcTooBig, PayloadLength, UnwantedPayload}

abbrev pub number_of : Reply → ℕ
number_of Done = 0
number_of BadSettings = 1
number_of TableFull = 2
number_of Taken = 3
number_of BadFrame = 4
number_of NotMine = 5
number_of Misfit = 6
number_of Clash = 7
number_of Busy = 8
number_of NotSender = 9
number_of BadLength = 10
number_of ShortOutput = 11
number_of Nothing = 12
number_of IdentifierTooBig = 18
number_of DlcTooBig = 19
number_of PayloadLength = 20
number_of UnwantedPayload = 21

-- what is printed of it
abbrev pub words_of : Reply → List ℕ
words_of Done = codes "done"
words_of BadSettings = codes "a number outside the rules"
words_of TableFull = codes "the table of streams is full"
words_of Taken = codes "the stream has a slot already"
words_of BadFrame = codes "no bus identifier"
words_of NotMine = codes "no slot receives the stream"
words_of Misfit = codes "the class does not carry the code"
words_of Clash = codes "other bytes than the message held"
words_of Busy = codes "the slot is held or has a frame pending"
words_of NotSender = codes "no slot sends the stream"
words_of BadLength = codes "a length that is not allowed"
words_of ShortOutput = codes "the output is too short"
words_of Nothing = codes "no frame is pending"
words_of IdentifierTooBig = codes "the identifier is too big"
words_of DlcTooBig = codes "the DLC is too big"
words_of PayloadLength = codes "another length than the DLC means"
words_of UnwantedPayload = codes "a payload where none is wanted"
