-- The outcomes of the node's calls as C gets them: the node, the reply as its number, and so what is told.
use Rattle.std.specs.Prelude.{length}
use Rattle.wire.specs.Replies.{number_of}
use Rattle.node.specs.Told.{told_number}
use Rattle.node.specs.Nodes.{Outcome}
use Rattle.firmware.specs.declared.calls.AnsweredC.{AnsweredC}
use Rattle.firmware.specs.declared.calls.HeardC.{HeardC}
use Rattle.firmware.specs.declared.calls.TickedC.{TickedC}
use Rattle.firmware.specs.declared.calls.GivenC.{GivenC}

abbrev pub answered_c : Outcome → AnsweredC
answered_c o = record { node = o.node; reply = number_of o.reply }

abbrev pub heard_c : Outcome → HeardC
heard_c o = record { node = o.node; reply = number_of o.reply; told = told_number o.report.frame; written = length o.bytes }

abbrev pub ticked_c : Outcome → TickedC
ticked_c o =
    record { node = o.node; reply = number_of o.reply; dropped = o.report.dropped; delivered = o.report.delivered; written = length o.bytes }

abbrev pub given_c : Outcome → GivenC
given_c o = record { node = o.node; reply = number_of o.reply; id = o.id.0; len = length o.bytes }
