-- The values of an answer: the call's, and none with a refusal.
use Rattle.std.specs.Prelude.{Result, Ok, Err}
use Rattle.wire.specs.declared.reply.Reply.{Reply}
use Rattle.node.specs.declared.Heard.{Heard}
use Rattle.node.specs.declared.Ticked.{Ticked}
use Rattle.node.specs.declared.Given.{Given}
use Rattle.node.specs.declared.told.Told.TheVariants.{Nothing}
use Rattle.node.specs.Nodes.{no_id}

abbrev pub heard_in : Result Heard Reply → Heard
heard_in (Ok h) = h
heard_in (Err r) = record { written = 0; told = Nothing }

abbrev pub ticked_in : Result Ticked Reply → Ticked
ticked_in (Ok t) = t
ticked_in (Err r) = record { written = 0; dropped = 0; delivered = 0 }

abbrev pub given_in : Result Given Reply → Given
given_in (Ok g) = g
given_in (Err r) = record { id = no_id; len = 0 }
