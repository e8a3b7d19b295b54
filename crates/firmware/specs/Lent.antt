-- The calls on a lent node, as C gets their answers, and what they leave in the lent tally.
use Rattle.std.specs.Prelude.{◌≡◌, List, ℕ, length}
use Rattle.wire.specs.Replies.{number_of}
use Rattle.node.specs.Told.{told_number}
use Rattle.node.specs.Nodes.{Outcome}
use Rattle.node.specs.Calls.{Call}
use Rattle.node_bytes.specs.LentCalls.{lent_outcome}
use Rattle.module.specs.Tallies.{counted_in}
use Rattle.firmware.specs.declared.lent.LentHeardC.{LentHeardC}
use Rattle.firmware.specs.declared.lent.LentTickedC.{LentTickedC}
use Rattle.firmware.specs.declared.lent.GivenOutC.{GivenOutC}

abbrev pub lent_heard_c : Outcome → LentHeardC
lent_heard_c o = record { reply = number_of o.reply; told = told_number o.report.frame; written = length o.bytes }

abbrev pub lent_ticked_c : Outcome → LentTickedC
lent_ticked_c o =
    record {
      reply = number_of o.reply;
      dropped = o.report.dropped;
      delivered = o.report.delivered;
      written = length o.bytes;
    }

abbrev pub given_out_c : Outcome → GivenOutC
given_out_c o = record { reply = number_of o.reply; id = o.id.0; len = length o.bytes }

-- the call's reply is counted, a refusal's too
abbrev pub Counts : Call → (bytes before after : List ℕ) → Type 0
Counts c bytes before after = after ≡ counted_in (number_of (lent_outcome c bytes).reply) before
