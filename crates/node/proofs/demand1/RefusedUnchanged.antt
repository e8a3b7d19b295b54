-- A refused call leaves the node and the output as they were and returns zeros, for every clock, call and node.
use Rattle.std.proofs.Common.{◌≡◌, ◌≢◌, refl}
use Rattle.wire.specs.declared.reply.Reply.TheVariants.{Done}
use Rattle.wire.specs.Refusals.{Refusals}
use Rattle.node.specs.declared.Node.{Node}
use Rattle.node.specs.Nodes.{Outcome}
use Rattle.node.specs.Calls.{Call}
use Rattle.node.specs.NextFrame.{give}
use Rattle.node.specs.Refused.{Unchanged, RefusedUnchanged}
use Rattle.node.proofs.Cases.{Cases, by_case}
use Rattle.node.proofs.set_up.Cases.{set_up_cases}
use Rattle.node.proofs.hear.Cases.{hear_cases}
use Rattle.node.proofs.tick.Cases.{tick_cases}
use Rattle.node.proofs.request.Cases.{request_cases}
use Rattle.node.proofs.next_frame.Cases.{next_cases}

-- what is accepted is Done, so any other reply is of a refusal
refusal_unchanged : {n : Node} {tests : Refusals} {Facts : Type 0} {result o : Outcome} → Cases n tests Facts result o → result.reply ≡ Done
    → o.reply ≢ Done → Unchanged n o
refusal_unchanged {n} law is_done_here =
    by_case (λ (o : Outcome). o.reply ≢ Done → Unchanged n o)
    (λ r why other. record { node = refl; output = λ lent. refl; written = refl; id = refl; report = refl })
    (λ facts other. absurd (other is_done_here)) law.case

pub refused_unchanged : RefusedUnchanged
unfolding give
refused_unchanged clock (Call.set_up s settings) n = refusal_unchanged (set_up_cases s settings n) refl
refused_unchanged clock (Call.hear id dlc payload output) n = refusal_unchanged (hear_cases id dlc payload output n) refl
refused_unchanged clock (Call.tick output) n = refusal_unchanged (tick_cases output clock n) refl
refused_unchanged clock (Call.request s payload) n = refusal_unchanged (request_cases payload s n) refl
refused_unchanged clock (Call.next_frame output) n = refusal_unchanged (next_cases output n) refl
