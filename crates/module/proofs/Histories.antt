-- Over every history: the calls of a module answer what the definition says, and its tally is the count of the replies that were seen.
use mathlib.Core.Path.{◌≡◌, refl, sym, ap, ◌∙◌}
use Rattle.std.proofs.Common.{Bool, true, false, cond, Result, Ok, Err, eqb-true}
use Prim.Native.Nat.{ℕ}
use mathlib.Core.List.{List, [], ◌∷◌}
use lib.ListN.{length, take, drop}
use lib.Seq.{take-append_seam}
use Rattle.wire.specs.declared.ids.BusId.{BusId}
use Rattle.wire.specs.declared.reply.Reply.{Reply}
use Rattle.wire.specs.declared.reply.Reply.TheVariants.{Done}
use Rattle.wire.specs.Delivered.{over}
use Rattle.wire.specs.Answers.{is_done, answered}
use Rattle.wire.proofs.Replies.{numbers_distinct}
use Rattle.module.specs.declared.Module.{Module}
use Rattle.node.specs.declared.Node.{Node}
use Rattle.node.specs.Nodes.{Outcome, refused, no_id}
use Rattle.node.specs.NextFrame.{give}
use Rattle.node.specs.Told.{Report, silent, of_frame, of_tick}
use Rattle.node.specs.Clock.{rolled, unbounded}
use Rattle.node.specs.Calls.{Call, set_up, hear, tick, request, next_frame, outcome, after_from, after, Answer, answer_of, answers_from, answers}
use Rattle.node.proofs.Choices.{contrary}
use Rattle.node.proofs.Cases.{by_case}
use Rattle.node.proofs.set_up.Cases.{set_up_cases}
use Rattle.node.proofs.hear.Cases.{hear_cases}
use Rattle.node.proofs.tick.Cases.{tick_cases}
use Rattle.node.proofs.request.Cases.{request_cases}
use Rattle.node.proofs.next_frame.Cases.{next_cases}
use Rattle.node.proofs.rollover.SameAnswers.{same_answers}
use Rattle.module.specs.Tallies.{tallied_all, tally_of}
use Rattle.module.specs.Histories.{fresh_module, after_call, counting_after_from, counting_after, replies_in}
use Rattle.module.specs.Histories.{Returned, Left, Promised, refusal, seen, Run, start, next, EveryHistory}
use Rattle.module.proofs.Counts.{counts_replies}

-- ── the definition of a module ──
node_from : (m : Module) (calls : List Call) → (counting_after_from m calls).node ≡ after_from rolled m.node calls
node_from m [] = refl
node_from m (c ∷ cs) = node_from (after_call c m) cs

tally_from : (m : Module) (calls : List Call) → (counting_after_from m calls).tally ≡ tallied_all m.tally (replies_in (answers_from rolled m.node calls))
tally_from m [] = refl
tally_from m (c ∷ cs) = tally_from (after_call c m) cs

-- its node is the node after these calls
pub module_node : (calls : List Call) → (counting_after calls).node ≡ after rolled calls
module_node calls = node_from fresh_module calls

-- its tally is that of the replies in the history
pub module_tally : (calls : List Call) → (counting_after calls).tally ≡ tally_of (replies_in (answers rolled calls))
module_tally calls = tally_from fresh_module calls ∙ counts_replies (replies_in (answers rolled calls))

-- and so with counts of ticks without bound
pub module_tally_unbounded : (calls : List Call) → (counting_after calls).tally ≡ tally_of (replies_in (answers unbounded calls))
module_tally_unbounded calls = module_tally calls ∙ ap (λ (xs : List Answer). tally_of (replies_in xs)) (same_answers calls)

-- ── what a call that keeps its promise does ──
-- the bytes that were written are at the front of what is left
front : (bytes output : List ℕ) → take (length bytes) (over bytes output) ≡ bytes
front bytes output = take-append_seam bytes (drop (length bytes) output)

-- what is not part of a call's answer: a refusal has nothing but its reply, a call that gives out no frame has no identifier, one that is lent no
-- output writes nothing, and each tells its own part of a report alone
abbrev OwnPart : Call → Outcome → Type 0
OwnPart (set_up s settings) o = (o.id ≡ no_id) × (o.bytes ≡ []) × (o.report ≡ silent)
OwnPart (hear id dlc payload output) o = (o.id ≡ no_id) × (o.report ≡ of_frame o.report.frame)
OwnPart (tick output) o = (o.id ≡ no_id) × (o.report ≡ of_tick o.report.dropped o.report.delivered)
OwnPart (request s payload) o = (o.id ≡ no_id) × (o.bytes ≡ []) × (o.report ≡ silent)
OwnPart (next_frame output) o = o.report ≡ silent

abbrev Sparing : Call → Outcome → Type 0
Sparing c o = (is_done o.reply ≡ false → o ≡ refused o.node o.reply) × OwnPart c o

refused_sparing : (c : Call) (n : Node) (r : Reply) → Sparing c (refused n r)
refused_sparing (set_up s settings) n r = (λ e. refl, (refl, refl, refl))
refused_sparing (hear id dlc payload output) n r = (λ e. refl, (refl, refl))
refused_sparing (tick output) n r = (λ e. refl, (refl, refl))
refused_sparing (request s payload) n r = (λ e. refl, (refl, refl, refl))
refused_sparing (next_frame output) n r = (λ e. refl, refl)

sparing : (c : Call) (n : Node) → Sparing c (outcome rolled c n)
unfolding give
sparing (set_up s settings) n =
    let c = set_up s settings in
    by_case (Sparing c) (λ r why. refused_sparing c n r) (λ h. (λ e. contrary refl e, (refl, refl, refl))) (set_up_cases s settings n).case
sparing (hear id dlc payload output) n =
    let c = hear id dlc payload output in
    by_case (Sparing c) (λ r why. refused_sparing c n r) (λ h. (λ e. contrary refl e, (refl, refl))) (hear_cases id dlc payload output n).case
sparing (tick output) n =
    let c = tick output in by_case (Sparing c) (λ r why. refused_sparing c n r) (λ h. (λ e. contrary refl e, (refl, refl))) (tick_cases output rolled n).case
sparing (request s payload) n =
    let c = request s payload in
    by_case (Sparing c) (λ r why. refused_sparing c n r) (λ h. (λ e. contrary refl e, (refl, refl, refl))) (request_cases payload s n).case
sparing (next_frame output) n =
    let c = next_frame output in by_case (Sparing c) (λ r why. refused_sparing c n r) (λ h. (λ e. contrary refl e, refl)) (next_cases output n).case

-- an answer, by its parts
answer_is : (o : Outcome) {id : BusId} {bytes : List ℕ} {report : Report} → o.reply ≡ Done → o.id ≡ id → bytes ≡ o.bytes → o.report ≡ report
    → ◌≡◌ {A = Answer} (record { reply = Done; id = id; bytes = bytes; report = report }) (answer_of o)
answer_is o done e f g = rw (← done, ← e, f, ← g)

-- what is seen of a Result: of a refusal nothing but its reply
by_reply : {V : Type 0} (look : Result V Reply → Answer) (v : V) (o : Outcome) → (is_done o.reply ≡ false → o ≡ refused o.node o.reply)
    → look (Err o.reply) ≡ refusal o.reply → (o.reply ≡ Done → look (Ok v) ≡ answer_of o) → look (answered o.reply v) ≡ answer_of o
by_reply look v o only none some = go (is_done o.reply) refl
  where
    go : (b : Bool) → is_done o.reply ≡ b → look (cond b (Ok v) (Err o.reply)) ≡ answer_of o
    go true e = some (numbers_distinct o.reply Done (eqb-true _ _ e))
    go false e = none ∙ ap answer_of (sym (only e))

-- what is seen of it is the definition's answer
pub answers_so : (c : Call) (m : Module) (r : Returned c) (left : Left c) (then : Module) → Promised c m r left then
    → seen c r left ≡ answer_of (outcome rolled c m.node)
answers_so (set_up s settings) m r left then p =
    let c = set_up s settings in
    let o = outcome rolled c m.node in
    let (only, own) = sparing c m.node in rw p.0 (by_reply (λ q. seen c q left) tt o only refl (λ done. answer_is o done own.0 (sym own.1) own.2))
answers_so (hear id dlc payload output) m r left then p =
    let c = hear id dlc payload output in
    let o = outcome rolled c m.node in
    let (only, own) = sparing c m.node in
    rw (p.0, p.1) (by_reply (λ q. seen c q (over o.bytes output)) _ o only refl (λ done. answer_is o done own.0 (front o.bytes output) own.1))
answers_so (tick output) m r left then p =
    let c = tick output in
    let o = outcome rolled c m.node in
    let (only, own) = sparing c m.node in
    rw (p.0, p.1) (by_reply (λ q. seen c q (over o.bytes output)) _ o only refl (λ done. answer_is o done own.0 (front o.bytes output) own.1))
answers_so (request s payload) m r left then p =
    let c = request s payload in
    let o = outcome rolled c m.node in
    let (only, own) = sparing c m.node in rw p.0 (by_reply (λ q. seen c q left) tt o only refl (λ done. answer_is o done own.0 (sym own.1) own.2))
answers_so (next_frame output) m r left then p =
    let c = next_frame output in
    let o = outcome rolled c m.node in
    let (only, own) = sparing c m.node in
    rw (p.0, p.1) (by_reply (λ q. seen c q (over o.bytes output)) _ o only refl (λ done. answer_is o done refl (front o.bytes output) own))

-- and it makes a step of the definition
pub steps_so : (c : Call) (m : Module) (r : Returned c) (left : Left c) (then : Module) → Promised c m r left then → then ≡ after_call c m
steps_so (set_up s settings) m r left then p = p.1
steps_so (hear id dlc payload output) m r left then p = p.2
steps_so (tick output) m r left then p = p.2
steps_so (request s payload) m r left then p = p.1
steps_so (next_frame output) m r left then p = p.2

-- ── every run ──
run_answers : {m end : Module} {calls : List Call} {xs : List Answer} → Run m calls xs end → xs ≡ answers_from rolled m.node calls
run_answers start = refl
run_answers {m} (next {cs = cs} c r left then p rest) =
    rw (answers_so c m r left then p)
    (ap (λ (l : List Answer). answer_of (outcome rolled c m.node) ∷ l)
    (run_answers rest ∙ ap (λ (n : Module). answers_from rolled n.node cs) (steps_so c m r left then p)))

run_end : {m end : Module} {calls : List Call} {xs : List Answer} → Run m calls xs end → end ≡ counting_after_from m calls
run_end start = refl
run_end {m} (next {cs = cs} c r left then p rest) = run_end rest ∙ ap (λ (n : Module). counting_after_from n cs) (steps_so c m r left then p)

pub every_history : EveryHistory
every_history calls xs end run =
    let saw : xs ≡ answers rolled calls = run_answers run in
    let ends : end ≡ counting_after calls = run_end run in
    record {
      answered = saw ∙ same_answers calls;
      node = ap (λ (m : Module). m.node) ends ∙ module_node calls;
      counted = ap (λ (m : Module). m.tally) ends ∙ (module_tally calls ∙ ap (λ (l : List Answer). tally_of (replies_in l)) (sym saw));
    }
