-- Over every history on a lent node its caller sees what the definitions say with ticks counted without bound.
use Prim.Native.Nat.{ℕ}
use mathlib.Core.Path.{◌≡◌, refl, sym, ap, ap₂, ◌∙◌}
use mathlib.Core.Logic.{◌≢◌}
use mathlib.Core.Bool.{Bool, true, false, cond}
use Rattle.std.proofs.Common.{Result, Ok, Err}
use mathlib.Core.List.{List, [], ◌∷◌, map}
use borrow.Author.Tests.{eq-eqb, eqb-true}
use lib.ListN.{length, take, drop}
use lib.Seq.{take-append_seam}
use lib.Dec.{eqb}
use Rattle.wire.specs.declared.ids.BusId.{BusId}
use Rattle.wire.specs.declared.reply.Reply.{Reply}
use Rattle.wire.specs.declared.reply.Reply.TheVariants.{Done, BadLength}
use Rattle.wire.specs.Replies.{number_of}
use Rattle.wire.specs.Delivered.{over}
use Rattle.wire.specs.Answers.{is_done, answered}
use Rattle.wire.proofs.Replies.{numbers_distinct}
use Rattle.node.specs.declared.Node.{Node}
use Rattle.node.specs.Slots.{empty}
use Rattle.node.specs.Told.{Report, silent, of_frame, of_tick}
use Rattle.node.specs.Nodes.{fresh, Outcome, refused, no_id, as_answered, as_heard, as_ticked, as_given}
use Rattle.node.specs.Clock.{unbounded, rolled}
use Rattle.node.specs.Calls.{Call, set_up, hear, tick, request, next_frame, outcome, after_from, Answer, answer_of, answers_from, roll, roll_outcome}
use Rattle.node.specs.NextFrame.{give}
use Rattle.node.specs.Reachable.{Kept}
use Rattle.node.proofs.Choices.{contrary}
use Rattle.node.proofs.Cases.{by_case}
use Rattle.node.proofs.set_up.Cases.{set_up_cases}
use Rattle.node.proofs.hear.Cases.{hear_cases}
use Rattle.node.proofs.tick.Cases.{tick_cases}
use Rattle.node.proofs.request.Cases.{request_cases}
use Rattle.node.proofs.next_frame.Cases.{next_cases}
use Rattle.node.proofs.demand1.RefusedUnchanged.{refused_unchanged}
use Rattle.node.proofs.kept.EveryCall.{kept_fresh, kept_by}
use Rattle.node.proofs.rollover.SameAnswers.{rolls, rolled_node}
use Rattle.node_bytes.specs.Layout.{node_size}
use Rattle.node_bytes.specs.Decoding.{decode}
use Rattle.node_bytes.specs.Encoding.{encode}
use Rattle.node_bytes.specs.Lent.{is_node, fresh_in}
use Rattle.node_bytes.specs.Widths.{NodeFits}
use Rattle.node_bytes.specs.LentCalls.{lent_outcome, Leaves}
use Rattle.node_bytes.specs.LentHistories.{Returned, Answers, refusal, seen, Run, start, next, EveryHistory, no_node, EveryHistoryOnNoNode, SomeRun}
use Rattle.node_bytes.proofs.NodeRoundTrip.{length_encoded, round_trip}
use Rattle.node_bytes.proofs.Fitting.{rolled_fits}
use Rattle.node_bytes.proofs.Lent.{is_node_law, length_stays, fresh_written}
use Rattle.node_bytes.proofs.Calling.{no_node_law, as_node_law, left_alone, left_done}

-- ── what is seen of a call ──
-- the bytes that were written are at the front of what is left
front : (bytes output : List ℕ) → take (length bytes) (over bytes output) ≡ bytes
front bytes output = take-append_seam bytes (drop (length bytes) output)

-- what is not part of a call's answer: a refusal has nothing but its reply, a call that gives out no frame has no identifier, one that is lent no
-- output writes nothing, and what is told of frames is told by hear alone, and of ticks by tick
abbrev OwnPart : Call → Outcome → Type 0
OwnPart (set_up s settings) o = (o.id ≡ no_id) × ((o.bytes ≡ []) × (silent ≡ o.report))
OwnPart (hear id dlc payload output) o = (o.id ≡ no_id) × (of_frame o.report.frame ≡ o.report)
OwnPart (tick output) o = (o.id ≡ no_id) × (of_tick o.report.dropped o.report.delivered ≡ o.report)
OwnPart (request s payload) o = (o.id ≡ no_id) × ((o.bytes ≡ []) × (silent ≡ o.report))
OwnPart (next_frame output) o = silent ≡ o.report

abbrev Sparing : Call → Outcome → Type 0
Sparing c o = (is_done o.reply ≡ false → o ≡ refused o.node o.reply) × OwnPart c o

refused_sparing : (c : Call) (n : Node) (r : Reply) → Sparing c (refused n r)
refused_sparing (set_up s settings) n r = (λ e. refl, (refl, (refl, refl)))
refused_sparing (hear id dlc payload output) n r = (λ e. refl, (refl, refl))
refused_sparing (tick output) n r = (λ e. refl, (refl, refl))
refused_sparing (request s payload) n r = (λ e. refl, (refl, (refl, refl)))
refused_sparing (next_frame output) n r = (λ e. refl, refl)

sparing : (c : Call) (n : Node) → Sparing c (outcome rolled c n)
unfolding give
sparing (set_up s settings) n =
    let c = set_up s settings in
    by_case (Sparing c) (λ r why. refused_sparing c n r) (λ h. (λ e. contrary refl e, (refl, (refl, refl)))) (set_up_cases s settings n).case
sparing (hear id dlc payload output) n =
    let c = hear id dlc payload output in
    by_case (Sparing c) (λ r why. refused_sparing c n r) (λ h. (λ e. contrary refl e, (refl, refl))) (hear_cases id dlc payload output n).case
sparing (tick output) n =
    let c = tick output in by_case (Sparing c) (λ r why. refused_sparing c n r) (λ h. (λ e. contrary refl e, (refl, refl))) (tick_cases output rolled n).case
sparing (request s payload) n =
    let c = request s payload in
    by_case (Sparing c) (λ r why. refused_sparing c n r) (λ h. (λ e. contrary refl e, (refl, (refl, refl)))) (request_cases payload s n).case
sparing (next_frame output) n =
    let c = next_frame output in by_case (Sparing c) (λ r why. refused_sparing c n r) (λ h. (λ e. contrary refl e, refl)) (next_cases output n).case

-- so of a refusal there is nothing else to say
pub refusal_alone : (c : Call) (n : Node) → is_done (outcome rolled c n).reply ≡ false
    → outcome rolled c n ≡ refused (outcome rolled c n).node (outcome rolled c n).reply
refusal_alone c n = (sparing c n).0

pub lent_refusal_alone : (c : Call) (bytes : List ℕ) → is_done (lent_outcome c bytes).reply ≡ false
    → lent_outcome c bytes ≡ refused (lent_outcome c bytes).node (lent_outcome c bytes).reply
lent_refusal_alone c bytes = go (is_node bytes)
  where
    go : (b : Bool) → let o = cond b (outcome rolled c (decode bytes)) (refused (decode bytes) BadLength) in
        is_done o.reply ≡ false → o ≡ refused o.node o.reply
    go true e = refusal_alone c (decode bytes) e
    go false e = refl

-- an answer, by its parts
answer_is : (o : Outcome) {id : BusId} {bytes : List ℕ} {report : Report} → o.reply ≡ Done → o.id ≡ id → bytes ≡ o.bytes → report ≡ o.report
    → ◌≡◌ {A = Answer} (record { reply = Done; id = id; bytes = bytes; report = report }) (answer_of o)
answer_is o done e f g = rw (← done, ← e, f, g)

-- what is seen of a Result: of a refusal nothing but its reply
by_reply : {V : Type 0} (look : Result V Reply → Answer) (v : V) (o : Outcome) → (is_done o.reply ≡ false → o ≡ refused o.node o.reply)
    → look (Err o.reply) ≡ refusal o.reply → (o.reply ≡ Done → look (Ok v) ≡ answer_of o) → look (answered o.reply v) ≡ answer_of o
by_reply look v o only none some = go (is_done o.reply) refl
  where
    go : (b : Bool) → is_done o.reply ≡ b → look (cond b (Ok v) (Err o.reply)) ≡ answer_of o
    go true e = some (numbers_distinct o.reply Done (eqb-true _ _ e))
    go false e = none ∙ ap answer_of (sym (only e))

-- what is seen of a call that answered so is the outcome's answer
seen_so : (c : Call) (o : Outcome) (r : Returned c) (left : List ℕ) → Sparing c o → Answers c o r left → seen c r left ≡ answer_of o
seen_so (set_up s settings) o r left (only, few) a =
    rw a (by_reply (λ q. seen (set_up s settings) q left) tt o only refl (λ done. answer_is o done few.0 (sym few.1.0) few.1.1))
seen_so (hear id dlc payload output) o r left (only, few) a =
    rw (a.0, a.1)
    (by_reply (λ q. seen (hear id dlc payload output) q (over o.bytes output)) _ o only refl (λ done. answer_is o done few.0 (front o.bytes output) few.1))
seen_so (tick output) o r left (only, few) a =
    rw (a.0, a.1) (by_reply (λ q. seen (tick output) q (over o.bytes output)) _ o only refl (λ done. answer_is o done few.0 (front o.bytes output) few.1))
seen_so (request s payload) o r left (only, few) a =
    rw a (by_reply (λ q. seen (request s payload) q left) tt o only refl (λ done. answer_is o done few.0 (sym few.1.0) few.1.1))
seen_so (next_frame output) o r left (only, few) a =
    rw (a.0, a.1) (by_reply (λ q. seen (next_frame output) q (over o.bytes output)) _ o only refl (λ done. answer_is o done refl (front o.bytes output) few))

-- ── a node ──
module _ (u : Node) (k : Kept u) (before : List ℕ) (whole : length before ≡ node_size) (e : decode before ≡ roll u) (c : Call) where
  as_unbounded : lent_outcome c before ≡ roll_outcome (outcome unbounded c u)
  as_unbounded = as_node_law c before whole ∙ (ap (outcome rolled c) e ∙ rolls c u k)

  seen_unbounded : (r : Returned c) (left : List ℕ) → Answers c (lent_outcome c before) r left → seen c r left ≡ answer_of (outcome unbounded c u)
  seen_unbounded r left a =
      let few : Sparing c (lent_outcome c before) = rw (as_node_law c before whole) (sparing c (decode before)) in
      seen_so c (lent_outcome c before) r left few a ∙ ap answer_of as_unbounded

  node_unbounded : {after : List ℕ} → Leaves c before after → decode after ≡ roll (outcome unbounded c u).node
  node_unbounded l = l.node ∙ ap (λ (o : Outcome). o.node) as_unbounded

run_so : (u : Node) → Kept u → {before end : List ℕ} {calls : List Call} {xs : List Answer} → length before ≡ node_size → decode before ≡ roll u
    → Run before calls xs end
    → (xs ≡ answers_from unbounded u calls) × ((length end ≡ node_size) × (decode end ≡ roll (after_from unbounded u calls)))
run_so u k whole e start = (refl, (whole, e))
run_so u k {before} whole e (next c r left after (a, l) rest) =
    let later = run_so (outcome unbounded c u).node (kept_by c u k) (l.length_stays ∙ whole) (node_unbounded u k before whole e c l) rest in
    (ap₂ (λ (x : Answer) (xs : List Answer). x ∷ xs) (seen_unbounded u k before whole e c r left a) later.0, later.1)

-- the bytes that fresh wrote
fresh_whole : (buffer : List ℕ) → is_node buffer ≡ true → length (fresh_in buffer) ≡ node_size
fresh_whole buffer e = (length_stays buffer 0 0 empty).2 ∙ is_node_law buffer e

pub every_history : EveryHistory
every_history buffer e calls xs end run =
    let (saw, (whole, ends)) = run_so fresh kept_fresh (fresh_whole buffer e) (fresh_written buffer e) run in
    record { answered = saw; whole = whole; node = ends ∙ sym (rolled_node calls); rolled_over = ends }

-- ── no node ──
not_done : (r : Reply) → eqb (number_of r) 0 ≡ false → r ≢ Done
not_done r e f = contrary (ap (λ (q : Reply). eqb (number_of q) 0) f) e

module _ (before : List ℕ) (e : is_node before ≡ false) (c : Call) where
  other_length : length before ≡ node_size → ⊥
  other_length whole = contrary (eq-eqb (length before) node_size whole) e

  as_refused : lent_outcome c before ≡ refused (decode before) BadLength
  as_refused = no_node_law c before other_length

  seen_refused : (r : Returned c) (left : List ℕ) → Answers c (lent_outcome c before) r left → seen c r left ≡ no_node
  seen_refused r left a =
      let few : Sparing c (lent_outcome c before) = rw as_refused (refused_sparing c (decode before) BadLength) in
      seen_so c (lent_outcome c before) r left few a ∙ ap answer_of as_refused

  as_it_was : {after : List ℕ} → Leaves c before after → after ≡ before
  as_it_was l = l.refused_unchanged (not_done _ (ap (λ (o : Outcome). eqb (number_of o.reply) 0) as_refused))

run_refused : {before end : List ℕ} {calls : List Call} {xs : List Answer} → is_node before ≡ false → Run before calls xs end
    → (xs ≡ map (λ (c : Call). no_node) calls) × (end ≡ before)
run_refused e start = (refl, refl)
run_refused {before} e (next c r left after (a, l) rest) =
    let later = run_refused (ap is_node (as_it_was before e c l) ∙ e) rest in (
      ap₂ (λ (x : Answer) (xs : List Answer). x ∷ xs) (seen_refused before e c r left a) later.0,
      later.1 ∙ as_it_was before e c l,
    )

fresh_refused : (buffer : List ℕ) → is_node buffer ≡ false → fresh_in buffer ≡ buffer
unfolding fresh_in
fresh_refused buffer e = rw e

pub every_history_on_no_node : EveryHistoryOnNoNode
every_history_on_no_node buffer e calls xs end run =
    let same = fresh_refused buffer e in
    let (saw, ends) = run_refused (ap is_node same ∙ e) run in record { answered = saw; bytes = ends ∙ same }

-- ── there are such runs ──
returned : (c : Call) → Outcome → Returned c
returned (set_up s settings) o = as_answered o
returned (hear id dlc payload output) o = as_heard o
returned (tick output) o = as_ticked o
returned (request s payload) o = as_answered o
returned (next_frame output) o = as_given o

left_by : Call → Outcome → List ℕ
left_by (set_up s settings) o = []
left_by (hear id dlc payload output) o = over o.bytes output
left_by (tick output) o = over o.bytes output
left_by (request s payload) o = []
left_by (next_frame output) o = over o.bytes output

answers_so : (c : Call) (o : Outcome) → Answers c o (returned c o) (left_by c o)
unfolding returned left_by
answers_so (set_up s settings) o = refl
answers_so (hear id dlc payload output) o = (refl, refl)
answers_so (tick output) o = (refl, refl)
answers_so (request s payload) o = refl
answers_so (next_frame output) o = (refl, refl)

-- from these bytes
abbrev Runs : (before : List ℕ) → List Call → Type 0
Runs before calls = (xs : List Answer) × ((end : List ℕ) × Run before calls xs end)

one_more : {before after : List ℕ} (c : Call) {cs : List Call} → Leaves c before after → Runs after cs → Runs before (c ∷ cs)
one_more {before} {after} c l (xs, (end, rest)) =
    let o = lent_outcome c before in
    (seen c (returned c o) (left_by c o) ∷ xs, (end, next c (returned c o) (left_by c o) after (answers_so c o, l) rest))

-- a call that is done may leave the bytes of the node that it makes, and one that is refused leaves all as it was
module _ (c : Call) (before : List ℕ) (whole : length before ≡ node_size) where
  abbrev o : Outcome
  o = outcome rolled c (decode before)

  leaves_some : NodeFits o.node → (accepted : Bool) → eqb (number_of o.reply) 0 ≡ accepted → (after : List ℕ) × Leaves c before after
  leaves_some fits true e =
      let does = as_node_law c before whole in (
        encode o.node,
        left_done c before does (numbers_distinct o.reply Done (eqb-true _ _ e)) (length_encoded o.node fits.slots_32 ∙ sym whole) (round_trip o.node fits),
      )
  leaves_some fits false e =
      (before, left_alone c before (as_node_law c before whole) (sym (refused_unchanged rolled c (decode before) (not_done o.reply e)).node))

runs_from : (u : Node) → Kept u → (before : List ℕ) → length before ≡ node_size → decode before ≡ roll u → (calls : List Call) → Runs before calls
runs_from u k before whole e [] = ([], (before, start))
runs_from u k before whole e (c ∷ cs) =
    let v = (outcome unbounded c u).node in
    let fits : NodeFits (outcome rolled c (decode before)).node = rw (e, rolls c u k) (rolled_fits v (kept_by c u k)) in
    let (after, l) = leaves_some c before whole fits _ refl in
    one_more c l (runs_from v (kept_by c u k) after (l.length_stays ∙ whole) (node_unbounded u k before whole e c l) cs)

runs_refused : (before : List ℕ) → is_node before ≡ false → (calls : List Call) → Runs before calls
runs_refused before e [] = ([], (before, start))
runs_refused before e (c ∷ cs) = one_more c (left_alone c before (as_refused before e c) refl) (runs_refused before e cs)

pub some_run : SomeRun
some_run buffer calls = by_length (is_node buffer) refl
  where
    by_length : (whole : Bool) → is_node buffer ≡ whole → Runs (fresh_in buffer) calls
    by_length true e = runs_from fresh kept_fresh (fresh_in buffer) (fresh_whole buffer e) (fresh_written buffer e) calls
    by_length false e = runs_refused (fresh_in buffer) (ap is_node (fresh_refused buffer e) ∙ e) calls
