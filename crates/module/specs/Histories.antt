-- A module over a whole history of calls: its node and its tally, what each of its calls promises, and a run of such calls.
use Rattle.std.specs.Prelude.{◌≡◌, ℕ, List, [], ◌∷◌, map, take, Result, Ok, Err}
use Rattle.wire.specs.declared.reply.Reply.{Reply}
use Rattle.wire.specs.declared.reply.Reply.TheVariants.{Done}
use Rattle.wire.specs.Delivered.{over}
use Rattle.node.specs.declared.Heard.{Heard}
use Rattle.node.specs.declared.Ticked.{Ticked}
use Rattle.node.specs.declared.Given.{Given}
use Rattle.node.specs.Nodes.{fresh, no_id, as_answered, as_heard, as_ticked, as_given}
use Rattle.node.specs.Told.{silent, of_frame, of_tick}
use Rattle.node.specs.Clock.{rolled, unbounded}
use Rattle.node.specs.Calls.{Call, set_up, hear, tick, request, next_frame, outcome, Answer, after, answers}
use Rattle.module.specs.declared.Module.{Module}
use Rattle.module.specs.Tallies.{zero_tally, tallied, tally_of}

-- before any call
abbrev pub fresh_module : Module
fresh_module = record { node = fresh; tally = zero_tally }

-- after a call: the node's, with its reply counted, a refusal's too
abbrev pub after_call : Call → Module → Module
after_call c m =
    record { node = (outcome rolled c m.node).node; tally = tallied m.tally (outcome rolled c m.node).reply }

-- the module after some calls, the first of them first
abbrev pub counting_after_from : Module → List Call → Module
counting_after_from m [] = m
counting_after_from m (c ∷ cs) = counting_after_from (after_call c m) cs

abbrev pub counting_after : List Call → Module
counting_after calls = counting_after_from fresh_module calls

abbrev pub replies_in : List Answer → List Reply
replies_in xs = map (λ a. a.reply) xs

-- ── what the calls promise ──
-- what a call returns
abbrev pub Returned : Call → Type 0
Returned (set_up s settings) = Result (Unit {0}) Reply
Returned (hear id dlc payload output) = Result Heard Reply
Returned (tick output) = Result Ticked Reply
Returned (request s payload) = Result (Unit {0}) Reply
Returned (next_frame output) = Result Given Reply

-- what it leaves in the lent output; set up and request are lent none
abbrev pub Left : Call → Type 0
Left (set_up s settings) = Unit {0}
Left (hear id dlc payload output) = List ℕ
Left (tick output) = List ℕ
Left (request s payload) = Unit {0}
Left (next_frame output) = List ℕ

-- the contract of each call, at a module: of what it returns, of the lent output and of the module after it
abbrev pub Promised : (c : Call) → Module → Returned c → Left c → (then : Module) → Type 0
Promised (set_up s settings) m r left then =
    (r ≡ as_answered (outcome rolled (set_up s settings) m.node)) × (then ≡ after_call (set_up s settings) m)
Promised (hear id dlc payload output) m r left then =
    (r ≡ as_heard (outcome rolled (hear id dlc payload output) m.node))
    × (left ≡ over (outcome rolled (hear id dlc payload output) m.node).bytes output)
    × (then ≡ after_call (hear id dlc payload output) m)
Promised (tick output) m r left then =
    (r ≡ as_ticked (outcome rolled (tick output) m.node))
    × (left ≡ over (outcome rolled (tick output) m.node).bytes output)
    × (then ≡ after_call (tick output) m)
Promised (request s payload) m r left then =
    (r ≡ as_answered (outcome rolled (request s payload) m.node)) × (then ≡ after_call (request s payload) m)
Promised (next_frame output) m r left then =
    (r ≡ as_given (outcome rolled (next_frame output) m.node))
    × (left ≡ over (outcome rolled (next_frame output) m.node).bytes output)
    × (then ≡ after_call (next_frame output) m)

-- ── what a caller has of a call ──
-- of a refusal
abbrev pub refusal : Reply → Answer
refusal r = record { reply = r; id = no_id; bytes = []; report = silent }

-- its reply, its identifier, the bytes that it says it wrote, and what it tells
abbrev pub seen : (c : Call) → Returned c → Left c → Answer
seen (set_up s settings) (Ok done) left = record { reply = Done; id = no_id; bytes = []; report = silent }
seen (set_up s settings) (Err r) left = refusal r
seen (hear id dlc payload output) (Ok h) left = record { reply = Done; id = no_id; bytes = take h.written left; report = of_frame h.told }
seen (hear id dlc payload output) (Err r) left = refusal r
seen (tick output) (Ok t) left =
    record { reply = Done; id = no_id; bytes = take t.written left; report = of_tick t.dropped t.delivered }
seen (tick output) (Err r) left = refusal r
seen (request s payload) (Ok done) left = record { reply = Done; id = no_id; bytes = []; report = silent }
seen (request s payload) (Err r) left = refusal r
seen (next_frame output) (Ok g) left = record { reply = Done; id = g.id; bytes = take g.len left; report = silent }
seen (next_frame output) (Err r) left = refusal r

-- From one module to another by some calls, each made on the module that the call before left, and what was seen of each. Of what
-- the calls did nothing is known but that they kept their promises.
pub data Run : Module → List Call → List Answer → Module → Type 0 where
  start : {m : Module} → Run m [] [] m
  next : {m end : Module} {cs : List Call} {xs : List Answer} (c : Call) (r : Returned c) (left : Left c) (then : Module) → Promised c m r left then
      → Run then cs xs end → Run m (c ∷ cs) (seen c r left ∷ xs) end

-- From the fresh node and the zero tally: what was seen is what the definition says, with ticks counted without bound; the node is
-- the definition's; and the tally is that of the replies that were seen.
pub record Faithful (calls : List Call) (xs : List Answer) (end : Module) : Type 0 where
  pub answered : xs ≡ answers unbounded calls
  pub node : end.node ≡ after rolled calls
  pub counted : end.tally ≡ tally_of (replies_in xs)

-- EVERY HISTORY: of any run of calls that kept their promises
abbrev pub EveryHistory : Type 0
EveryHistory = (calls : List Call) (xs : List Answer) (end : Module) → Run fresh_module calls xs end → Faithful calls xs end
