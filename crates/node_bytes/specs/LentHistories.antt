-- A lent node over whole histories: a run of calls, each on the bytes that the call before left, of which nothing is known but that each kept its
-- promise; and that their caller then sees what the definitions say with ticks counted without bound.
use Rattle.std.specs.Prelude.{ℕ, ◌≡◌, true, false, List, [], ◌∷◌, map, length, take, Result, Ok, Err}
use Rattle.wire.specs.declared.reply.Reply.{Reply}
use Rattle.wire.specs.declared.reply.Reply.TheVariants.{Done, BadLength}
use Rattle.wire.specs.Delivered.{over}
use Rattle.node.specs.Told.{silent, of_frame, of_tick}
use Rattle.node.specs.Nodes.{Outcome, no_id, as_answered, as_heard, as_ticked, as_given}
use Rattle.node.specs.Clock.{unbounded, rolled}
use Rattle.node.specs.Calls.{Call, set_up, hear, tick, request, next_frame, Answer, after, answers, roll}
use Rattle.node.specs.declared.Heard.{Heard}
use Rattle.node.specs.declared.Ticked.{Ticked}
use Rattle.node.specs.declared.Given.{Given}
use Rattle.node_bytes.specs.Layout.{node_size}
use Rattle.node_bytes.specs.Decoding.{decode}
use Rattle.node_bytes.specs.Lent.{is_node, fresh_in}
use Rattle.node_bytes.specs.LentCalls.{lent_outcome, Leaves}

-- what a call on a lent node returns
abbrev pub Returned : Call → Type 0
Returned (set_up s settings) = Result (Unit {0}) Reply
Returned (hear id dlc payload output) = Result Heard Reply
Returned (tick output) = Result Ticked Reply
Returned (request s payload) = Result (Unit {0}) Reply
Returned (next_frame output) = Result Given Reply

-- what it returns, and what it leaves in the lent output (set up and request are lent none), of this outcome
abbrev pub Answers : (c : Call) → Outcome → Returned c → (left : List ℕ) → Type 0
Answers (set_up s settings) o r left = r ≡ as_answered o
Answers (hear id dlc payload output) o r left = (r ≡ as_heard o) × (left ≡ over o.bytes output)
Answers (tick output) o r left = (r ≡ as_ticked o) × (left ≡ over o.bytes output)
Answers (request s payload) o r left = r ≡ as_answered o
Answers (next_frame output) o r left = (r ≡ as_given o) × (left ≡ over o.bytes output)

-- its promise, on these bytes: of what it returns, of the lent output, and of the bytes after it
abbrev pub Promised : (c : Call) → (before : List ℕ) → Returned c → (left after : List ℕ) → Type 0
Promised c before r left after = Answers c (lent_outcome c before) r left × Leaves c before after

-- what the caller sees of a refusal
abbrev pub refusal : Reply → Answer
refusal r = record { reply = r; id = no_id; bytes = []; report = silent }

-- what the caller sees: its reply, its identifier, the bytes that it says it wrote, and what it tells
abbrev pub seen : (c : Call) → Returned c → (left : List ℕ) → Answer
seen (set_up s settings) (Ok done) left = record { reply = Done; id = no_id; bytes = []; report = silent }
seen (set_up s settings) (Err r) left = refusal r
seen (hear id dlc payload output) (Ok h) left = record { reply = Done; id = no_id; bytes = take h.written left; report = of_frame h.told }
seen (hear id dlc payload output) (Err r) left = refusal r
seen (tick output) (Ok t) left = record { reply = Done; id = no_id; bytes = take t.written left; report = of_tick t.dropped t.delivered }
seen (tick output) (Err r) left = refusal r
seen (request s payload) (Ok done) left = record { reply = Done; id = no_id; bytes = []; report = silent }
seen (request s payload) (Err r) left = refusal r
seen (next_frame output) (Ok g) left = record { reply = Done; id = g.id; bytes = take g.len left; report = silent }
seen (next_frame output) (Err r) left = refusal r

-- from the lent bytes before some calls to those after them, and what was seen of each call
pub data Run : (before : List ℕ) → List Call → List Answer → (end : List ℕ) → Type 0 where
  start : {bytes : List ℕ} → Run bytes [] [] bytes
  next : {before end : List ℕ} {cs : List Call} {xs : List Answer} (c : Call) (r : Returned c) (left after : List ℕ)
      → Promised c before r left after → Run after cs xs end → Run before (c ∷ cs) (seen c r left ∷ xs) end

-- ── from the bytes that fresh wrote ──
-- what was seen is what the definitions say with unbounded counts, and the bytes, a node's still, are their node rolled over
pub record Faithful (calls : List Call) (xs : List Answer) (end : List ℕ) : Type 0 where
  pub answered : xs ≡ answers unbounded calls
  pub whole : length end ≡ node_size
  pub node : decode end ≡ after rolled calls
  pub rolled_over : decode end ≡ roll (after unbounded calls)

-- EVERY HISTORY ON A LENT NODE, in a buffer of the node's length, whatever was in it
abbrev pub EveryHistory : Type 0
EveryHistory =
    (buffer : List ℕ) → is_node buffer ≡ true → (calls : List Call) (xs : List Answer) (end : List ℕ) → Run (fresh_in buffer) calls xs end
    → Faithful calls xs end

-- ── in a buffer of another length ──
abbrev pub no_node : Answer
no_node = refusal BadLength

-- fresh and every call leave every byte, and every call answers BadLength
pub record Untouched (buffer : List ℕ) (calls : List Call) (xs : List Answer) (end : List ℕ) : Type 0 where
  pub answered : xs ≡ map (λ (c : Call). no_node) calls
  pub bytes : end ≡ buffer

abbrev pub EveryHistoryOnNoNode : Type 0
EveryHistoryOnNoNode =
    (buffer : List ℕ) → is_node buffer ≡ false → (calls : List Call) (xs : List Answer) (end : List ℕ) → Run (fresh_in buffer) calls xs end
    → Untouched buffer calls xs end

-- ── there are such runs ──
-- of every list of calls, in every buffer
abbrev pub SomeRun : Type 0
SomeRun = (buffer : List ℕ) (calls : List Call) → (xs : List Answer) × ((end : List ℕ) × Run (fresh_in buffer) calls xs end)
