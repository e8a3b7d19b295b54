-- The C functions over whole histories: a run of calls, each made with the node that the call before gave back, of which nothing is known but
-- that each kept its promise; and that C then sees what the definitions say with ticks counted without bound.
use Rattle.std.specs.Prelude.{ℕ, ◌≡◌, List, [], ◌∷◌, length}
use Rattle.wire.specs.Replies.{number_of}
use Rattle.wire.specs.Delivered.{over}
use Rattle.node.specs.declared.Node.{Node}
use Rattle.node.specs.Told.{told_number}
use Rattle.node.specs.Nodes.{fresh, Outcome}
use Rattle.node.specs.Clock.{Clock, unbounded, rolled}
use Rattle.node.specs.Calls.{Call, set_up, hear, tick, request, next_frame, outcome, after, roll}
use Rattle.firmware.specs.declared.calls.AnsweredC.{AnsweredC}
use Rattle.firmware.specs.declared.calls.HeardC.{HeardC}
use Rattle.firmware.specs.declared.calls.TickedC.{TickedC}
use Rattle.firmware.specs.declared.calls.GivenC.{GivenC}
use Rattle.firmware.specs.Answers.{answered_c, heard_c, ticked_c, given_c}

-- what the C function of a call returns
abbrev pub Returned : Call → Type 0
Returned (set_up s settings) = AnsweredC
Returned (hear id dlc payload output) = HeardC
Returned (tick output) = TickedC
Returned (request s payload) = AnsweredC
Returned (next_frame output) = GivenC

-- its promise, at a node: of what it returns, and of what it leaves in the lent output (set up and request are lent none)
abbrev pub Promised : (c : Call) → Node → Returned c → (left : List ℕ) → Type 0
Promised (set_up s settings) n r left = r ≡ answered_c (outcome rolled (set_up s settings) n)
Promised (hear id dlc payload output) n r left =
    (r ≡ heard_c (outcome rolled (hear id dlc payload output) n))
    × (left ≡ over (outcome rolled (hear id dlc payload output) n).bytes output)
Promised (tick output) n r left =
    (r ≡ ticked_c (outcome rolled (tick output) n)) × (left ≡ over (outcome rolled (tick output) n).bytes output)
Promised (request s payload) n r left = r ≡ answered_c (outcome rolled (request s payload) n)
Promised (next_frame output) n r left =
    (r ≡ given_c (outcome rolled (next_frame output) n)) × (left ≡ over (outcome rolled (next_frame output) n).bytes output)

abbrev pub node_in : (c : Call) → Returned c → Node
node_in (set_up s settings) r = r.node
node_in (hear id dlc payload output) r = r.node
node_in (tick output) r = r.node
node_in (request s payload) r = r.node
node_in (next_frame output) r = r.node

-- what C has of a call beside the node
pub data Seen : Type 0 where
  replied : (reply : ℕ) → Seen
  heard : (reply told written : ℕ) (left : List ℕ) → Seen
  ticked : (reply dropped delivered written : ℕ) (left : List ℕ) → Seen
  gave : (reply id len : ℕ) (left : List ℕ) → Seen

abbrev pub seen : (c : Call) → Returned c → (left : List ℕ) → Seen
seen (set_up s settings) r left = replied r.reply
seen (hear id dlc payload output) r left = heard r.reply r.told r.written left
seen (tick output) r left = ticked r.reply r.dropped r.delivered r.written left
seen (request s payload) r left = replied r.reply
seen (next_frame output) r left = gave r.reply r.id r.len left

-- the same of the definition's outcome
abbrev pub seen_of : (c : Call) → Outcome → Seen
seen_of (set_up s settings) o = replied (number_of o.reply)
seen_of (hear id dlc payload output) o =
    heard (number_of o.reply) (told_number o.report.frame) (length o.bytes) (over o.bytes output)
seen_of (tick output) o =
    ticked (number_of o.reply) o.report.dropped o.report.delivered (length o.bytes) (over o.bytes output)
seen_of (request s payload) o = replied (number_of o.reply)
seen_of (next_frame output) o = gave (number_of o.reply) o.id.0 (length o.bytes) (over o.bytes output)

abbrev pub seen_from : Clock → Node → List Call → List Seen
seen_from clock n [] = []
seen_from clock n (c ∷ cs) = seen_of c (outcome clock c n) ∷ seen_from clock (outcome clock c n).node cs

-- from one node to another by some calls, and what C saw of each
pub data Run : Node → List Call → List Seen → Node → Type 0 where
  start : {n : Node} → Run n [] [] n
  next : {n end : Node} {cs : List Call} {xs : List Seen} (c : Call) (r : Returned c) (left : List ℕ) → Promised c n r left
      → Run (node_in c r) cs xs end → Run n (c ∷ cs) (seen c r left ∷ xs) end

-- EVERY HISTORY FROM C: from the fresh node, C sees what the definitions say with unbounded counts, and has their node, rolled over
abbrev pub EveryHistory : Type 0
EveryHistory =
    (calls : List Call) (xs : List Seen) (end : Node) → Run fresh calls xs end
    → (xs ≡ seen_from unbounded fresh calls) × (end ≡ roll (after unbounded calls))
