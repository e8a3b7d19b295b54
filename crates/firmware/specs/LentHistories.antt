-- The calls for the modules' firmware over whole histories: a run of calls, each made with the bytes and the counts that the call before left, of
-- which nothing is known but that each kept its promise; and that C then sees what the definitions say with ticks counted without bound.
use Rattle.std.specs.Prelude.{ℕ, ◌≡◌, true, List, [], ◌∷◌}
use Rattle.wire.specs.Replies.{number_of}
use Rattle.wire.specs.Delivered.{over}
use Rattle.node.specs.Nodes.{fresh}
use Rattle.node.specs.Clock.{unbounded}
use Rattle.node.specs.Calls.{Call, set_up, hear, tick, request, next_frame, answers, after, roll}
use Rattle.node_bytes.specs.Decoding.{decode}
use Rattle.node_bytes.specs.Lent.{is_node, fresh_in}
use Rattle.node_bytes.specs.LentCalls.{lent_outcome, Leaves}
use Rattle.module.specs.Tallies.{zero_tally, tally_of}
use Rattle.module.specs.Histories.{replies_in}
use Rattle.firmware.specs.declared.lent.LentHeardC.{LentHeardC}
use Rattle.firmware.specs.declared.lent.LentTickedC.{LentTickedC}
use Rattle.firmware.specs.declared.lent.GivenOutC.{GivenOutC}
use Rattle.firmware.specs.Lent.{lent_heard_c, lent_ticked_c, given_out_c, Counts}
use Rattle.firmware.specs.Histories.{Seen, replied, heard, ticked, gave, seen_from}

-- what the firmware owns and lends: the bytes of the node, and the counts of the tally
pub record Lent : Type 0 where
  pub bytes : List ℕ
  pub counts : List ℕ

-- what the C function of a call returns
abbrev pub Returned : Call → Type 0
Returned (set_up s settings) = ℕ
Returned (hear id dlc payload output) = LentHeardC
Returned (tick output) = LentTickedC
Returned (request s payload) = ℕ
Returned (next_frame output) = GivenOutC

-- its promise of that, and of what it leaves in the lent output (set up and request are lent none)
abbrev pub Answers : (c : Call) → (bytes : List ℕ) → Returned c → (left : List ℕ) → Type 0
Answers (set_up s settings) bytes r left = r ≡ number_of (lent_outcome (set_up s settings) bytes).reply
Answers (hear id dlc payload output) bytes r left =
    (r ≡ lent_heard_c (lent_outcome (hear id dlc payload output) bytes))
    × (left ≡ over (lent_outcome (hear id dlc payload output) bytes).bytes output)
Answers (tick output) bytes r left =
    (r ≡ lent_ticked_c (lent_outcome (tick output) bytes)) × (left ≡ over (lent_outcome (tick output) bytes).bytes output)
Answers (request s payload) bytes r left = r ≡ number_of (lent_outcome (request s payload) bytes).reply
Answers (next_frame output) bytes r left =
    (r ≡ given_out_c (lent_outcome (next_frame output) bytes)) × (left ≡ over (lent_outcome (next_frame output) bytes).bytes output)

pub record Promised (c : Call) (m : Lent) (r : Returned c) (left : List ℕ) (then : Lent) : Type 0 where
  pub answers : Answers c m.bytes r left
  pub leaves : Leaves c m.bytes then.bytes
  pub counts : Counts c m.bytes m.counts then.counts

abbrev pub seen : (c : Call) → Returned c → (left : List ℕ) → Seen
seen (set_up s settings) r left = replied r
seen (hear id dlc payload output) r left = heard r.reply r.told r.written left
seen (tick output) r left = ticked r.reply r.dropped r.delivered r.written left
seen (request s payload) r left = replied r
seen (next_frame output) r left = gave r.reply r.id r.len left

-- by some calls, and what C saw of each
pub data Run : Lent → List Call → List Seen → Lent → Type 0 where
  start : {m : Lent} → Run m [] [] m
  next : {m end : Lent} {cs : List Call} {xs : List Seen} (c : Call) (r : Returned c) (left : List ℕ) (then : Lent) → Promised c m r left then
      → Run then cs xs end → Run m (c ∷ cs) (seen c r left ∷ xs) end

-- from bytes that the fresh node was written to, and counts of 0
abbrev pub fresh_lent : (bytes : List ℕ) → Lent
fresh_lent bytes = record { bytes = fresh_in bytes; counts = zero_tally.counts }

-- EVERY HISTORY ON A LENT NODE: C sees what the definitions say with unbounded counts, the bytes are their node, rolled over, and the counts are
-- those of all replies
pub record Faithful (calls : List Call) (xs : List Seen) (end : Lent) : Type 0 where
  pub answered : xs ≡ seen_from unbounded fresh calls
  pub node : decode end.bytes ≡ roll (after unbounded calls)
  pub counted : end.counts ≡ (tally_of (replies_in (answers unbounded calls))).counts

abbrev pub EveryLentHistory : Type 0
EveryLentHistory =
    (bytes : List ℕ) → is_node bytes ≡ true → (calls : List Call) (xs : List Seen) (end : Lent) → Run (fresh_lent bytes) calls xs end
    → Faithful calls xs end

-- and of every list of calls, on every buffer, there is such a run
abbrev pub SomeLentRun : Type 0
SomeLentRun = (bytes : List ℕ) (calls : List Call) → (xs : List Seen) × ((end : Lent) × Run (fresh_lent bytes) calls xs end)
