-- Over every history of the calls on a lent node C sees what the definitions say with ticks counted without bound.
use Prim.Native.Nat.{ℕ, ◌+◌}
use mathlib.Core.Path.{◌≡◌, refl, ap, ap₂, ◌∙◌}
use mathlib.Core.Bool.{Bool, true, false, cond}
use mathlib.Core.List.{List, ◌∷◌}
use lib.ListN.{length, set, length-set}
use lib.Dec.{ltb}
use Rattle.wire.specs.declared.reply.Reply.{Reply}
use Rattle.wire.specs.Replies.{number_of}
use Rattle.node.specs.declared.Node.{Node}
use Rattle.node.specs.Slots.{empty}
use Rattle.node.specs.Nodes.{fresh, Outcome}
use Rattle.node.specs.Clock.{unbounded, rolled}
use Rattle.node.specs.Calls.{Call, set_up, hear, tick, request, next_frame, outcome, after_from, answers_from, answers, roll, roll_outcome}
use Rattle.node.specs.Reachable.{Kept}
use Rattle.node.proofs.kept.EveryCall.{kept_fresh, kept_by}
use Rattle.node.proofs.rollover.SameAnswers.{rolls}
use Rattle.node_bytes.specs.Layout.{node_size}
use Rattle.node_bytes.specs.Decoding.{decode}
use Rattle.node_bytes.specs.LentCalls.{lent_outcome}
use Rattle.node_bytes.proofs.Lent.{is_node_law, fresh_written, length_stays}
use Rattle.node_bytes.proofs.Calling.{as_node_law}
use Rattle.module.specs.declared.tally.Tally.{Tally}
use Rattle.module.specs.Tallies.{counted, place_of, most, zero_tally, count_of, tallied, tallied_all, counted_in}
use Rattle.module.specs.Histories.{replies_in}
use Rattle.module.proofs.Counts.{counts_replies}
use Rattle.module.proofs.LentCounts.{counted_as_tally}
use Rattle.firmware.specs.Histories.{Seen, seen_of, seen_from}
use Rattle.firmware.specs.LentHistories.{Lent, Returned, Answers, Promised, seen, Run, start, next, fresh_lent, EveryLentHistory}
use Rattle.firmware.proofs.Histories.{seen_rolls}

-- what is seen of a call that kept its promise
seen_so : (c : Call) (bytes : List ℕ) (r : Returned c) (left : List ℕ) → Answers c bytes r left → seen c r left ≡ seen_of c (lent_outcome c bytes)
seen_so (set_up s settings) bytes r left p = rw p
seen_so (hear id dlc payload output) bytes r left p = rw (p.0, p.1)
seen_so (tick output) bytes r left p = rw (p.0, p.1)
seen_so (request s payload) bytes r left p = rw p
seen_so (next_frame output) bytes r left p = rw (p.0, p.1)

-- a tally stays as long as it is
tallied_length : (t : Tally) (r : Reply) → length (tallied t r).counts ≡ length t.counts
unfolding tallied
tallied_length t r = go (ltb (count_of r t) most)
  where
    go : (b : Bool) → length (cond {A = Tally} b (record { counts = set t.counts (place_of r) (count_of r t + 1) }) t).counts ≡ length t.counts
    go true = length-set t.counts (place_of r) (count_of r t + 1)
    go false = refl

-- a node that is rolled over, in bytes, and the counts of a tally
pub record Stands (u : Node) (t : Tally) (m : Lent) : Type 0 where
  pub whole : length m.bytes ≡ node_size
  pub node : decode m.bytes ≡ roll u
  pub all_counts : length t.counts ≡ length counted
  pub counts : m.counts ≡ t.counts

module _ (u : Node) (k : Kept u) (t : Tally) {m : Lent} (s : Stands u t m) (c : Call) where
  abbrev o : Outcome
  o = outcome unbounded c u

  outcome_so : lent_outcome c m.bytes ≡ roll_outcome o
  outcome_so = as_node_law c m.bytes s.whole ∙ ap (λ (n : Node). outcome rolled c n) s.node ∙ rolls c u k

  module _ (r : Returned c) (left : List ℕ) (then : Lent) (p : Promised c m r left then) where
    seen_unbounded : seen c r left ≡ seen_of c o
    seen_unbounded = seen_so c m.bytes r left p.answers ∙ ap (seen_of c) outcome_so ∙ seen_rolls c o

    stands_then : Stands o.node (tallied t o.reply) then
    stands_then =
        record {
          whole = p.leaves.length_stays ∙ s.whole;
          node = p.leaves.node ∙ ap (λ (q : Outcome). q.node) outcome_so;
          all_counts = tallied_length t o.reply ∙ s.all_counts;
          counts = p.counts
              ∙ ap₂ (λ (q : Outcome) (l : List ℕ). counted_in (number_of q.reply) l) outcome_so s.counts
              ∙ counted_as_tally t o.reply s.all_counts;
        }

pub record Ended (u : Node) (t : Tally) (calls : List Call) (xs : List Seen) (end : Lent) : Type 0 where
  pub saw : xs ≡ seen_from unbounded u calls
  pub stands : Stands (after_from unbounded u calls) (tallied_all t (replies_in (answers_from unbounded u calls))) end

run_so : (u : Node) → Kept u → (t : Tally) → {m end : Lent} {calls : List Call} {xs : List Seen} → Stands u t m → Run m calls xs end
    → Ended u t calls xs end
run_so u k t s start = record { saw = refl; stands = s }
run_so u k t s (next {cs = cs} c r left then p rest) =
    let later = run_so (outcome unbounded c u).node (kept_by c u k) (tallied t (outcome unbounded c u).reply) (stands_then u k t s c r left then p) rest in
    record {
      saw = ap₂ (λ (x : Seen) (l : List Seen). x ∷ l) (seen_unbounded u k t s c r left then p) later.saw;
      stands = later.stands;
    }

pub every_lent_history : EveryLentHistory
every_lent_history bytes e calls xs end run =
    let first : Stands fresh zero_tally (fresh_lent bytes) = record {
      whole = (length_stays bytes 0 0 empty).2 ∙ is_node_law bytes e;
      node = fresh_written bytes e;
      all_counts = refl;
      counts = refl;
    } in
    let last = run_so fresh kept_fresh zero_tally first run in
    record {
      answered = last.saw;
      node = last.stands.node;
      counted = last.stands.counts ∙ ap (λ (t : Tally). t.counts) (counts_replies (replies_in (answers unbounded calls)));
    }
