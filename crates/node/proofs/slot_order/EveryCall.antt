-- Every call answers alike on nodes with the same slots in another order, in any two layouts.
use Rattle.std.proofs.Common.{◌≡◌, ℕ, Bool, true, false, cond, List, [], ◌∷◌, sym, refl, ap, ◌∙◌, subst}
use mathlib.Core.List.Permᴰ
use mathlib.Core.List.{Permᴰ}
use Rattle.wire.specs.declared.ids.Stream.{Stream}
use Rattle.wire.specs.declared.ids.BusId.{BusId}
use Rattle.wire.specs.declared.settings.Settings.{Settings}
use Rattle.wire.specs.Identifiers.{stream_of, code_of}
use Rattle.wire.specs.Refusals.{Refusals}
use Rattle.wire.proofs.Refusing.{Passes}
use Rattle.node.specs.declared.slots.Slot.{Slot}
use Rattle.node.specs.declared.Node.{Node}
use Rattle.node.specs.Slots.{empty, slot_for, is_free, is_of}
use Rattle.node.specs.Nodes.{fresh, slot_count, slot_of, with_slots, on_slot, Outcome, unless_refused, refused, done, telling}
use Rattle.node.specs.Clock.{Clock}
use Rattle.node.specs.SetUp.{set_up_refusals}
use Rattle.node.specs.Hear.{heard_by, delivered_at_once, hear_refusals, hear}
use Rattle.node.specs.Tick.{late, due, age_of, lapses, tick_slot, records_from, ticked, tick_refusals}
use Rattle.node.specs.Told.{Report, told_by, of_frame}
use Rattle.node.specs.Request.{requested, request_refusals, request}
use Rattle.node.specs.NextFrame.{given_out}
use Rattle.node.specs.Calls.{Call, outcome, after_from, Answer, answer_of, answers_from}
use Rattle.node.specs.OldLayout.{Layout, first_free, set_up_in, due_by_stream, tick_by_stream, pending_ids, give_by_id, next_by_id, outcome_in}
use Rattle.node.specs.SlotOrder.{Settled, SameSlots, SameOutcome, Fills, LayoutUnseen, after_by, answers_by}
use Rattle.node.proofs.set_up.Cases.{SetUpFacts, set_up_facts}
use Rattle.node.proofs.slots.Table.{all_replicate}
use Rattle.node.proofs.slots.Streams.{KeepsKind, heard_keeps, requested_keeps, given_out_keeps, distinct_fresh}
use Rattle.node.proofs.slot_order.LowestOfAll.{lowest_or_above, refusals_by_lowest, next_by_lowest}
use Rattle.node.proofs.slot_order.Reordered.{some_reordered, first_reordered, on_first_reordered}
use Rattle.node.proofs.slot_order.Settled.{EmptyIfFree, one_of_stream, free_alike, settled_reordered, settled_on_slot, settled_map, settled_set_up}
use Rattle.node.proofs.slot_order.Settled.{tick_keeps, none_ticked}
use Rattle.node.proofs.slot_order.Records.{due_reordered, many_reordered, lowest_reordered}

-- the same tests refuse both calls, or the outcomes are alike where none does
unless_refused_alike : {n m : Node} → SameSlots n m → (tests : Refusals) {o p : Outcome} → (Passes tests → SameOutcome o p)
    → SameOutcome (unless_refused n tests o) (unless_refused m tests p)
unless_refused_alike same [] alike = alike tt
unless_refused_alike {n} {m} same ((r, t) ∷ rest) {o} {p} alike = go t refl (λ e. unless_refused_alike same rest (λ passed. alike (e, passed)))
  where
    go : (b : Bool) → t ≡ b → (t ≡ false → SameOutcome (unless_refused n rest o) (unless_refused m rest p))
        → SameOutcome (cond b (refused n r) (unless_refused n rest o)) (cond b (refused m r) (unless_refused m rest p))
    go true e otherwise = record { answer = refl; node = same }
    go false e otherwise = otherwise e

done_alike : {n m : Node} (written : List ℕ) → SameSlots n m → SameOutcome (done n written) (done m written)
done_alike written same = record { answer = refl; node = same }

telling_alike : (report : Report) {o p : Outcome} → SameOutcome o p → SameOutcome (telling report o) (telling report p)
telling_alike report same =
    record { answer = ap (λ (a : Answer). record { reply = a.reply; id = a.id; bytes = a.bytes; report = report }) same.answer; node = same.node }

-- ── each call, on a node and on one with its slots in another order ──
module _ (n : Node) (settled : Settled n.slots) (others : List Slot) (reordered : Permᴰ n.slots others) where
  abbrev m : Node
  m = with_slots others n

  same : SameSlots n m
  same = record { settled = settled; slots = reordered; counter = refl }

  same_slot : (s : Stream) → slot_of s m ≡ slot_of s n
  same_slot s = sym (first_reordered (is_of s) reordered (one_of_stream s n.slots settled.distinct))

  same_on_slot : (s : Stream) (f : Slot → Slot) → KeepsKind f → SameSlots (on_slot s f n) (on_slot s f m)
  same_on_slot s f keeps =
      record {
        settled = settled_on_slot f keeps n.slots settled s;
        slots = on_first_reordered (is_of s) f reordered (one_of_stream s n.slots settled.distinct);
        counter = refl;
      }

  module _ (a b : Layout) (fills_a : Fills a) (fills_b : Fills b) (s : Stream) (settings : Settings) where
    abbrev new_slot : Slot
    new_slot = slot_for s settings

    same_put : SetUpFacts s settings n → SameSlots (with_slots (a new_slot n.slots) n) (with_slots (b new_slot others) m)
    same_put h =
        let in_a = fills_a new_slot n.slots h.room in
        let in_b = fills_b new_slot others (sym (some_reordered is_free reordered) ∙ h.room) in
        let in_first = on_first_reordered is_free (λ x. new_slot) reordered (free_alike n.slots settled.free) in
        record {
          settled = settled_reordered (Permᴰ.symm in_a) (settled_set_up s settings n.slots h.new settled);
          slots = Permᴰ.trans in_a (Permᴰ.trans in_first (Permᴰ.symm in_b));
          counter = refl;
        }

    set_up_alike : SameOutcome (set_up_in a s settings n) (set_up_in b s settings m)
    set_up_alike =
        rw (← (some_reordered (is_of s) reordered), ← (some_reordered is_free reordered))
        (unless_refused_alike same (set_up_refusals s settings n) (λ passed. done_alike [] (same_put (set_up_facts s settings n passed))))

  hear_alike : (id : BusId) (dlc : ℕ) (payload output : List ℕ) → SameOutcome (hear id dlc payload output n) (hear id dlc payload output m)
  unfolding hear
  hear_alike id dlc payload output =
      let s = stream_of id in
      let code = code_of id in
      rw (same_slot s)
      (unless_refused_alike same (hear_refusals id dlc payload output (slot_of s n))
      (λ passed.
      telling_alike (of_frame (told_by code (slot_of s n)))
      (done_alike (delivered_at_once id payload) (same_on_slot s (heard_by n.counter code payload) (heard_keeps n.counter code payload)))))

  tick_alike : (clock : Clock) (output : List ℕ) → SameOutcome (tick_by_stream clock output n) (tick_by_stream clock output m)
  tick_alike clock output =
      let now = clock.next n.counter in
      let same_ticked : SameSlots (ticked clock n) (ticked clock m) =
      record {
        settled = settled_map (tick_slot clock now) (tick_keeps clock now) n.slots settled (none_ticked clock now);
        slots = Permᴰ.map (tick_slot clock now) reordered;
        counter = refl;
      } in
      rw (
        ← (due_reordered clock now reordered settled.distinct),
        ← (many_reordered (λ x. late (age_of clock now x) x) reordered),
        ← (many_reordered (λ x. due (age_of clock now x) x) reordered),
      )
      (unless_refused_alike same (tick_refusals output)
      (λ passed. telling_alike (lapses clock now n.slots) (done_alike (records_from (due_by_stream clock now n.slots)) same_ticked)))

  request_alike : (s : Stream) (payload : List ℕ) → SameOutcome (request s payload n) (request s payload m)
  unfolding request
  request_alike s payload =
      rw (same_slot s)
      (unless_refused_alike same (request_refusals payload (slot_of s n))
      (λ passed. done_alike [] (same_on_slot s (requested n.counter payload) (requested_keeps n.counter payload))))

  give_alike : (id : BusId) → SameOutcome (give_by_id id n) (give_by_id id m)
  unfolding give_by_id
  give_alike id =
      record {
        answer = rw (same_slot (stream_of id));
        node = same_on_slot (stream_of id) (given_out (code_of id)) (given_out_keeps (code_of id));
      }

  next_frame_alike : (output : List ℕ) → SameOutcome (next_by_id output n) (next_by_id output m)
  next_frame_alike output =
      let low = lowest_or_above (pending_ids n.slots) in
      rw (next_by_lowest output n, next_by_lowest output m, ← (lowest_reordered reordered))
      (unless_refused_alike same (refusals_by_lowest output low) (λ passed. give_alike (record { 0 = low })))

  pub each_call : (a b : Layout) → Fills a → Fills b → (clock : Clock) (c : Call) → SameOutcome (outcome_in a clock c n) (outcome_in b clock c m)
  each_call a b fills_a fills_b clock (Call.set_up s settings) = set_up_alike a b fills_a fills_b s settings
  each_call a b fills_a fills_b clock (Call.hear id dlc payload output) = hear_alike id dlc payload output
  each_call a b fills_a fills_b clock (Call.tick output) = tick_alike clock output
  each_call a b fills_a fills_b clock (Call.request s payload) = request_alike s payload
  each_call a b fills_a fills_b clock (Call.next_frame output) = next_frame_alike output

pub layout_unseen : LayoutUnseen
layout_unseen a b fills_a fills_b clock c n m same =
    subst (λ (k : Node). SameOutcome (outcome_in a clock c n) (outcome_in b clock c k))
    (ap (λ (i : ℕ). record { slots = m.slots; counter = i }) same.counter)
    (each_call n same.settled m.slots same.slots a b fills_a fills_b clock c)

-- ── every history ──
-- what each call keeps between two nodes is kept by every history, if the calls answer alike
pub in_every_history : (f g : Call → Node → Outcome) (R : Node → Node → Type 0)
    → ((c : Call) (n m : Node) → R n m → (answer_of (f c n) ≡ answer_of (g c m)) × R (f c n).node (g c m).node)
    → (calls : List Call) (n m : Node) → R n m → (answers_by f n calls ≡ answers_by g m calls) × R (after_by f n calls) (after_by g m calls)
in_every_history f g R step [] n m r = (refl, r)
in_every_history f g R step (c ∷ cs) n m r =
    let here = step c n m r in
    let rest = in_every_history f g R step cs (f c n).node (g c m).node here.1 in
    (rw (here.0, rest.0), rest.1)

-- ── the old layout ──
pub first_free_fills : Fills first_free
first_free_fills x xs room = Permᴰ.refl (first_free x xs)

-- the histories of calls as they are
module _ (clock : Clock) where
  pub as_answers : (calls : List Call) (n : Node) → answers_by (outcome clock) n calls ≡ answers_from clock n calls
  as_answers [] n = refl
  as_answers (c ∷ cs) n = ap (λ (l : List Answer). answer_of (outcome clock c n) ∷ l) (as_answers cs (outcome clock c n).node)

  pub as_after : (calls : List Call) (n : Node) → after_by (outcome clock) n calls ≡ after_from clock n calls
  as_after [] n = refl
  as_after (c ∷ cs) n = as_after cs (outcome clock c n).node

-- ── from the fresh node ──
pub same_fresh : SameSlots fresh fresh
same_fresh =
    record {
      settled = record { distinct = distinct_fresh slot_count; free = all_replicate EmptyIfFree slot_count empty (λ free. refl) };
      slots = Permᴰ.refl fresh.slots;
      counter = refl;
    }
