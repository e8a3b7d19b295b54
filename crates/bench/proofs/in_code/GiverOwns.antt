-- In a bench that a proper plan set up, a frame that goes into a book as given out is its giver's: each stream has one sender, which is
-- asked for its messages and gives out their data and confirmations.
use Prim.Native.Nat.{ℕ, ◌≤◌, ◌<◌}
use native.Mathlib.Omega.{arith}
use native.Mathlib.Decide.{dec_le}
use mathlib.Core.Path.{◌≡◌, refl, sym, subst, ◌∙◌}
use mathlib.Core.Bool.{Bool, true, false, not, ◌&&◌, ◌||◌, cond}
use mathlib.Core.List.{List, []}
use lib.Dec.{T, eqb, eqb_refl, T_not}
use Rattle.wire.specs.declared.ids.Stream.{Stream}
use Rattle.wire.specs.Identifiers.{code_of}
use Rattle.wire.specs.Settings as wire
use Rattle.node.specs.declared.slots.Slot.{Slot}
use Rattle.node.specs.declared.Node.{Node}
use Rattle.node.specs.Slots.{is_sender}
use Rattle.node.specs.Nodes.{slot_of}
use Rattle.node.specs.Reachable.{Kept}
use Rattle.node.proofs.kept.EveryCall.{kept}
use Rattle.node.proofs.slots.Streams.{Kind, kind_of}
use Rattle.one_stream.proofs.Truth.{and_r, both, is_true, so}
use Rattle.bench.specs.Lists.{nth}
use Rattle.bench.specs.SetUp.{Entry, Part, Plan, set_ups, same_numbers, agree, proper, start}
use Rattle.bench.specs.Bench as Bench
use Rattle.bench.specs.Bench.{Bench, Book, module_at, slot_at, same_stream, owner_of}
use Rattle.bench.specs.Events.{Event, step, is_accepted, is_next, which_of}
use Rattle.bench.proofs.laws.SlotAfterCall.{giving, slot_kept, IsPending, the_payload, the_confirmation, the_abort, next_used, next_pending}
use Rattle.bench.proofs.laws.ModuleAfterEvent.{accepted_facts, moved_step, next_done}
use Rattle.bench.proofs.message.PlanGives.{In, FromPlan, no_entry, entry, from_plan, proper_agrees, plan_agrees, node_at}

-- ── one sender ──
-- an entry of a part makes its module send the stream
record SendEntry (z : Stream) (part : Part) : Type 0 where
  pub entry_is : Entry
  pub there : In entry_is part
  pub of_stream : entry_is.stream ≡ z
  pub sends : T (wire.sends entry_is.settings)

send_entry : (z : Stream) (part : Part) {x : Slot} → FromPlan z part x → T (is_sender x) → SendEntry z part
send_entry z part no_entry t = absurd t
send_entry z part (entry e there q) t = record { entry_is = e; there = there; of_stream = q; sends = t }

-- entries that agree do not both send one stream
not_both_send : (z : Stream) (p q : Part) (x : SendEntry z p) (y : SendEntry z q) → T (agree x.entry_is y.entry_is) → ⊥
not_both_send z p q x y t = go (same_stream e.stream f.stream) one_stream t
  where
    e : Entry
    e = x.entry_is

    f : Entry
    f = y.entry_is

    one_stream : T (same_stream e.stream f.stream)
    one_stream = subst (λ (s : Stream). T (same_stream e.stream s)) (x.of_stream ∙ sym y.of_stream) (eqb_refl e.stream.0)

    go : (o : Bool) → T o → T (not o || (same_numbers e.settings f.settings && not (wire.sends e.settings && wire.sends f.settings))) → ⊥
    go true o t =
        T_not (wire.sends e.settings && wire.sends f.settings) (and_r (same_numbers e.settings f.settings) _ t)
        (both (wire.sends e.settings) (wire.sends f.settings) x.sends y.sends)
    go false o t = o

-- the plan gives this module a send slot for the stream
abbrev pub Sends : Plan → Stream → ℕ → Type 0
Sends plan z i = T (is_sender (slot_at z i (start plan)))

module _ (plan : Plan) (ok : T (proper plan)) (z : Stream) where
  sends_by : (i : ℕ) → Sends plan z i → SendEntry z (nth [] i plan)
  unfolding start
  sends_by i =
      send_entry z (nth [] i plan)
      (subst (λ (n : Node). FromPlan z (nth [] i plan) (slot_of z n)) (sym (node_at plan i)) (from_plan z (nth [] i plan)))

  never_later : (i j : ℕ) → i < j → Sends plan z i → Sends plan z j → ⊥
  never_later i j h s t =
      let x = sends_by i s in
      let y = sends_by j t in
      not_both_send z (nth [] i plan) (nth [] j plan) x y (plan_agrees plan (proper_agrees plan ok) i j h x.entry_is y.entry_is x.there y.there)

  pub one_sender : (i j : ℕ) → Sends plan z i → Sends plan z j → i ≡ j
  one_sender i j s t = go (dec_le i j) (dec_le j i)
    where
      go : Dec (i ≤ j) → Dec (j ≤ i) → i ≡ j
      go (yes h) (yes h') = omega arith
      go (no h) d = absurd (never_later j i (omega arith) t s)
      go (yes h) (no h') = absurd (never_later i j (omega arith) s t)

-- ── what set up gave stays ──
pub record AsPlanned (plan : Plan) (b : Bench) : Type 0 where
  pub nodes : (i : ℕ) → Kept (module_at i b).node
  pub kinds : (z : Stream) (i : ℕ) → kind_of (slot_at z i b) ≡ kind_of (slot_at z i (start plan))

pub as_planned_at_start : (plan : Plan) → AsPlanned plan (start plan)
unfolding start
as_planned_at_start plan = record { nodes = λ i. subst Kept (sym (node_at plan i)) (kept (set_ups (nth [] i plan))); kinds = λ z i. refl }

module _ (plan : Plan) (b : Bench) (x : AsPlanned plan b) where
  pub as_planned_step : (e : Event) → AsPlanned plan (step b e)
  as_planned_step e =
      record {
        nodes = λ i. (moved_step (record { 0 = 0 }) b e i (x.nodes i)).kept (x.nodes i);
        kinds = λ z i. (moved_step z b e i (x.nodes i)).kind ∙ x.kinds z i;
      }

  planned_sender : (z : Stream) (i : ℕ) → T (is_sender (slot_at z i b)) → Sends plan z i
  planned_sender z i = subst (λ (k : Kind). T (k.used && wire.sends k.settings)) (x.kinds z i)

  -- who takes a request sends the stream
  pub asked_sends : (j : ℕ) (z : Stream) (p : List ℕ) → T (is_accepted j z p b) → Sends plan z j
  asked_sends j z p t = planned_sender z j (so (accepted_facts b j z p t).own)

  -- who gives out a frame of a book whose sender sends the stream owns the frame
  pub giver_owns : T (proper plan) → (j : ℕ) (z : Stream) (c : ℕ) → T (is_next j z c b) → (k : Book) → Sends plan z k.sender
      → owner_of (which_of j c) k ≡ j
  giver_owns ok j z c t k sender = go pending refl
    where
      n : Node
      n = (module_at j b).node

      y : Slot
      y = slot_at z j b

      used : T y.used
      used = let given = next_done b j z c t in subst (λ s. T (slot_of s n).used) given.1 (next_used n (x.nodes j) given.0)

      pending : IsPending y c
      pending =
          let given = next_done b j z c t in
          subst (IsPending y) given.2
          (subst (λ s. IsPending (slot_of s n) (code_of (giving n).id)) given.1 (next_pending n (x.nodes j) given.0))

      by_sender : wire.sends y.settings ≡ true → owner_of (which_of j c) k ≡ j
      by_sender s = owner (eqb c 1) (eqb c 2) (one_sender plan ok z k.sender j sender
          (planned_sender z j (both y.used (wire.sends y.settings) used (so s))))
        where
          owner : (u v : Bool) → k.sender ≡ j → owner_of (cond u Bench.the_confirmation (cond v (Bench.the_abort j 0) Bench.the_payload)) k ≡ j
          owner true v e = e
          owner false true e = refl
          owner false false e = e

      go : {d : ℕ} → IsPending y d → d ≡ c → owner_of (which_of j c) k ≡ j
      go (the_payload p) e = by_sender ((slot_kept z n (x.nodes j)).pending.payload_sent (is_true y.pending.payload p))
      go (the_confirmation p) e = by_sender ((slot_kept z n (x.nodes j)).pending.confirmation_sent (is_true y.pending.confirmation p)).0
      go (the_abort p) e = subst (λ d. owner_of (which_of j d) k ≡ j) e refl
