-- Set up in code, in any order of the modules, leaves a bench that is in step with the plan's; of a proper plan every set up is accepted; and
-- every plan can be set up so.
use Prim.Native.Nat.{ℕ, zero, suc, ◌≤◌, ◌<◌}
use native.Mathlib.Nat.{zero-add, le_of_suc-le-suc, not-suc-le-zero}
use native.Mathlib.Omega.{arith}
use mathlib.Core.Path.{◌≡◌, refl, ap, sym, subst, ◌∙◌}
use mathlib.Core.Logic.{inl}
use mathlib.Core.Bool.{Bool, true, false, ◌&&◌}
use mathlib.Core.List.{[], ◌∷◌, ◌++◌, map, append-nil, append_assoc}
use lib.ListN.{length, length-map, length-replicate, replicate}
use lib.Dec.{T, leb, ltb, ltb→lt, lt→ltb, leb→le, leb-zero, leb-suc-zero, leb-suc-suc}
use borrow.Author.Tests.{lt-ltb, ltb-true}
use Rattle.node.specs.declared.Node.{Node}
use Rattle.node.specs.Nodes.{fresh}
use Rattle.node.specs.Clock.{unbounded}
use Rattle.node.specs.Calls.{Call, set_up, outcome, after, after_from, Answer, answers_from}
use Rattle.node.proofs.kept.EveryCall.{kept_fresh}
use Rattle.one_stream.proofs.Truth.{and_l, and_r, both}
use Rattle.bench_in_code.specs.Values as coded
use Rattle.bench.specs.Lists.{nth, every}
use Rattle.bench.specs.SetUp.{Entry, Part, Plan, set_ups, is_done, accepted, all_agree, all_entries, is_sent, proper, module_for, start}
use Rattle.bench.specs.Bench.{Module, no_module, module_at, is_live}
use Rattle.bench.specs.Events.{call, with_node}
use Rattle.bench_in_code.specs.InCode as code
use Rattle.bench_in_code.specs.InCode.{at_start, nobody, kept, module_in, bench_of, place_count}
use Rattle.bench_in_code.specs.InStep.{InStep}
use Rattle.bench_in_code.specs.Runs.{SetUps, with_entry, plan_of, SetsUp, set_up_of, set_up_replies, after_set_ups, EveryPlanIsSetUp, EverySetUpIsDone}
use Rattle.bench.proofs.laws.ListPlaces.{nth_inside, nth_each, map_at}
use Rattle.bench.proofs.laws.ModuleAfterEvent.{nth_at, length_at}
use Rattle.bench.proofs.message.PlanGives.{node_at}
use Rattle.bench_in_code.proofs.InStep.{Called, live_below_eight, answer_in_step, same_reply}

-- ── one set up ──
-- its node makes one more call
one_entry : (n : Node) (part : Part) (e : Entry)
    → after_from unbounded n (set_ups (part ++ (e ∷ []))) ≡ (outcome unbounded (set_up e.stream e.settings) (after_from unbounded n (set_ups part))).node
one_entry n [] e = refl
one_entry n (x ∷ part) e = one_entry (outcome unbounded (set_up x.stream x.settings) n).node part e

planned_live : (plan : Plan) (i : ℕ) → i < length plan → is_live i (start plan) ≡ true
unfolding start
planned_live [] i h = absurd (not-suc-le-zero h)
planned_live (part ∷ plan) zero h = refl
planned_live (part ∷ plan) (suc i) h = planned_live plan i (le_of_suc-le-suc h)

module _ (plan : Plan) {k : coded.Bench} (in_step : InStep (start plan) k) (i : ℕ) (inside : i < length plan) (e : Entry) where
  abbrev c : Call
  c = set_up e.stream e.settings

  entry_is_call : Called c i (start plan) (start (with_entry i e plan))
  unfolding start
  entry_is_call j =
      let change : Module → Module = λ m. with_node (call unbounded c m).node m in
      let inside_too : i < length (map module_for plan) = rw (length-map plan module_for) inside in
      ap (nth no_module j)
      (map_at module_for (λ (part : Part). part ++ (e ∷ [])) change (λ part. ap (λ n. with_node n (module_for part)) (one_entry fresh part e)) i plan)
      ∙ nth_at no_module change j i (map module_for plan) (inl inside_too)

  there : ltb i place_count ≡ true
  there = lt-ltb i place_count (live_below_eight in_step i (planned_live plan i inside))

  pub set_up_in_step : InStep (start (with_entry i e plan)) (code.asked (ltb i place_count) c i k).bench
  set_up_in_step = answer_in_step in_step c i (ltb i place_count) there (planned_live plan i inside) (start (with_entry i e plan)) entry_is_call

  pub set_up_reply : (code.asked (ltb i place_count) c i k).reply ≡ (call unbounded c (module_at i (start plan))).reply
  set_up_reply = same_reply in_step c i (ltb i place_count) there

-- ── the start ──
-- a module with nothing set up, live or not there
abbrev unset : (live : Bool) → Module
unset live = record { node = fresh; live = live; log = [] }

unset_plan : (n i : ℕ) → module_at i (start (replicate n [])) ≡ unset (ltb i n)
unfolding start
unset_plan zero i = ap unset (sym (leb-suc-zero i))
unset_plan (suc n) zero = ap unset (sym (leb-suc-suc 0 n ∙ leb-zero n))
unset_plan (suc n) (suc i) = unset_plan n i ∙ ap unset (sym (leb-suc-suc (suc i) n))

unset_bench : (n : ℕ) → n ≤ place_count → (i : ℕ) → module_in i (bench_of n) ≡ kept (unset (ltb i n))
unset_bench n few i = go (ltb i n) refl ∙ nth_each tt (λ (j : ℕ) (x : Unit {0}). at_start (ltb j n)) i 0 i (replicate place_count tt) (zero-add i)
  where
    go : (t : Bool) → ltb i n ≡ t → module_in i (bench_of n) ≡ nth (at_start (ltb i n)) i (bench_of n).modules
    go true e =
        let h = ltb-true i n e in
        let inside : i < place_count = omega arith in
        sym (nth_inside nobody nobody i (bench_of n).modules inside) ∙ nth_inside nobody (at_start (ltb i n)) i (bench_of n).modules inside
    go false e = ap (λ t. nth (at_start t) i (bench_of n).modules) (sym e)

-- with nothing set up
pub unset_in_step : (n : ℕ) → n ≤ place_count → InStep (start (replicate n [])) (bench_of n)
unset_in_step n few =
    record {
      eight = refl;
      modules = λ i. rw (unset_plan n i, unset_bench n few i) (record { node = refl; live = refl; reached = kept_fresh });
    }

-- ── all set ups ──
abbrev AreThere : ℕ → SetUps → Type 0
AreThere n xs = T (every (λ (x : ℕ × Entry). ltb x.0 n) xs)

-- a plan's part of a module, after one more set up, and after more of them
with_entry_law : (e : Entry) (i : ℕ) (plan : Plan) → i < length plan → nth [] i (with_entry i e plan) ≡ nth [] i plan ++ (e ∷ [])
with_entry_law e i [] h = absurd (not-suc-le-zero h)
with_entry_law e zero (part ∷ plan) h = refl
with_entry_law e (suc i) (part ∷ plan) h = with_entry_law e i plan (le_of_suc-le-suc h)

one_grows : (e : Entry) (i j : ℕ) (plan : Plan) → (more : Part) × (nth [] i (with_entry j e plan) ≡ nth [] i plan ++ more)
one_grows e i j [] = ([], refl)
one_grows e zero zero (part ∷ plan) = (e ∷ [], refl)
one_grows e zero (suc j) (part ∷ plan) = ([], sym (append-nil part))
one_grows e (suc i) zero (part ∷ plan) = ([], sym (append-nil (nth [] i plan)))
one_grows e (suc i) (suc j) (part ∷ plan) = one_grows e i j plan

grows : (xs : SetUps) (plan : Plan) (i : ℕ) → (more : Part) × (nth [] i (plan_of xs plan) ≡ nth [] i plan ++ more)
grows [] plan i = ([], sym (append-nil (nth [] i plan)))
grows (x ∷ xs) plan i =
    let (m, e) = one_grows x.1 i x.0 plan in
    let (m', e') = grows xs (with_entry x.0 x.1 plan) i in
    (m ++ m', e' ∙ (ap (λ (p : Part). p ++ m') e ∙ append_assoc (nth [] i plan) m m'))

-- an entry of a part that is accepted
accepted_at : (n : Node) (part : Part) (e : Entry) (more : Part)
    → T (every (λ (a : Answer). is_done a.reply) (answers_from unbounded n (set_ups ((part ++ (e ∷ [])) ++ more))))
    → T (is_done (outcome unbounded (set_up e.stream e.settings) (after_from unbounded n (set_ups part))).reply)
accepted_at n [] e more t = and_l (is_done (outcome unbounded (set_up e.stream e.settings) n).reply) _ t
accepted_at n (x ∷ part) e more t =
    let o = outcome unbounded (set_up x.stream x.settings) n in
    accepted_at o.node part e more (and_r (is_done o.reply) _ t)

part_accepted : (plan : Plan) (i : ℕ) → T (every accepted plan) → T (accepted (nth [] i plan))
part_accepted [] i t = tt
part_accepted (part ∷ plan) zero t = and_l (accepted part) (every accepted plan) t
part_accepted (part ∷ plan) (suc i) t = part_accepted plan i (and_r (accepted part) (every accepted plan) t)

-- a set up whose entry the plan accepts in the end
module _ (plan : Plan) {k : coded.Bench} (in_step : InStep (start plan) k) (x : ℕ × Entry) (xs : SetUps) (inside : x.0 < length plan) where
  start_node : (module_at x.0 (start plan)).node ≡ after unbounded (set_ups (nth [] x.0 plan))
  unfolding start
  start_node = node_at plan x.0

  is_done_here : T (every accepted (plan_of (x ∷ xs) plan)) → T (is_done (set_up_of x k).reply)
  is_done_here t =
      let (more, grown) = grows xs (with_entry x.0 x.1 plan) x.0 in
      let part = nth [] x.0 plan in
      let part_is = grown ∙ ap (λ (p : Part). p ++ more) (with_entry_law x.1 x.0 plan inside) in
      subst (λ r. T (is_done r))
      (sym (set_up_reply plan in_step x.0 inside x.1 ∙ ap (λ n. (outcome unbounded (set_up x.1.stream x.1.settings) n).reply) start_node))
      (accepted_at fresh part x.1 more (subst (λ p. T (accepted p)) part_is (part_accepted (plan_of (x ∷ xs) plan) x.0 t)))

module _ (n : ℕ) where
  set_ups_in_step : (xs : SetUps) → AreThere n xs → (plan : Plan) → length plan ≡ n → (k : coded.Bench) → InStep (start plan) k
      → InStep (start (plan_of xs plan)) (after_set_ups xs k) × (T (every accepted (plan_of xs plan)) → T (every is_done (set_up_replies xs k)))
  set_ups_in_step [] there plan e k in_step = (in_step, λ t. tt)
  set_ups_in_step (x ∷ xs) there plan e k in_step =
      let h = ltb→lt x.0 n (and_l (ltb x.0 n) _ there) in
      let inside : x.0 < length plan = omega (arith, e) in
      let rest =
      set_ups_in_step xs (and_r (ltb x.0 n) _ there) (with_entry x.0 x.1 plan)
      (length_at (λ (part : Part). part ++ (x.1 ∷ [])) x.0 plan ∙ e)
      (set_up_of x k).bench (set_up_in_step plan in_step x.0 inside x.1) in
      (rest.0, λ t. both (is_done (set_up_of x k).reply) _ (is_done_here plan in_step x xs inside t) (rest.1 t))

-- ── a plan that is set up ──
module _ (plan : Plan) (xs : SetUps) (few : length plan ≤ place_count) (s : SetsUp xs plan) where
  whole : InStep (start (plan_of xs (replicate (length plan) []))) (after_set_ups xs (bench_of (length plan)))
      × (T (every accepted (plan_of xs (replicate (length plan) []))) → T (every is_done (set_up_replies xs (bench_of (length plan)))))
  whole = set_ups_in_step (length plan) xs s.there (replicate (length plan) []) (length-replicate (length plan) []) (bench_of (length plan))
      (unset_in_step (length plan) few)

  pub plan_in_step : InStep (start plan) (after_set_ups xs (bench_of (length plan)))
  plan_in_step = subst (λ (p : Plan). InStep (start p) (after_set_ups xs (bench_of (length plan)))) s.makes whole.0

  all_done : T (every accepted plan) → T (every is_done (set_up_replies xs (bench_of (length plan))))
  all_done t = whole.1 (subst (λ (p : Plan). T (every accepted p)) (sym s.makes) t)

-- what makes a plan proper
module _ (plan : Plan) (ok : T (proper plan)) where
  sizes_and_accepted : T (leb 2 (length plan) && leb (length plan) 8 && every accepted plan)
  unfolding proper
  sizes_and_accepted =
      let sizes = leb 2 (length plan) && leb (length plan) 8 in
      let sent = every (λ (e : Entry). is_sent plan e.stream) (all_entries plan) in
      and_l (sizes && every accepted plan) (all_agree plan) (and_l (sizes && every accepted plan && all_agree plan) sent ok)

  pub at_most_eight : length plan ≤ place_count
  at_most_eight =
      leb→le (length plan) 8 (and_r (leb 2 (length plan)) (leb (length plan) 8)
      (and_l (leb 2 (length plan) && leb (length plan) 8) (every accepted plan) sizes_and_accepted))

pub every_set_up_is_done : EverySetUpIsDone
every_set_up_is_done plan xs ok s =
    all_done plan xs (at_most_eight plan ok) s
    (and_r (leb 2 (length plan) && leb (length plan) 8) (every accepted plan) (sizes_and_accepted plan ok))

-- ── every plan ──
-- the set ups of a plan: the first module's, then those of the others
abbrev for_first : Entry → ℕ × Entry
for_first e = (0, e)

abbrev for_next : ℕ × Entry → ℕ × Entry
for_next x = (suc x.0, x.1)

abbrev set_ups_of : Plan → SetUps
set_ups_of [] = []
set_ups_of (part ∷ plan) = map for_first part ++ map for_next (set_ups_of plan)

first_planned : (es : Part) (xs : SetUps) (part : Part) (plan : Plan) → plan_of (map for_first es ++ xs) (part ∷ plan) ≡ plan_of xs ((part ++ es) ∷ plan)
first_planned [] xs part plan = ap (λ p. plan_of xs (p ∷ plan)) (sym (append-nil part))
first_planned (e ∷ es) xs part plan = first_planned es xs (part ++ (e ∷ [])) plan ∙ ap (λ p. plan_of xs (p ∷ plan)) (append_assoc part (e ∷ []) es)

next_planned : (xs : SetUps) (part : Part) (plan : Plan) → plan_of (map for_next xs) (part ∷ plan) ≡ part ∷ plan_of xs plan
next_planned [] part plan = refl
next_planned (x ∷ xs) part plan = next_planned xs part (with_entry x.0 x.1 plan)

all_planned : (plan : Plan) → plan_of (set_ups_of plan) (replicate (length plan) []) ≡ plan
all_planned [] = refl
all_planned (part ∷ plan) =
    first_planned part (map for_next (set_ups_of plan)) [] (replicate (length plan) [])
    ∙ (next_planned (set_ups_of plan) part (replicate (length plan) []) ∙ ap (λ (p : Plan). part ∷ p) (all_planned plan))

all_there : (plan : Plan) → AreThere (length plan) (set_ups_of plan)
all_there [] = tt
all_there (part ∷ plan) = first part (others (set_ups_of plan) (all_there plan))
  where
    n : ℕ
    n = length plan

    first : (es : Part) → AreThere (suc n) (map for_next (set_ups_of plan)) → AreThere (suc n) (map for_first es ++ map for_next (set_ups_of plan))
    first [] t = t
    first (e ∷ es) t = both (ltb 0 (suc n)) _ (lt→ltb 0 (suc n) (omega arith)) (first es t)

    others : (xs : SetUps) → AreThere n xs → AreThere (suc n) (map for_next xs)
    others [] t = tt
    others (x ∷ xs) t =
        let h = ltb→lt x.0 n (and_l (ltb x.0 n) _ t) in
        both (ltb (suc x.0) (suc n)) _ (lt→ltb (suc x.0) (suc n) (omega arith)) (others xs (and_r (ltb x.0 n) _ t))

pub every_plan_is_set_up : EveryPlanIsSetUp
every_plan_is_set_up plan = (set_ups_of plan, record { there = all_there plan; makes = all_planned plan })
