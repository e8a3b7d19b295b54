-- A bench of dummies fails the second half of demand 3 in every history: modules that refuse all frames, or that never deliver.
use Prim.Native.Nat.{ℕ, zero, suc, ◌+◌}
use native.Mathlib.Omega.{arith}
use mathlib.Core.Path.{◌≡◌, refl, ap, sym, subst, ◌∙◌}
use mathlib.Core.Bool.{Bool, true, false, not, cond, ◌&&◌}
use mathlib.Core.List.{List, [], ◌∷◌, map}
use lib.ListN.{length}
use lib.Dec.{eqb}
use Rattle.wire.specs.declared.ids.Stream.{Stream}
use Rattle.node.specs.declared.Node.{Node}
use Rattle.node.specs.Nodes.{fresh}
use Rattle.node.specs.Clock.{unbounded}
use Rattle.node.specs.Calls.{request, next_frame, outcome}
use Rattle.one_stream.proofs.Truth.{so}
use Rattle.bench.specs.Lists.{nth, at, each, keep_only}
use Rattle.bench.specs.Bench.{Frame, Delivery, Module, Bench, same_stream, no_module, module_at, book_of, frame_of, owner_of}
use Rattle.bench.specs.SetUp.{Plan, start}
use Rattle.bench.specs.Events.{Event, asks, gives, sends, ticks, dies, named, lent, with_node, asked, next, dead}
use Rattle.bench.specs.Events.{is_accepted, opened, is_next, gave, step, run}
use Rattle.bench.specs.Rules.{was_full, one_omission}
use Rattle.bench.specs.Demands.{MessageIn, at_request, at_moment, Atomic, LiveNow, delivered, live_receiver}
use Rattle.bench.proofs.laws.TicksCounted.{to_the_end}
use Rattle.bench.specs.Dummies.{AllIfFullAt, FailsAt, Manner, hears_by, ticked_by, step_by, run_by, keeps_by, as_node, AsNodeIsTheRules}
use Rattle.bench.specs.Dummies.{NeverDelivers, NeverDeliveringFails, RefusesAll, RefusingDeliversNothing, RefusingFails}
use Rattle.bench.specs.MomentTen.{five, three, message, wait, logs}
use Rattle.bench.proofs.examples.ExampleHistories.{computing}
use Rattle.bench.specs.MomentTen.{full_confirmation}
use Rattle.bench.proofs.examples.MomentTen.{full_message}
use Rattle.bench.proofs.examples.NotEmpty.{full_confirmation_is_atomic}
use Rattle.bench.proofs.dummies.RefusingNode.{NoneHeld, none_fresh, none_due, none_request, none_next_frame, none_tick, none_set_ups}

-- it is what demand 3 says of a judged message, here at the end of a history
pub second_half : (b₀ : Bench) (h : List Event) (m : MessageIn b₀ h) → Atomic b₀ h m (LiveNow b₀ h m)
    → m.rest ≡ [] → AllIfFullAt m.stream m.payload (at_request b₀ h m) (run b₀ h)
second_half b₀ h m a ends =
    subst (λ b. AllIfFullAt m.stream m.payload (at_request b₀ h m) b) (sym (to_the_end b₀ h m ∙ ap (run (at_moment b₀ h m)) ends)) a.all_if_full

abbrev logs_in : List Module → List (List Delivery)
logs_in ms = map (λ (m : Module). m.log) ms

log_at : (i : ℕ) (ms : List Module) → (nth no_module i ms).log ≡ nth [] i (logs_in ms)
log_at i [] = refl
log_at zero (m ∷ ms) = refl
log_at (suc i) (m ∷ ms) = log_at i ms

-- where no log has changed, no receiver has delivered anything new
same_logs : (s : Stream) (b₁ b₃ : Bench) → logs b₃ ≡ logs b₁ → (i : ℕ) → delivered s i b₃ ≡ delivered s i b₁
same_logs s b₁ b₃ same i =
    ap (keep_only (λ (d : Delivery). same_stream d.stream s))
    (log_at i b₃.modules ∙ (ap (nth [] i) same ∙ sym (log_at i b₁.modules)))

same_logs_fail : (s : Stream) (payload : List ℕ) (b₁ b₃ : Bench) → logs b₃ ≡ logs b₁ → FailsAt s payload b₁ b₃
same_logs_fail s payload b₁ b₃ same data_full confirmation_full i lives all =
    let once = all data_full confirmation_full i lives in
    omega (arith, ap length (sym (same_logs s b₁ b₃ same i) ∙ once.1))

-- with it the bench is the one of the rules
pub as_node_step : (b : Bench) (e : Event) → step_by as_node b e ≡ step b e
unfolding step_by step
as_node_step b (asks i s payload) = refl
as_node_step b (gives i s code) = refl
as_node_step b (sends s n w to) = refl
as_node_step b ticks = refl
as_node_step b (dies i) = refl

pub as_node_law : AsNodeIsTheRules
as_node_law [] b = refl
as_node_law (e ∷ es) b = as_node_law es (step_by as_node b e) ∙ ap (λ c. run c es) (as_node_step b e)

-- ── modules that log nothing while their nodes have P, which no event takes from them ──
pub record LogsNothing (M : Manner) (P : Node → Type 0) : Type 0 where
  pub hearing_adds_nothing : (f : Frame) (m : Module) → P m.node → (M.hearing f m).log ≡ m.log
  pub ticking_adds_nothing : (m : Module) → P m.node → (M.ticking m).log ≡ m.log
  pub hearing_keeps : (f : Frame) (m : Module) → P m.node → P (M.hearing f m).node
  pub ticking_keeps : (m : Module) → P m.node → P (M.ticking m).node
  pub request_keeps : (s : Stream) (payload : List ℕ) (n : Node) → P n → P (outcome unbounded (request s payload) n).node
  pub next_frame_keeps : (n : Node) → P n → P (outcome unbounded (next_frame lent) n).node
  pub fresh_has : P fresh

abbrev pub EachNode : (Node → Type 0) → List Module → Type 0
EachNode P [] = Unit {0}
EachNode P (m ∷ ms) = P m.node × EachNode P ms

module _ (P : Node → Type 0) where
  -- the same log, and P still
  record Steady (before after : Module) : Type 0 where
    log_stays : after.log ≡ before.log
    has : P after.node

  -- of all modules
  record AllSteady (before after : List Module) : Type 0 where
    logs_stay : logs_in after ≡ logs_in before
    have : EachNode P after

  one_more : {m m' : Module} {ms ms' : List Module} → Steady m m' → AllSteady ms ms' → AllSteady (m ∷ ms) (m' ∷ ms')
  one_more s ss = record { logs_stay = rw (s.log_stays, ss.logs_stay); have = (s.has, ss.have) }

  unchanged : (m : Module) → P m.node → Steady m m
  unchanged m p = record { log_stays = refl; has = p }

  all_unchanged : (ms : List Module) → EachNode P ms → AllSteady ms ms
  all_unchanged ms ps = record { logs_stay = refl; have = ps }

  if_then : (t : Bool) (x m : Module) → P m.node → Steady m x → Steady m (cond t x m)
  if_then true x m p s = s
  if_then false x m p s = unchanged m p

  at_steady : (f : Module → Module) → ((m : Module) → P m.node → Steady m (f m)) → (i : ℕ) (ms : List Module) → EachNode P ms
      → AllSteady ms (at f i ms)
  at_steady f s i [] ps = all_unchanged [] ps
  at_steady f s zero (m ∷ ms) ps = one_more (s m ps.0) (all_unchanged ms ps.1)
  at_steady f s (suc i) (m ∷ ms) ps = one_more (unchanged m ps.0) (at_steady f s i ms ps.1)

  each_steady : (f : ℕ → Module → Module) → ((i : ℕ) (m : Module) → P m.node → Steady m (f i m)) → (i : ℕ) (ms : List Module)
      → EachNode P ms → AllSteady ms (each f i ms)
  each_steady f s i [] ps = all_unchanged [] ps
  each_steady f s i (m ∷ ms) ps = one_more (s i m ps.0) (each_steady f s (suc i) ms ps.1)

  map_steady : (f : Module → Module) → ((m : Module) → P m.node → Steady m (f m)) → (ms : List Module) → EachNode P ms
      → AllSteady ms (map f ms)
  map_steady f s [] ps = all_unchanged [] ps
  map_steady f s (m ∷ ms) ps = one_more (s m ps.0) (map_steady f s ms ps.1)

  either_steady : (t : Bool) (x b : Bench) → EachNode P b.modules → AllSteady b.modules x.modules
      → AllSteady b.modules (cond t x b).modules
  either_steady true x b ps s = s
  either_steady false x b ps s = all_unchanged b.modules ps

  node_has : P fresh → (i : ℕ) (ms : List Module) → EachNode P ms → P (nth no_module i ms).node
  node_has p i [] ps = p
  node_has p zero (m ∷ ms) ps = ps.0
  node_has p (suc i) (m ∷ ms) ps = node_has p i ms ps.1

module _ (M : Manner) (P : Node → Type 0) (n : LogsNothing M P) where
  step_steady : (b : Bench) → EachNode P b.modules → (e : Event) → AllSteady P b.modules (step_by M b e).modules
  unfolding step_by step
  step_steady b ps (asks i s payload) =
      let p = n.request_keeps s payload (module_at i b).node (node_has P n.fresh_has i b.modules ps) in
      either_steady P (is_accepted i s payload b) (opened i s payload b) b ps
      (at_steady P (with_node (asked i s payload b).node) (λ m q. record { log_stays = refl; has = p }) i b.modules ps)
  step_steady b ps (gives i s code) =
      let p = n.next_frame_keeps (module_at i b).node (node_has P n.fresh_has i b.modules ps) in
      either_steady P (is_next i s code b) (gave i s code b) b ps
      (at_steady P (with_node (next i b).node) (λ m q. record { log_stays = refl; has = p }) i b.modules ps)
  step_steady b ps (sends s message w to) =
      let owner = owner_of w (book_of s message b) in
      let f = frame_of w (book_of s message b) in
      each_steady P (hears_by M to owner f)
      (λ i m p. if_then P (m.live && named to i && not (eqb i owner)) (M.hearing f m) m p
      (record { log_stays = n.hearing_adds_nothing f m p; has = n.hearing_keeps f m p })) 0 b.modules ps
  step_steady b ps ticks =
      map_steady P (ticked_by M)
      (λ m p. if_then P m.live (M.ticking m) m p (record { log_stays = n.ticking_adds_nothing m p; has = n.ticking_keeps m p }))
      b.modules ps
  step_steady b ps (dies i) = at_steady P dead (λ m p. record { log_stays = refl; has = p }) i b.modules ps

  -- no log ever grows
  pub run_logs : (h : List Event) (b : Bench) → EachNode P b.modules → logs (run_by M b h) ≡ logs b
  run_logs [] b ps = refl
  run_logs (e ∷ es) b ps =
      let s = step_steady b ps e in
      run_logs es (step_by M b e) s.have ∙ s.logs_stay

  -- so the second half of demand 3 is false, at any two moments of what happens to the bench
  pub logging_nothing_fails : (b₀ : Bench) → EachNode P b₀.modules → (before h : List Event) (s : Stream) (payload : List ℕ)
      → FailsAt s payload (run_by M b₀ before) (run_by M b₀ h)
  logging_nothing_fails b₀ ps before h s payload =
      same_logs_fail s payload (run_by M b₀ before) (run_by M b₀ h) (run_logs h b₀ ps ∙ sym (run_logs before b₀ ps))

abbrev AnyNode : Node → Type 0
AnyNode n = Unit {0}

any_nodes : (ms : List Module) → EachNode AnyNode ms
any_nodes [] = tt
any_nodes (m ∷ ms) = (tt, any_nodes ms)

-- ── modules that never deliver ──
pub never_delivering_fails : NeverDeliveringFails
never_delivering_fails M n b₀ = logging_nothing_fails M AnyNode logs_nothing b₀ (any_nodes b₀.modules)
  where
    logs_nothing : LogsNothing M AnyNode
    logs_nothing =
        record {
          hearing_adds_nothing = λ f m p. n.hearing_adds_nothing f m;
          ticking_adds_nothing = λ m p. n.ticking_adds_nothing m;
          hearing_keeps = λ f m p. tt;
          ticking_keeps = λ m p. tt;
          request_keeps = λ s payload n p. tt;
          next_frame_keeps = λ n p. tt;
          fresh_has = tt;
        }

-- ── modules that refuse all frames ──
-- no receiver ever holds a message, so no tick delivers one
tick_adds_nothing : (m : Module) → NoneHeld m.node → (as_node.ticking m).log ≡ m.log
tick_adds_nothing m k = rw (none_due unbounded (m.node.counter + 1) m.node.slots k) refl

refusers_log_nothing : (M : Manner) → RefusesAll M → LogsNothing M NoneHeld
refusers_log_nothing M r =
    record {
      hearing_adds_nothing = λ f m k. r.hearing_adds_nothing f m;
      ticking_adds_nothing = λ m k. ap (λ (x : Module). x.log) (r.ticks_as_node m) ∙ tick_adds_nothing m k;
      hearing_keeps = λ f m k. subst NoneHeld (sym (r.hearing_changes_nothing f m)) k;
      ticking_keeps = λ m k. subst (λ (x : Module). NoneHeld x.node) (sym (r.ticks_as_node m)) (none_tick m.node k unbounded lent);
      request_keeps = λ s payload n k. none_request n k s payload;
      next_frame_keeps = λ n k. none_next_frame n k lent;
      fresh_has = none_fresh;
    }

start_holds_none : (plan : Plan) → EachNode NoneHeld (start plan).modules
unfolding start
start_holds_none [] = tt
start_holds_none (p ∷ ps) = (none_set_ups p fresh none_fresh, start_holds_none ps)

start_logs_none : (plan : Plan) (i : ℕ) → (module_at i (start plan)).log ≡ []
unfolding start
start_logs_none [] i = refl
start_logs_none (p ∷ ps) zero = refl
start_logs_none (p ∷ ps) (suc i) = start_logs_none ps i

pub refusing_delivers_nothing : RefusingDeliversNothing
refusing_delivers_nothing M r plan h i =
    log_at i (run_by M (start plan) h).modules
    ∙ (ap (nth [] i) (run_logs M NoneHeld (refusers_log_nothing M r) h (start plan) (start_holds_none plan))
    ∙ (sym (log_at i (start plan).modules) ∙ start_logs_none plan i))

pub refusing_fails : RefusingFails
refusing_fails M r plan = logging_nothing_fails M NoneHeld (refusers_log_nothing M r) (start plan) (start_holds_none plan)

-- ── moment 10 with a full confirmation, on crate node's bench and on two benches of dummies ──
abbrev pub requested : Manner → Bench
requested M = run_by M (start three) (wait 10)

abbrev pub judged : Manner → Bench
judged M = run_by M (start three) full_confirmation

-- with crate node's modules it holds
pub as_node_passes : AllIfFullAt five message (requested as_node) (judged as_node)
unfolding full_message
as_node_passes =
    subst (λ b. AllIfFullAt five message b (judged as_node)) (sym (as_node_law (wait 10) (start three)))
    (subst (λ b. AllIfFullAt five message (run (start three) (wait 10)) b) (sym (as_node_law full_confirmation (start three)))
    (second_half (start three) full_confirmation full_message full_confirmation_is_atomic refl))

-- its node stays as it is at every frame, and it writes nothing
abbrev pub refusing : Manner
refusing = record { hearing = λ f m. m; ticking = as_node.ticking }

pub refusing_refuses_all : RefusesAll refusing
refusing_refuses_all = record { hearing_changes_nothing = λ f m. refl; hearing_adds_nothing = λ f m. refl; ticks_as_node = λ m. refl }

-- its node does all that crate node's does, and nothing is handed over
abbrev pub silent : Manner
silent =
    record {
      hearing = λ f m. with_node (as_node.hearing f m).node m;
      ticking = λ m. with_node (as_node.ticking m).node m;
    }

pub silent_never_delivers : NeverDelivers silent
silent_never_delivers = record { hearing_adds_nothing = λ f m. refl; ticking_adds_nothing = λ m. refl }

-- All that the second half asks is met: the history keeps the bench rules with these modules too; its request is accepted; its data and
-- its confirmation are full, and at most one frame of it is an omission; A is a live receiver.
pub record Met (M : Manner) : Type 0 where
  pub keeps_rules : keeps_by M (start three) full_confirmation ≡ true
  pub accepted : is_accepted 0 five message (requested M) ≡ true
  pub one_omission : one_omission (book_of five 0 (judged M)) ≡ true
  pub data_full : was_full (book_of five 0 (judged M)).payload_frame ≡ true
  pub confirmation_full : was_full (book_of five 0 (judged M)).confirmation ≡ true
  pub a_receiver : live_receiver five (judged M) 1 ≡ true

pub refusing_met : Met refusing
unfolding computing step_by
refusing_met =
    record { keeps_rules = refl; accepted = refl; one_omission = refl; data_full = refl; confirmation_full = refl; a_receiver = refl }

pub silent_met : Met silent
unfolding computing step_by
silent_met =
    record { keeps_rules = refl; accepted = refl; one_omission = refl; data_full = refl; confirmation_full = refl; a_receiver = refl }

-- so the second half of demand 3 is false of either bench
pub refusing_fails_on_ten : AllIfFullAt five message (requested refusing) (judged refusing) → ⊥
refusing_fails_on_ten =
    let m = refusing_met in
    refusing_fails refusing refusing_refuses_all three (wait 10) full_confirmation five message
    (so m.data_full) (so m.confirmation_full) 1 (so m.a_receiver)

pub silent_fails_on_ten : AllIfFullAt five message (requested silent) (judged silent) → ⊥
silent_fails_on_ten =
    let m = silent_met in
    never_delivering_fails silent silent_never_delivers (start three) (wait 10) full_confirmation five message
    (so m.data_full) (so m.confirmation_full) 1 (so m.a_receiver)
