-- Benches of dummies: modules that hear and tick in a manner of their own, on the bus of the rules. That those which never deliver, and those
-- which refuse all frames, fail the second half of demand 3 in every history.
use Rattle.std.specs.Prelude.{ℕ, ◌≡◌, Bool, true, not, cond, ◌&&◌, List, [], ◌∷◌, map, T, eqb}
use Rattle.wire.specs.declared.ids.Stream.{Stream}
use Rattle.node.specs.Clock.{unbounded}
use Rattle.node.specs.Calls.{tick}
use Rattle.bench.specs.Lists.{at, each}
use Rattle.bench.specs.Bench.{Frame, Module, Bench, module_at, now, book_of, frame_of, owner_of}
use Rattle.bench.specs.SetUp.{Plan, start}
use Rattle.bench.specs.Events.{To, Event, asks, gives, sends, ticks, dies, named, is_full, call, lent}
use Rattle.bench.specs.Events.{heard, at_once, onto, deliveries, on_books, on_frame, sent_once, moved, step, run}
use Rattle.bench.specs.Rules.{was_full, may}
use Rattle.bench.specs.Demands.{delivered, live_receiver}

-- ── the second half of demand 3, of any two benches: b₁ at the request, b₃ at the judgement ──
abbrev pub AllIfFullAt : Stream → (payload : List ℕ) → (b₁ b₃ : Bench) → Type 0
AllIfFullAt s payload b₁ b₃ =
    T (was_full (book_of s 0 b₃).payload_frame) → T (was_full (book_of s 0 b₃).confirmation)
    → (i : ℕ) → T (live_receiver s b₃ i)
    → (t : ℕ) × (delivered s i b₃ ≡ record { at = t; stream = s; payload = payload } ∷ delivered s i b₁)

-- it is false, wherever it asks anything: both frames are full, and a receiver is alive
abbrev pub FailsAt : Stream → (payload : List ℕ) → (b₁ b₃ : Bench) → Type 0
FailsAt s payload b₁ b₃ =
    T (was_full (book_of s 0 b₃).payload_frame) → T (was_full (book_of s 0 b₃).confirmation)
    → (i : ℕ) → T (live_receiver s b₃ i) → AllIfFullAt s payload b₁ b₃ → ⊥

-- ── the bench of other modules ──
-- what a live module does with a frame that it hears, and at a tick; requests, giving out and deaths are as they are
pub record Manner : Type 0 where
  pub hearing : Frame → Module → Module
  pub ticking : Module → Module

module _ (M : Manner) where
  abbrev pub hears_by : To → (owner : ℕ) → Frame → ℕ → Module → Module
  hears_by to owner f i m = cond (m.live && named to i && not (eqb i owner)) (M.hearing f m) m

  abbrev pub ticked_by : Module → Module
  ticked_by m = cond m.live (M.ticking m) m

  unfoldable pub step_by : Bench → Event → Bench
  step_by b (asks i s payload) = step b (asks i s payload)
  step_by b (gives i s code) = step b (gives i s code)
  step_by b (sends s message w to) =
      moved
      (record {
        modules = b.modules;
        ledgers = on_books s (at (on_frame w (sent_once (now b) (is_full to))) message) b.ledgers;
      })
      (each (hears_by to (owner_of w (book_of s message b)) (frame_of w (book_of s message b))) 0 b.modules)
  step_by b ticks = moved b (map ticked_by b.modules)
  step_by b (dies i) = step b (dies i)

  abbrev pub run_by : Bench → List Event → Bench
  run_by b [] = b
  run_by b (e ∷ es) = run_by (step_by b e) es

  -- every event is as the bench rules ask
  abbrev pub keeps_by : Bench → List Event → Bool
  keeps_by b [] = true
  keeps_by b (e ∷ es) = may b e && keeps_by (step_by b e) es

-- crate node's
abbrev pub as_node : Manner
as_node =
    record {
      hearing = λ f m. record { node = (heard f m).node; live = m.live; log = onto (at_once f m) m.log };
      ticking = λ m. record { node = (call unbounded (tick lent) m).node; live = m.live; log = onto (deliveries unbounded m.node) m.log };
    }

-- with it the bench is the one of the rules
abbrev pub AsNodeIsTheRules : Type 0
AsNodeIsTheRules = (h : List Event) (b : Bench) → run_by as_node b h ≡ run b h

-- ── modules that never deliver, whatever else they do ──
pub record NeverDelivers (M : Manner) : Type 0 where
  pub hearing_adds_nothing : (f : Frame) (m : Module) → (M.hearing f m).log ≡ m.log
  pub ticking_adds_nothing : (m : Module) → (M.ticking m).log ≡ m.log

-- NEVER DELIVERING FAILS: from any bench, at the request after the events before it, and at the judgement after all events so far
abbrev pub NeverDeliveringFails : Type 0
NeverDeliveringFails =
    (M : Manner) → NeverDelivers M → (b₀ : Bench) (before h : List Event) (s : Stream) (payload : List ℕ)
    → FailsAt s payload (run_by M b₀ before) (run_by M b₀ h)

-- ── modules that refuse all frames: nothing is changed and nothing is logged; their ticks are crate node's ──
pub record RefusesAll (M : Manner) : Type 0 where
  pub hearing_changes_nothing : (f : Frame) (m : Module) → (M.hearing f m).node ≡ m.node
  pub hearing_adds_nothing : (f : Frame) (m : Module) → (M.hearing f m).log ≡ m.log
  pub ticks_as_node : (m : Module) → M.ticking m ≡ as_node.ticking m

-- whatever happens after set up, no module delivers anything
abbrev pub RefusingDeliversNothing : Type 0
RefusingDeliversNothing =
    (M : Manner) → RefusesAll M → (plan : Plan) (h : List Event) (i : ℕ) → (module_at i (run_by M (start plan) h)).log ≡ []

-- REFUSING FAILS: from any set up, at the request after the events before it, and at the judgement after all events so far
abbrev pub RefusingFails : Type 0
RefusingFails =
    (M : Manner) → RefusesAll M → (plan : Plan) (before h : List Event) (s : Stream) (payload : List ℕ)
    → FailsAt s payload (run_by M (start plan) before) (run_by M (start plan) h)
