-- An accepted request of a history that keeps the rules: its stream was planned with one sender and one class, and the message is followed
-- from there.
use Prim.Native.Nat.{ℕ}
use mathlib.Core.Path.{◌≡◌, refl, subst, ◌∙◌}
use mathlib.Core.Bool.{◌&&◌}
use mathlib.Core.List.{List, [], ◌∷◌, ◌++◌}
use lib.Dec.{T, eqb}
use Rattle.wire.specs.declared.ids.Stream.{Stream}
use Rattle.wire.specs.declared.settings.Settings.{Settings}
use Rattle.wire.specs.Settings.{legal}
use Rattle.wire.specs.Settings as wire
use Rattle.node.specs.Slots.{is_sender}
use Rattle.node.specs.Reachable.{Kept}
use Rattle.node.proofs.slots.Streams.{Kind, kind_of}
use Rattle.one_stream.proofs.Truth.{and_r, so}
use Rattle.bench.specs.Bench.{Bench, module_at, slot_at, now}
use Rattle.bench.specs.SetUp.{Plan, proper, start}
use Rattle.bench.specs.Events.{Event, asks, is_accepted, step, run}
use Rattle.bench.specs.Rules.{may, keeps_so_far}
use Rattle.bench.proofs.laws.ModuleAfterEvent.{accepted_facts, moved_step}
use Rattle.bench.proofs.message.ClassOnBench.{to_delays, OnBench}
use Rattle.bench.proofs.message.SeenAfterOwnEvent.{Valid}
use Rattle.bench.proofs.message.MessageKept.{Track}
use Rattle.bench.proofs.message.RequestOpens.{logs_of}
use Rattle.bench.proofs.message.ThroughHistory.{silent, opened, any_run}
use Rattle.bench.proofs.message.PlanGives.{start_kept, start_silent, start_lawful, start_valid}

-- what set up gave a slot stays
kind_run : (s : Stream) (h : List Event) (b : Bench) → ((i : ℕ) → Kept (module_at i b).node) → (i : ℕ) → kind_of (slot_at s i (run b h)) ≡ kind_of (slot_at s i b)
kind_run s [] b k i = refl
kind_run s (e ∷ es) b k i = kind_run s es (step b e) (λ j. (moved_step s b e j (k j)).kept (k j)) i ∙ (moved_step s b e i (k i)).kind

-- module j was asked for the message p of stream s, and the history goes on with `rest`
module _ {n : ℕ} (class : OnBench n) (plan : Plan) (before rest : List Event) (j : ℕ) (s : Stream) (p : List ℕ) where
  abbrev b₀ : Bench
  b₀ = start plan

  abbrev b₁ : Bench
  b₁ = run b₀ before

  abbrev b₂ : Bench
  b₂ = step b₁ (asks j s p)

  -- the settings of its stream, which are of the class; and what is known of the stream and of the message
  pub record Requested : Type 0 where
    pub settings : Settings
    pub of : T (eqb settings.class n)
    pub lawful : T (legal s settings)
    pub at_start : Valid n (to_delays settings) s j b₀
    pub at_request : Valid n (to_delays settings) s j b₁
    pub track : Track (class s settings of lawful) s j (now b₁) p (logs_of s b₁) b₂
    pub keeps_on : T (keeps_so_far b₂ rest)

  module _ (ok : T (proper plan)) (keeps : T (keeps_so_far b₀ (before ++ (asks j s p ∷ rest)))) (accepted : T (is_accepted j s p b₁))
      (of : T (eqb (slot_at s j b₁).settings.class n)) where
    kind : kind_of (slot_at s j b₁) ≡ kind_of (slot_at s j b₀)
    kind = kind_run s before b₀ (start_kept plan ok s) j

    sender₀ : T (is_sender (slot_at s j b₀))
    sender₀ = subst (λ (k : Kind). T (k.used && wire.sends k.settings)) kind (so (accepted_facts b₁ j s p accepted).own)

    of₀ : T (eqb (slot_at s j b₀).settings.class n)
    of₀ = subst (λ (k : Kind). T (eqb k.settings.class n)) kind of

    pub requested : Requested
    requested =
        let legal₀ = start_lawful plan ok s j sender₀ in
        let v = start_valid plan ok s j sender₀ of₀ in
        let K = class s (slot_at s j b₀).settings of₀ legal₀ in
        let (v₁, phase, k) = any_run K s j b₀ v (silent (start_silent plan ok s)) before (asks j s p ∷ rest) keeps in
        record {
          settings = (slot_at s j b₀).settings;
          of = of₀;
          lawful = legal₀;
          at_start = v;
          at_request = v₁;
          track = opened K s j b₁ v₁ phase j p accepted;
          keeps_on = and_r (may b₁ (asks j s p)) (keeps_so_far b₂ rest) k;
        }
