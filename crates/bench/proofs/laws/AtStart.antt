-- The bench when all is set up: no tick was counted, nothing delivered, and no frame given out.
use Prim.Native.Nat.{ℕ, zero, suc}
use mathlib.Core.Path.{◌≡◌, refl}
use mathlib.Core.List.{[], ◌∷◌}
use Rattle.node.specs.declared.Node.{Node}
use Rattle.node.specs.Clock.{unbounded}
use Rattle.node.specs.Nodes.{Outcome, fresh}
use Rattle.node.specs.SetUp.{set_up}
use Rattle.node.specs.Calls.{after_from}
use Rattle.node.proofs.Cases.{by_case}
use Rattle.node.proofs.set_up.Cases.{set_up_cases}
use Rattle.bench.specs.Bench.{Module, no_module, module_at}
use Rattle.bench.specs.SetUp.{Part, Plan, set_ups, module_for, start}
use Rattle.bench.proofs.laws.ModuleAfterEvent.{count_of}

-- a module was set up by its part, or is not there
start_elim : (P : Module → Type 0) → P no_module → ((part : Part) → P (module_for part)) → (plan : Plan) (i : ℕ) → P (module_at i (start plan))
unfolding start
start_elim P none some [] i = none
start_elim P none some (part ∷ plan) zero = some part
start_elim P none some (part ∷ plan) (suc i) = start_elim P none some plan i

pub log_at_start : (plan : Plan) (i : ℕ) → (module_at i (start plan)).log ≡ []
log_at_start = start_elim (λ (m : Module). m.log ≡ []) refl (λ part. refl)

-- setting up counts no tick
set_up_counter : (n : Node) → n.counter ≡ 0 → (part : Part) → (after_from unbounded n (set_ups part)).counter ≡ 0
set_up_counter n zero_count [] = zero_count
set_up_counter n zero_count (e ∷ part) =
    set_up_counter (set_up e.stream e.settings n).node
    (by_case (λ (o : Outcome). o.node.counter ≡ 0) (λ r why. zero_count) (λ h. zero_count) (set_up_cases e.stream e.settings n).case)
    part

pub count_at_start : (plan : Plan) (i : ℕ) → count_of (start plan) i ≡ 0
count_at_start = start_elim (λ (m : Module). m.node.counter ≡ 0) refl (set_up_counter fresh refl)
