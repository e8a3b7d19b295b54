-- A history in parts, and how live modules count through it: all alike, a tick each.
use Prim.Native.Nat.{ℕ, ◌+◌}
use native.Mathlib.Omega.{arith}
use native.Mathlib.Nat.{add-zero}
use mathlib.Core.Path.{◌≡◌, refl, ap, sym, subst, ◌∙◌}
use mathlib.Core.Bool.{Bool, true, false, not, ◌&&◌, cond}
use mathlib.Core.List.{List, [], ◌∷◌, ◌++◌}
use lib.Dec.{T, eqb}
use Rattle.one_stream.proofs.Truth.{cond_elim, cond_true}
use Rattle.bench.specs.Bench.{Module, Bench, module_at, is_live, book_of, frame_of, owner_of}
use Rattle.bench.specs.Demands.{is_tick, tick_count, MessageIn, just_asked, at_moment}
use Rattle.bench.specs.Events.{Event, asks, gives, sends, ticks, dies, step, run, is_accepted, is_next, named, dead, with_node}
use Rattle.bench.specs.Rules.{one}
use Rattle.bench.proofs.laws.SlotAfterCall.{asking, hear_counter, tick_counter, ask_counter, giving, next_counter}
use Rattle.bench.proofs.laws.ModuleAfterEvent.{hears_frame, ticked_live, step_module, module_step, count_of}

-- a history in two parts
pub run_append : (xs ys : List Event) (b : Bench) → run b (xs ++ ys) ≡ run (run b xs) ys
run_append [] ys b = refl
run_append (e ∷ es) ys b = run_append es ys (step b e)

-- from a message's moment to the end
pub to_the_end : (b₀ : Bench) (h : List Event) (m : MessageIn b₀ h) → run b₀ h ≡ run (at_moment b₀ h m) m.rest
to_the_end b₀ h m =
    ap (run b₀) m.split
    ∙ (run_append m.before (asks m.sender m.stream m.payload ∷ (m.since ++ m.rest)) b₀ ∙ run_append m.since m.rest (just_asked b₀ h m))

pub live_back : (b : Bench) (e : Event) (i : ℕ) → T (is_live i (step b e)) → T (is_live i b)
live_back b e i t = go e (subst (λ (m : Module). T m.live) (module_step b e i) t)
  where
    m : Module
    m = module_at i b

    go : (e : Event) → T (step_module b e i m).live → T m.live
    go (asks j z p) = cond_elim (λ (m' : Module). T m'.live → T m.live) (is_accepted j z p b && eqb i j) (λ y l. l) (λ y l. l)
    go (gives j z c) = cond_elim (λ (m' : Module). T m'.live → T m.live) (is_next j z c b && eqb i j) (λ y l. l) (λ y l. l)
    go (sends z n w to) =
        cond_elim (λ (m' : Module). T m'.live → T m.live) (m.live && named to i && not (eqb i (owner_of w (book_of z n b))))
        (λ y l. l) (λ y l. l)
    go ticks = cond_elim (λ (m' : Module). T m'.live → T m.live) m.live (λ y l. l) (λ y l. l)
    go (dies j) = cond_elim (λ (m' : Module). T m'.live → T m.live) (eqb i j) (λ y l. absurd l) (λ y l. l)

pub count_step : (b : Bench) (e : Event) (i : ℕ) → T (is_live i (step b e)) → count_of (step b e) i ≡ count_of b i + one (is_tick e)
count_step b e i t =
    ap (λ (m : Module). m.node.counter) (module_step b e i) ∙ go e (subst (λ (m : Module). T m.live) (module_step b e i) t)
  where
    m : Module
    m = module_at i b

    same_count : (g : Bool) (m' : Module) → m'.node.counter ≡ m.node.counter → (cond g m' m).node.counter ≡ m.node.counter + 0
    same_count true m' h = h ∙ sym (add-zero m.node.counter)
    same_count false m' h = sym (add-zero m.node.counter)

    go : (e : Event) → T (step_module b e i m).live → (step_module b e i m).node.counter ≡ m.node.counter + one (is_tick e)
    go (asks j z p) l = same_count (is_accepted j z p b && eqb i j) (with_node (asking z p m.node).node m) (ask_counter z p m.node)
    go (gives j z c) l = same_count (is_next j z c b && eqb i j) (with_node (giving m.node).node m) (next_counter m.node)
    go (sends z n w to) l =
        let f = frame_of w (book_of z n b) in
        same_count (m.live && named to i && not (eqb i (owner_of w (book_of z n b)))) (hears_frame f m)
        (hear_counter f.id f.payload m.node)
    go ticks l =
        let m' : Module = ticked_live m in
        ap (λ (m : Module). m.node.counter) (cond_true m.live m' m (live_back b e i t)) ∙ tick_counter m.node
    go (dies j) l = same_count (eqb i j) (dead m) refl

pub count_run : (h : List Event) (b : Bench) (i : ℕ) → T (is_live i (run b h))
    → (count_of (run b h) i ≡ count_of b i + tick_count h) × T (is_live i b)
count_run [] b i t = (sym (add-zero (count_of b i)), t)
count_run (e ∷ es) b i t =
    let r = count_run es (step b e) i t in
    (omega (arith, r.0, count_step b e i r.1), live_back b e i r.1)
