-- What each event makes of one module: nothing, one call of its node, or death.
use Prim.Native.Nat.{ℕ, zero, suc, ◌+◌, ◌-◌, ◌≤◌, ◌<◌}
use native.Mathlib.Omega.{arith}
use native.Mathlib.Nat.{zero-add}
use mathlib.Core.Path.{◌≡◌, refl, ap, sym, subst, ◌∙◌}
use mathlib.Core.Logic.{◌⊎◌, inl, inr}
use mathlib.Core.Bool.{Bool, true, false, not, ◌&&◌, cond}
use mathlib.Core.List.{List, [], ◌∷◌, map}
use lib.ListN.{length, length-map}
use lib.Dec.{T, eqb, eqb_refl, eqb→eq, eqb-zero-suc, eqb-suc-zero, eqb-suc-suc}
use Rattle.wire.specs.declared.ids.Stream.{Stream}
use Rattle.wire.specs.declared.ids.BusId.{BusId}
use Rattle.node.specs.declared.slots.Slot.{Slot}
use Rattle.node.specs.declared.Node.{Node}
use Rattle.wire.specs.Identifiers.{stream_of, code_of}
use Rattle.wire.specs.Settings.{receives}
use Rattle.node.specs.Calls.{hear, tick, request, next_frame}
use Rattle.node.specs.Clock.{unbounded}
use Rattle.node.specs.Hear.{heard_by}
use Rattle.node.specs.Nodes.{slot_of}
use Rattle.node.specs.Reachable.{Kept}
use Rattle.node.specs.Slots.{is_receiver}
use Rattle.node.proofs.Choices.{into, either_way, contrary}
use Rattle.node.proofs.request.Cases.{RequestFacts}
use Rattle.node.proofs.kept.EveryCall.{kept_by}
use Rattle.node.proofs.slots.Streams.{kind_of, heard_keeps, lapsed_keeps, requested_keeps, given_out_keeps}
use Rattle.one_stream.proofs.Truth.{cond_elim, cond_false, and_l, and_r, both, is_true, so}
use Rattle.bench.specs.Bench.{Module, Bench, Frame, no_module, module_at, is_live, counts, now, book_of, frame_of, owner_of, Delivery}
use Rattle.bench.specs.Bench.{slot_at, same_stream}
use Rattle.bench.specs.Events.{Event, asks, gives, sends, ticks, dies, step, ticked, dead, hears, named, is_accepted, is_next, opened}
use Rattle.bench.specs.Events.{gave, with_node, at_once, lent, onto, deliveries, asked, next}
use Rattle.bench.specs.Lists.{nth, at}
use Rattle.bench.specs.SetUp.{is_done}
use Rattle.bench.proofs.laws.SlotAfterCall.{Same, same_stream_law, slot_kept, takes, taken_facts, hearing, hear_own, hear_other, ticking}
use Rattle.bench.proofs.laws.SlotAfterCall.{tick_slot_law, asking, accepts, ask_own, ask_other, hear_counter, tick_counter, ask_counter}
use Rattle.bench.proofs.laws.SlotAfterCall.{asked_facts, giving, next_own, next_other, next_counter, on_stream}
use Rattle.bench.proofs.laws.ListPlaces.{nth_there, nth_each, length_each}

-- ── lists ──
module _ {A : Type 0} (other : A) where
  pub nth_map : (f : A → A) → f other ≡ other → (i : ℕ) (l : List A) → nth other i (map f l) ≡ f (nth other i l)
  nth_map f e i [] = sym e
  nth_map f e zero (x ∷ xs) = refl
  nth_map f e (suc i) (x ∷ xs) = nth_map f e i xs

  -- a change at a place that is there, or that changes nothing past the end
  pub nth_at : (f : A → A) (i j : ℕ) (l : List A) → (j < length l) ⊎ (f other ≡ other)
      → nth other i (at f j l) ≡ cond (eqb i j) (f (nth other i l)) (nth other i l)
  nth_at f i j [] (inl h) = let z : ⊥ = omega arith in absurd z
  nth_at f i j [] (inr e) = go (eqb i j)
    where
      go : (t : Bool) → other ≡ cond t (f other) other
      go true = sym e
      go false = refl
  nth_at f zero zero (x ∷ xs) h = refl
  nth_at f zero (suc j) (x ∷ xs) h = rw (eqb-zero-suc j)
  nth_at f (suc i) zero (x ∷ xs) h = rw (eqb-suc-zero i)
  nth_at f (suc i) (suc j) (x ∷ xs) h = rw (eqb-suc-suc i j) (nth_at f i j xs (less h))
    where
      less : (suc j < suc (length xs)) ⊎ (f other ≡ other) → (j < length xs) ⊎ (f other ≡ other)
      less (inl h) = inl (omega arith)
      less (inr e) = inr e

pub live_there : (i : ℕ) (ms : List Module) → T (nth no_module i ms).live → i < length ms
live_there = nth_there no_module (λ (m : Module). T m.live) (λ t. t)

-- ── one module ──
abbrev pub hears_frame : Frame → Module → Module
hears_frame f m =
    record { node = (hearing f.id f.payload m.node).node; live = m.live; log = onto (at_once f m) m.log }

-- a live module ticks
abbrev pub ticked_live : Module → Module
ticked_live m =
    record { node = (ticking m.node).node; live = m.live; log = onto (deliveries unbounded m.node) m.log }

abbrev pub step_module : Bench → Event → ℕ → Module → Module
step_module b (asks j z p) i m = cond (is_accepted j z p b && eqb i j) (with_node (asking z p m.node).node m) m
step_module b (gives j z c) i m = cond (is_next j z c b && eqb i j) (with_node (giving m.node).node m) m
step_module b (sends z n w to) i m =
    cond (m.live && named to i && not (eqb i (owner_of w (book_of z n b)))) (hears_frame (frame_of w (book_of z n b)) m) m
step_module b ticks i m = ticked unbounded m
step_module b (dies j) i m = cond (eqb i j) (dead m) m

-- a guarded change of the module at j, which reads that module
at_guarded : (b : Bench) (i j : ℕ) (g : Bool) → (T g → T (is_live j b)) → (f : Node → Node) (x : Bench)
    → x.modules ≡ at (with_node (f (module_at j b).node)) j b.modules
    → module_at i (cond g x b) ≡ cond (g && eqb i j) (with_node (f (module_at i b).node) (module_at i b)) (module_at i b)
at_guarded b i j false live f x e = refl
at_guarded b i j true live f x e =
    ap (nth no_module i) e
    ∙ (nth_at no_module (with_node (f (module_at j b).node)) i j b.modules (inl (live_there j b.modules (live tt)))
    ∙ go (eqb i j) (eqb→eq i j))
  where
    go : (t : Bool) → (T t → i ≡ j)
        → cond t (with_node (f (module_at j b).node) (module_at i b)) (module_at i b) ≡ cond t
        (with_node (f (module_at i b).node) (module_at i b)) (module_at i b)
    go true e = ap (λ k. with_node (f (module_at k b).node) (module_at i b)) (sym (e tt))
    go false e = refl

pub module_step : (b : Bench) (e : Event) (i : ℕ) → module_at i (step b e) ≡ step_module b e i (module_at i b)
unfolding step
module_step b (asks j z p) i =
    at_guarded b i j (is_accepted j z p b) (and_l (is_live j b) (is_done (asked j z p b).reply)) (λ n. (asking z p n).node) (opened j z p b)
    refl
module_step b (gives j z c) i =
    at_guarded b i j (is_next j z c b)
    (λ t. and_l (is_live j b) (is_done (next j b).reply) (and_l (is_live j b && is_done (next j b).reply) (same_stream (stream_of (next j b).id) z)
    (and_l (is_live j b && is_done (next j b).reply && same_stream (stream_of (next j b).id) z) (eqb (code_of (next j b).id) c) t)))
    (λ n. (giving n).node) (gave j z c b) refl
module_step b (sends z n w to) i =
    nth_each no_module (hears to (owner_of w (book_of z n b)) (frame_of w (book_of z n b))) i 0 i b.modules (zero-add i)
module_step b ticks i = nth_map no_module (ticked unbounded) refl i b.modules
module_step b (dies j) i = nth_at no_module dead i j b.modules (inr refl)

-- a death takes its module's life, and leaves its node alone
module _ (b : Bench) (j i : ℕ) where
  pub dead_live : is_live i (step b (dies j)) ≡ cond (eqb i j) false (is_live i b)
  dead_live = ap (λ (m : Module). m.live) (module_step b (dies j) i) ∙ into (λ (m : Module). m.live) (eqb i j) refl refl

  pub dead_node : (module_at i (step b (dies j))).node ≡ (module_at i b).node
  dead_node = ap (λ (m : Module). m.node) (module_step b (dies j) i) ∙ either_way (λ (m : Module). m.node) (eqb i j) refl refl

-- a refused request, and giving out what is not next, change nothing
pub refused_asks : (b : Bench) (j : ℕ) (z : Stream) (p : List ℕ) → (T (is_accepted j z p b) → ⊥) → step b (asks j z p) ≡ b
unfolding step
refused_asks b j z p n = cond_false (is_accepted j z p b) (opened j z p b) b n

pub refused_gives : (b : Bench) (j : ℕ) (z : Stream) (c : ℕ) → (T (is_next j z c b) → ⊥) → step b (gives j z c) ≡ b
unfolding step
refused_gives b j z c n = cond_false (is_next j z c b) (gave j z c b) b n

-- ── what no event changes ──
pub decide_stream : (s z : Stream) → (s ≡ z) ⊎ (Same s z → ⊥)
decide_stream s z = go (eqb s.0 z.0) (eqb→eq s.0 z.0) (λ e. subst (λ n. T (eqb s.0 n)) e (eqb_refl s.0))
  where
    go : (t : Bool) → (T t → s.0 ≡ z.0) → (s.0 ≡ z.0 → T t) → (s ≡ z) ⊎ (Same s z → ⊥)
    go true f g = inl (same_stream_law (f tt))
    go false f g = inr g

-- the slot of stream s keeps its stream and settings; the node keeps what it keeps; no dead module lives, no count falls
pub record Moved (s : Stream) (m m' : Module) : Type 0 where
  pub live : T m'.live → T m.live
  pub kind : kind_of (slot_of s m'.node) ≡ kind_of (slot_of s m.node)
  pub kept : Kept m.node → Kept m'.node
  pub later : m.node.counter ≤ m'.node.counter

moved_not : (s : Stream) (m : Module) → Moved s m m
moved_not s m = record { live = λ t. t; kind = refl; kept = λ k. k; later = omega arith }

moved_if : (s : Stream) (m m' : Module) (t : Bool) → Moved s m m' → Moved s m (cond t m' m)
moved_if s m m' true h = h
moved_if s m m' false h = moved_not s m

ask_kind : (s z : Stream) (p : List ℕ) (n : Node) → kind_of (slot_of s (asking z p n).node) ≡ kind_of (slot_of s n)
ask_kind s z p n = go (decide_stream s z)
  where
    go : (s ≡ z) ⊎ (Same s z → ⊥) → kind_of (slot_of s (asking z p n).node) ≡ kind_of (slot_of s n)
    go (inl e) =
        subst (λ z. kind_of (slot_of s (asking z p n).node) ≡ kind_of (slot_of s n)) e
        (ap kind_of (ask_own s p n) ∙ either_way kind_of (accepts p (slot_of s n)) (requested_keeps n.counter p (slot_of s n)) refl)
    go (inr other) = ap kind_of (ask_other s z p n other)

pub hear_kind : (s : Stream) (id : BusId) (p : List ℕ) (n : Node) → kind_of (slot_of s (hearing id p n).node) ≡ kind_of (slot_of s n)
hear_kind s id p n = go (decide_stream s (stream_of id))
  where
    x : Slot
    x = slot_of (stream_of id) n

    go : (s ≡ stream_of id) ⊎ (Same s (stream_of id) → ⊥) → kind_of (slot_of s (hearing id p n).node) ≡ kind_of (slot_of s n)
    go (inl e) =
        subst (λ z. kind_of (slot_of z (hearing id p n).node) ≡ kind_of (slot_of z n)) (sym e)
        (ap kind_of (hear_own id p n) ∙ either_way kind_of (takes id (length p) p x) (heard_keeps n.counter (code_of id) p x) refl)
    go (inr other) = ap kind_of (hear_other s id p n other)

-- a slot that does not receive hears nothing
pub deaf : (s : Stream) (id : BusId) (bytes : List ℕ) (n : Node) → is_receiver (slot_of s n) ≡ false
    → slot_of s (hearing id bytes n).node ≡ slot_of s n
deaf s id bytes n e = go (decide_stream s (stream_of id))
  where
    go : (s ≡ stream_of id) ⊎ (Same s (stream_of id) → ⊥) → slot_of s (hearing id bytes n).node ≡ slot_of s n
    go (inr other) = hear_other s id bytes n other
    go (inl q) =
        subst (λ z. slot_of z (hearing id bytes n).node ≡ slot_of z n) (sym q)
        (hear_own id bytes n ∙ cond_false (takes id (length bytes) bytes x) (heard_by n.counter (code_of id) bytes x) x
        (λ t. contrary (taken_facts id bytes x (is_true (takes id (length bytes) bytes x) t)).own (subst (λ z. is_receiver (slot_of z n) ≡ false) q e)))
      where
        x : Slot
        x = slot_of (stream_of id) n

-- an abort is pending at receivers alone
pub pending_receives : (s : Stream) (n : Node) → Kept n → T (slot_of s n).pending.abort → T (is_receiver (slot_of s n))
pending_receives s n k t =
    let x = slot_of s n in
    let ks = slot_kept s n k in
    both x.used (receives x.settings) (used x.used refl) (so (ks.pending.abort_received (is_true x.pending.abort t)).0)
  where
    used : (u : Bool) → (slot_of s n).used ≡ u → T (slot_of s n).used
    used true e = so e
    used false e = absurd (subst (λ (y : Slot). T y.pending.abort) ((slot_kept s n k).free e) t)

next_kind : (s : Stream) (n : Node) → Kept n → T (is_done (giving n).reply) → kind_of (slot_of s (giving n).node) ≡ kind_of (slot_of s n)
next_kind s n k d = go (decide_stream s (stream_of (giving n).id))
  where
    go : (s ≡ stream_of (giving n).id) ⊎ (Same s (stream_of (giving n).id) → ⊥) → kind_of (slot_of s (giving n).node) ≡ kind_of (slot_of s n)
    go (inl e) =
        subst (λ z. kind_of (slot_of z (giving n).node) ≡ kind_of (slot_of z n)) (sym e)
        (ap kind_of (next_own n k d) ∙ given_out_keeps (code_of (giving n).id) (slot_of (stream_of (giving n).id) n))
    go (inr other) = ap kind_of (next_other s n other)

pub tick_kind : (s : Stream) (n : Node) → kind_of (slot_of s (ticking n).node) ≡ kind_of (slot_of s n)
tick_kind s n = ap kind_of (tick_slot_law s n) ∙ lapsed_keeps (n.counter + 1 - (slot_of s n).message.stamp) (slot_of s n)

moved_tick : (s : Stream) (m : Module) → Moved s m (ticked unbounded m)
moved_tick s m = go m.live (λ t. t)
  where
    n : Node
    n = m.node

    go : (l : Bool) → (T l → T m.live) → Moved s m (cond l (ticked_live m) m)
    go true h =
        record { live = λ t. t; kind = tick_kind s n; kept = kept_by (tick lent) n; later = omega (arith, tick_counter n) }
    go false h = moved_not s m

-- the guard of giving out
pub next_lives : (b : Bench) (j : ℕ) (z : Stream) (c : ℕ) → T (is_next j z c b) → T (is_live j b)
next_lives b j z c t =
    and_l (is_live j b) (is_done (next j b).reply) (and_l (is_live j b && is_done (next j b).reply) (same_stream (stream_of (next j b).id) z)
    (and_l (is_live j b && is_done (next j b).reply && same_stream (stream_of (next j b).id) z) (eqb (code_of (next j b).id) c) t))

-- what led to a request that was accepted
pub accepted_facts : (b : Bench) (j : ℕ) (z : Stream) (p : List ℕ) → T (is_accepted j z p b) → RequestFacts p (slot_at z j b)
accepted_facts b j z p t = asked_facts z p (module_at j b).node (and_r (is_live j b) (is_done (asked j z p b).reply) t)

pub next_done : (b : Bench) (j : ℕ) (z : Stream) (c : ℕ) → T (is_next j z c b)
    → T (is_done (next j b).reply) × (stream_of (next j b).id ≡ z) × (code_of (next j b).id ≡ c)
next_done b j z c t =
    let one = and_l (is_live j b && is_done (next j b).reply && same_stream (stream_of (next j b).id) z) (eqb (code_of (next j b).id) c) t in
    let two = and_l (is_live j b && is_done (next j b).reply) (same_stream (stream_of (next j b).id) z) one in (
      and_r (is_live j b) (is_done (next j b).reply) two,
      same_stream_law (eqb→eq (stream_of (next j b).id).0 z.0
          (and_r (is_live j b && is_done (next j b).reply) (same_stream (stream_of (next j b).id) z) one)),
      eqb→eq (code_of (next j b).id) c
          (and_r (is_live j b && is_done (next j b).reply && same_stream (stream_of (next j b).id) z) (eqb (code_of (next j b).id) c) t),
    )

pub moved_step : (s : Stream) (b : Bench) (e : Event) (i : ℕ) → Kept (module_at i b).node → Moved s (module_at i b) (module_at i (step b e))
moved_step s b e i k = subst (Moved s m) (sym (module_step b e i)) (go e)
  where
    m : Module
    m = module_at i b

    n : Node
    n = m.node

    go : (e : Event) → Moved s m (step_module b e i m)
    go (asks j z p) =
        moved_if s m (with_node (asking z p n).node m) (is_accepted j z p b && eqb i j)
        (record { live = λ t. t; kind = ask_kind s z p n; kept = kept_by (request z p) n; later = omega (arith, ask_counter z p n) })
    go (gives j z c) =
        cond_elim (Moved s m) (is_next j z c b && eqb i j)
        (λ t.
        let e = eqb→eq i j (and_r (is_next j z c b) (eqb i j) t) in
        let d = subst (λ q. T (is_done (next q b).reply)) (sym e) (next_done b j z c (and_l (is_next j z c b) (eqb i j) t)).0 in
        record { live = λ t. t; kind = next_kind s n k d; kept = kept_by (next_frame lent) n; later = omega (arith, next_counter n) })
        (λ t. moved_not s m)
    go (sends z q w to) =
        let f = frame_of w (book_of z q b) in
        moved_if s m (hears_frame f m) (m.live && named to i && not (eqb i (owner_of w (book_of z q b))))
        (record {
          live = λ t. t;
          kind = hear_kind s f.id f.payload n;
          kept = kept_by (hear f.id (length f.payload) f.payload lent) n;
          later = omega (arith, hear_counter f.id f.payload n);
        })
    go ticks = moved_tick s m
    go (dies j) = moved_if s m (dead m) (eqb i j) (record { live = λ t. absurd t; kind = refl; kept = λ k. k; later = omega arith })

-- ── events of other streams ──
pub record Untouched (s : Stream) (m m' : Module) : Type 0 where
  pub slot : slot_of s m'.node ≡ slot_of s m.node
  pub live : m'.live ≡ m.live
  pub log : on_stream s m'.log ≡ on_stream s m.log
  pub counter : m'.node.counter ≡ m.node.counter

untouched_if : (s : Stream) (m m' : Module) (t : Bool) → (T t → Untouched s m m') → Untouched s m (cond t m' m)
untouched_if s m m' true h = h tt
untouched_if s m m' false h = record { slot = refl; live = refl; log = refl; counter = refl }

-- the event concerns another stream; what is sent is a frame of another stream
abbrev pub Elsewhere : Stream → Bench → Event → Type 0
Elsewhere s b (asks j z p) = Same s z → ⊥
Elsewhere s b (gives j z c) = Same s z → ⊥
Elsewhere s b (sends z n w to) = (Same s z → ⊥) × (Same s (stream_of (frame_of w (book_of z n b)).id) → ⊥)
Elsewhere s b ticks = ⊥
Elsewhere s b (dies j) = ⊥

log_other : (s : Stream) (f : Frame) (m : Module) → (Same s (stream_of f.id) → ⊥)
    → on_stream s (onto (at_once f m) m.log) ≡ on_stream s m.log
log_other s f m other = go (eqb (length (hearing f.id f.payload m.node).bytes) 0)
  where
    d : Delivery
    d = record { at = m.node.counter; stream = stream_of f.id; payload = f.payload }

    go : (t : Bool) → on_stream s (onto (cond t [] (d ∷ [])) m.log) ≡ on_stream s m.log
    go true = refl
    go false =
        cond_false (same_stream (stream_of f.id) s) (d ∷ on_stream s m.log) (on_stream s m.log)
        (λ t. other (sym (eqb→eq (stream_of f.id).0 s.0 t)))

pub untouched_step : (s : Stream) (b : Bench) (e : Event) → Elsewhere s b e → (i : ℕ) → Untouched s (module_at i b) (module_at i (step b e))
untouched_step s b e els i = subst (Untouched s m) (sym (module_step b e i)) (go e els)
  where
    m : Module
    m = module_at i b

    n : Node
    n = m.node

    go : (e : Event) → Elsewhere s b e → Untouched s m (step_module b e i m)
    go (asks j z p) other =
        untouched_if s m (with_node (asking z p n).node m) (is_accepted j z p b && eqb i j)
        (λ t. record { slot = ask_other s z p n other; live = refl; log = refl; counter = ask_counter z p n })
    go (gives j z c) other =
        untouched_if s m (with_node (giving n).node m) (is_next j z c b && eqb i j)
        (λ t.
        let e = eqb→eq i j (and_r (is_next j z c b) (eqb i j) t) in
        let stream = subst (λ q. stream_of (next q b).id ≡ z) (sym e) (next_done b j z c (and_l (is_next j z c b) (eqb i j) t)).1 in
        record {
          slot = next_other s n (λ same. other (same ∙ ap (λ (y : Stream). y.0) stream));
          live = refl;
          log = refl;
          counter = next_counter n;
        })
    go (sends z q w to) (other, frame) =
        let f = frame_of w (book_of z q b) in
        untouched_if s m (hears_frame f m) (m.live && named to i && not (eqb i (owner_of w (book_of z q b))))
        (λ t. record {
          slot = hear_other s f.id f.payload n frame;
          live = refl;
          log = log_other s f m frame;
          counter = hear_counter f.id f.payload n;
        })
    go ticks els = absurd els
    go (dies j) els = absurd els

-- ── how many modules there are ──
pub length_at : {A : Type 0} (f : A → A) (j : ℕ) (l : List A) → length (at f j l) ≡ length l
length_at f j [] = refl
length_at f zero (x ∷ xs) = refl
length_at f (suc j) (x ∷ xs) = ap suc (length_at f j xs)

pub size_step : (b : Bench) (e : Event) → length (step b e).modules ≡ length b.modules
unfolding step
size_step b (asks j z p) =
    cond_elim (λ (x : Bench). length x.modules ≡ length b.modules) (is_accepted j z p b)
    (λ t. length_at (with_node (asked j z p b).node) j b.modules) (λ t. refl)
size_step b (gives j z c) =
    cond_elim (λ (x : Bench). length x.modules ≡ length b.modules) (is_next j z c b)
    (λ t. length_at (with_node (next j b).node) j b.modules) (λ t. refl)
size_step b (sends z n w to) = length_each (hears to (owner_of w (book_of z n b)) (frame_of w (book_of z n b))) 0 b.modules
size_step b ticks = length-map b.modules (ticked unbounded)
size_step b (dies j) = length_at dead j b.modules

-- ── moments ──
-- the count of each module
abbrev pub count_of : Bench → ℕ → ℕ
count_of b i = (module_at i b).node.counter

abbrev pub as_function : List ℕ → ℕ → ℕ
as_function t i = nth 0 i t

pub count_is : (i : ℕ) (ms : List Module) → as_function (counts ms) i ≡ (nth no_module i ms).node.counter
count_is i [] = refl
count_is zero (m ∷ ms) = refl
count_is (suc i) (m ∷ ms) = count_is i ms

-- no count of the first is above the second's
abbrev pub Later : List ℕ → List ℕ → Type 0
Later [] [] = Unit {0}
Later [] (y ∷ ys) = ⊥
Later (x ∷ xs) [] = ⊥
Later (x ∷ xs) (y ∷ ys) = (x ≤ y) × Later xs ys

later_all : (ms ms' : List Module) → length ms' ≡ length ms
    → ((i : ℕ) → (nth no_module i ms).node.counter ≤ (nth no_module i ms').node.counter) → Later (counts ms) (counts ms')
later_all [] [] e h = tt
later_all [] (m ∷ ms') e h = let z : ⊥ = omega arith in absurd z
later_all (m ∷ ms) [] e h = let z : ⊥ = omega arith in absurd z
later_all (m ∷ ms) (m' ∷ ms') e h = (h 0, later_all ms ms' (omega arith) (λ i. h (suc i)))

pub later_step : (b : Bench) (e : Event) → ((i : ℕ) → Kept (module_at i b).node) → Later (now b) (now (step b e))
later_step b e k = later_all b.modules (step b e).modules (size_step b e) (λ i. (moved_step (record { 0 = 0 }) b e i (k i)).later)
