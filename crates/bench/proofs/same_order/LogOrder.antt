-- In every module's log the deliveries stand in the order of their ticks, and those of one tick in the order of their streams; those of
-- streams that the module receives as plain frames, which are delivered when they are heard, are left out.
use Prim.Native.Nat.{ℕ, zero, suc, ◌+◌, ◌≤◌, ◌<◌}
use native.Mathlib.Omega.{arith}
use mathlib.Core.Path.{◌≡◌, refl, sym, subst, ◌∙◌}
use mathlib.Core.Logic.{◌⊎◌, inl, inr}
use mathlib.Core.Bool.{Bool, true, false, not, cond, ◌&&◌, false≢true}
use mathlib.Core.List.{List, [], ◌∷◌, map}
use lib.ListN.{length}
use lib.Dec.{T, eqb, eqb→eq, T_not}
use Rattle.wire.specs.declared.ids.Stream.{Stream}
use Rattle.wire.specs.declared.ids.BusId.{BusId}
use Rattle.wire.specs.Classes.{carries}
use Rattle.wire.specs.Identifiers.{stream_of, code_of}
use Rattle.wire.specs.Settings.{receives, is_plain}
use Rattle.node.specs.declared.slots.Slot.{Slot}
use Rattle.node.specs.declared.Node.{Node}
use Rattle.node.specs.Clock.{unbounded}
use Rattle.node.specs.Slots.{is_receiver}
use Rattle.node.specs.Nodes.{Outcome, slot_of}
use Rattle.node.specs.Hear.{delivered_at_once}
use Rattle.node.specs.Tick.{due_slots}
use Rattle.node.specs.Reachable.{All, Kept}
use Rattle.node.proofs.Cases.{by_case}
use Rattle.node.proofs.hear.Cases.{hear_cases}
use Rattle.node.proofs.slots.Streams.{Kind}
use Rattle.node.proofs.tick.Ascending.{Ascends, due_ascend}
use Rattle.one_stream.proofs.Truth.{cond_elim, both, so}
use Rattle.bench.specs.Bench.{Delivery, Frame, Module, Bench, module_at, book_of, frame_of, owner_of}
use Rattle.bench.specs.SetUp.{Plan, proper, start}
use Rattle.bench.specs.Events.{Event, asks, gives, sends, ticks, dies, lent, named, is_accepted, is_next, with_node, at_once, onto, deliveries, ticked, step, run}
use Rattle.bench.specs.Demands.{Has, Before}
use Rattle.bench.proofs.laws.SlotAfterCall.{hearing, hear_counter, ticking, tick_counter, asking, ask_counter, giving, next_counter, delivery_of}
use Rattle.bench.proofs.laws.ModuleAfterEvent.{hears_frame, step_module, module_step, moved_step}
use Rattle.bench.proofs.message.PlanGives.{start_kept}
use Rattle.bench.proofs.laws.AtStart.{log_at_start}

-- an earlier tick, or the same and a lower stream
abbrev pub Earlier : Delivery → Delivery → Type 0
Earlier d e = (d.at < e.at) ⊎ ((d.at ≡ e.at) × (d.stream.0 < e.stream.0))

-- of two deliveries one is not both earlier and later
not_both_ways : (d e : Delivery) → Earlier d e → Earlier e d → ⊥
not_both_ways d e (inl x) (inl y) = omega arith
not_both_ways d e (inl x) (inr (y, z)) = omega arith
not_both_ways d e (inr (x, w)) (inl y) = omega arith
not_both_ways d e (inr (x, w)) (inr (y, z)) = omega arith

-- the node receives the stream as plain frames
abbrev pub receives_plain : Stream → Node → Bool
receives_plain s n = is_receiver (slot_of s n) && is_plain (slot_of s n).settings

-- only plain carries code 3
plain_carries : (class : ℕ) → carries class 3 ≡ true → eqb class 0 ≡ true
unfolding carries
plain_carries zero e = refl
plain_carries (suc zero) e = absurd (false≢true e)
plain_carries (suc (suc zero)) e = absurd (false≢true e)
plain_carries (suc (suc (suc class))) e = absurd (false≢true e)

-- what hearing logs at once is of a stream that is received as plain frames
pub heard_plain : (f : Frame) (m : Module) → T (not (eqb (length (hearing f.id f.payload m.node).bytes) 0))
    → T (receives_plain (stream_of f.id) m.node)
unfolding delivered_at_once
heard_plain f m =
    by_case (λ (o : Outcome). T (not (eqb (length o.bytes) 0)) → T (receives_plain (stream_of id) m.node)) (λ r why t. absurd t)
    (λ h. plain (eqb (code_of id) 3) (eqb→eq (code_of id) 3) _ h.own h.fits) (hear_cases id (length p) p lent m.node).case
  where
    id : BusId
    id = f.id

    p : List ℕ
    p = f.payload

    x : Slot
    x = slot_of (stream_of id) m.node

    plain : (b : Bool) → (T b → code_of id ≡ 3) → (r : List ℕ) → is_receiver x ≡ true → carries x.settings.class (code_of id) ≡ true
        → T (not (eqb (length (cond b r [])) 0)) → T (receives_plain (stream_of id) m.node)
    plain true code r own fits t =
        both (is_receiver x) (is_plain x.settings) (so own)
        (so (plain_carries x.settings.class (subst (λ c. carries x.settings.class c ≡ true) (code tt) fits)))
    plain false code r own fits t = absurd t

-- nothing in the log is later than t
abbrev Until : ℕ → List Delivery → Type 0
Until t [] = Unit {0}
Until t (d ∷ ds) = (d.at ≤ t) × Until t ds

until_later : (t u : ℕ) → t ≤ u → (log : List Delivery) → Until t log → Until u log
until_later t u l [] h = tt
until_later t u l (d ∷ log) h = (omega (arith, h.0), until_later t u l log h.1)

all_slots : (P : Slot → Type 0) → ((x : Slot) → P x) → (xs : List Slot) → All P xs
all_slots P p [] = tt
all_slots P p (x ∷ xs) = (p x, all_slots P p xs)

until_onto : (t : ℕ) (xs : List Slot) (log : List Delivery) → Until t log → Until t (onto (map (delivery_of t) xs) log)
until_onto t [] log h = h
until_onto t (x ∷ xs) log h = until_onto t xs (delivery_of t x ∷ log) (omega arith, h)

-- ── logs in order, as far as a test of streams goes; the newest first ──
module _ (timed : Stream → Bool) where
  abbrev AllEarlier : Delivery → List Delivery → Type 0
  AllEarlier e [] = Unit {0}
  AllEarlier e (d ∷ ds) = (T (timed d.stream) → Earlier d e) × AllEarlier e ds

  abbrev pub InOrder : List Delivery → Type 0
  InOrder [] = Unit {0}
  InOrder (d ∷ ds) = (T (timed d.stream) → AllEarlier d ds) × InOrder ds

  earlier_in : (d e : Delivery) (log : List Delivery) → T (timed d.stream) → AllEarlier e log → Has d log → Earlier d e
  earlier_in d e [] t a h = absurd h
  earlier_in d e (x ∷ log) t a (inl q) =
      subst (λ (x : Delivery). (T (timed x.stream) → Earlier x e) → Earlier d e) (sym q) (λ f. f t) a.0
  earlier_in d e (x ∷ log) t a (inr h) = earlier_in d e log t a.1 h

  pub before_earlier : (d e : Delivery) (log : List Delivery) → InOrder log → T (timed d.stream) → T (timed e.stream) → Before d e log → Earlier d e
  before_earlier d e [] o s t b = absurd b
  before_earlier d e (x ∷ log) o s t (inl (q, h)) = earlier_in d e log s (subst (λ (x : Delivery). (T (timed x.stream) → AllEarlier x log)) q o.0 t) h
  before_earlier d e (x ∷ log) o s t (inr b) = before_earlier d e log o.1 s t b

  pub earlier_before : (d e : Delivery) (log : List Delivery) → InOrder log → T (timed d.stream) → T (timed e.stream) → Has d log → Has e log
      → Earlier d e → Before d e log
  earlier_before d e [] o s t h k q = absurd h
  earlier_before d e (x ∷ log) o s t (inl p) (inl r) q =
      let own : Earlier d d = subst (Earlier d) (sym r ∙ p) q in absurd (not_both_ways d d own own)
  earlier_before d e (x ∷ log) o s t (inl p) (inr k) q =
      absurd (not_both_ways d e q (earlier_in e d log t (subst (λ (x : Delivery). T (timed x.stream) → AllEarlier x log) p o.0 s) k))
  earlier_before d e (x ∷ log) o s t (inr h) (inl r) q = inl (r, h)
  earlier_before d e (x ∷ log) o s t (inr h) (inr k) q = inr (earlier_before d e log o.1 s t h k q)

  -- ── a tick ──
  all_earlier : (t : ℕ) (e : Delivery) → t < e.at → (log : List Delivery) → Until t log → AllEarlier e log
  all_earlier t e l [] h = tt
  all_earlier t e l (d ∷ log) h = (λ s. inl (omega (arith, h.0)), all_earlier t e l log h.1)

  -- slots of ascending stream deliver at t, after all that is in the log
  delivered_in_order : (t : ℕ) (xs : List Slot) (log : List Delivery) → Ascends xs → All (λ x. AllEarlier (delivery_of t x) log) xs → InOrder log
      → InOrder (onto (map (delivery_of t) xs) log)
  delivered_in_order t [] log a r o = o
  delivered_in_order t (x ∷ xs) log a r o =
      delivered_in_order t xs (delivery_of t x ∷ log) a.1 (later xs a.0 r.1) (λ s. r.0, o)
    where
      later : (ys : List Slot) → All (λ y. x.stream.0 < y.stream.0) ys → All (λ y. AllEarlier (delivery_of t y) log) ys
          → All (λ y. AllEarlier (delivery_of t y) (delivery_of t x ∷ log)) ys
      later [] b r = tt
      later (y ∷ ys) b r = ((λ s. inr (refl, b.0), r.0), later ys b.1 r.1)

  -- ── a module ──
  record Orderly (m : Module) : Type 0 where
    in_order : InOrder m.log
    until : Until m.node.counter m.log

  tick_in_order : (m : Module) → Kept m.node → Orderly m → Orderly (ticked unbounded m)
  tick_in_order m k o = cond_elim Orderly m.live (λ live. after) (λ dead. o)
    where
      n : Node
      n = m.node

      t : ℕ
      t = m.node.counter + 1

      dues : List Slot
      dues = due_slots unbounded t n.slots

      after : Orderly (record { node = (ticking n).node; live = m.live; log = onto (deliveries unbounded n) m.log })
      after =
          record {
            in_order =
                delivered_in_order t dues m.log (due_ascend unbounded t n.slots k.in_order)
                (all_slots _ (λ x. all_earlier n.counter (delivery_of t x) (omega arith) m.log o.until) dues) o.in_order;
            until =
                subst (λ c. Until c (onto (deliveries unbounded n) m.log)) (sym (tick_counter n))
                (until_onto t dues m.log (until_later n.counter t (omega arith) m.log o.until));
          }

  -- a call that logs nothing and does not move the counter
  same_log : (m : Module) (n : Node) → n.counter ≡ m.node.counter → Orderly m → Orderly (with_node n m)
  same_log m n e o = record { in_order = o.in_order; until = subst (λ c. Until c m.log) (sym e) o.until }

  hear_in_order : (f : Frame) (m : Module) → (T (timed (stream_of f.id)) → T (receives_plain (stream_of f.id) m.node) → ⊥) → Orderly m
      → Orderly (hears_frame f m)
  hear_in_order f m apart o =
      record {
        in_order =
            cond_elim (λ ds. InOrder (onto ds m.log)) (eqb (length bytes) 0) (λ t. o.in_order)
            (λ t. (λ s. absurd (apart s (heard_plain f m t)), o.in_order));
        until =
            subst (λ c. Until c (onto (at_once f m) m.log)) (sym (hear_counter f.id f.payload m.node))
            (cond_elim (λ ds. Until m.node.counter (onto ds m.log)) (eqb (length bytes) 0) (λ t. o.until) (λ t. (omega arith, o.until)));
      }
    where
      bytes : List ℕ
      bytes = (hearing f.id f.payload m.node).bytes

-- ── every module of a bench, whatever happens ──
record Keeping (timed : Stream → Bool) (m : Module) : Type 0 where
  orderly : Orderly timed m
  kept : Kept m.node
  apart : (z : Stream) → T (timed z) → T (receives_plain z m.node) → ⊥

module _ (timed : Stream → Bool) where
  keeping_step : (b : Bench) (e : Event) (i : ℕ) → Keeping timed (module_at i b) → Keeping timed (module_at i (step b e))
  keeping_step b e i k =
      record {
        orderly = subst (Orderly timed) (sym (module_step b e i)) (go e);
        kept = (moved_step (record { 0 = 0 }) b e i k.kept).kept k.kept;
        apart = λ z t r.
            k.apart z t
            (subst (λ (kind : Kind). T ((kind.used && receives kind.settings) && is_plain kind.settings)) (moved_step z b e i k.kept).kind r);
      }
    where
      m : Module
      m = module_at i b

      if : (t : Bool) (m' : Module) → Orderly timed m' → Orderly timed (cond t m' m)
      if true m' o = o
      if false m' o = k.orderly

      go : (e : Event) → Orderly timed (step_module b e i m)
      go (asks j z p) = if (is_accepted j z p b && eqb i j) _ (same_log timed m (asking z p m.node).node (ask_counter z p m.node) k.orderly)
      go (gives j z c) = if (is_next j z c b && eqb i j) _ (same_log timed m (giving m.node).node (next_counter m.node) k.orderly)
      go (sends z n w to) =
          let f = frame_of w (book_of z n b) in
          if (m.live && named to i && not (eqb i (owner_of w (book_of z n b)))) _ (hear_in_order timed f m (k.apart (stream_of f.id)) k.orderly)
      go ticks = tick_in_order timed m k.kept k.orderly
      go (dies j) = if (eqb i j) _ (record { in_order = k.orderly.in_order; until = k.orderly.until })

  keeping_run : (h : List Event) (b : Bench) (i : ℕ) → Keeping timed (module_at i b) → Keeping timed (module_at i (run b h))
  keeping_run [] b i k = k
  keeping_run (e ∷ es) b i k = keeping_run es (step b e) i (keeping_step b e i k)

-- the streams that a module does not receive as plain frames
abbrev pub timed_at : Plan → ℕ → Stream → Bool
timed_at plan i s = not (receives_plain s (module_at i (start plan)).node)

pub in_order : (plan : Plan) → T (proper plan) → (h : List Event) (i : ℕ) → InOrder (timed_at plan i) (module_at i (run (start plan) h)).log
in_order plan ok h i =
    (keeping_run (timed_at plan i) h (start plan) i
    (record {
      orderly = record { in_order = rw (log_at_start plan i) tt; until = rw (log_at_start plan i) tt };
      kept = start_kept plan ok (record { 0 = 0 }) i;
      apart = λ z t r. T_not (receives_plain z (module_at i (start plan)).node) t r;
    })).orderly.in_order

-- THE ORDER OF A LOG, for every history, whether it keeps the rules or not
pub log_order : (plan : Plan) → T (proper plan) → (h : List Event) (i : ℕ) (d e : Delivery) → T (timed_at plan i d.stream) → T (timed_at plan i e.stream)
    → Before d e (module_at i (run (start plan) h)).log → Earlier d e
log_order plan ok h i d e s t b = before_earlier (timed_at plan i) d e (module_at i (run (start plan) h)).log (in_order plan ok h i) s t b
