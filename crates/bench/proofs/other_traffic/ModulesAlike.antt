-- Two modules that look alike to a stream still do after the same call, and what became pending in lists of such modules is entered alike.
use Prim.Native.Nat.{ℕ, suc, ◌+◌, ◌-◌}
use native.Mathlib.Omega.{arith}
use mathlib.Core.Path.{◌≡◌, refl, ap, sym, subst, ◌∙◌, fun_ext}
use mathlib.Core.Bool.{Bool, true, false, not, cond, ◌&&◌}
use mathlib.Core.List.{List, [], ◌∷◌, map}
use lib.ListN.{length}
use lib.Dec.{T, eqb}
use Rattle.wire.specs.declared.ids.Stream.{Stream}
use Rattle.wire.specs.Identifiers.{stream_of, code_of}
use Rattle.node.specs.declared.slots.Slot.{Slot}
use Rattle.node.specs.declared.Node.{Node}
use Rattle.node.specs.Clock.{unbounded}
use Rattle.node.specs.Nodes.{slot_of}
use Rattle.node.specs.Reachable.{Kept}
use Rattle.node.specs.Hear.{heard_by, delivered_at_once}
use Rattle.node.specs.Request.{requested}
use Rattle.node.specs.Tick.{due, tick_slot}
use Rattle.bench.specs.Lists.{nth}
use Rattle.bench.specs.Bench.{Module, Book, Frame, Moment, no_module, counts, pending_since}
use Rattle.bench.specs.Events.{with_node, at_once, onto, deliveries, ticked, dead, became_pending, enter}
use Rattle.bench.proofs.laws.SlotAfterCall.{takes, hearing, hear_own, hear_counter, ticking, tick_slot_law, tick_counter, tick_delivers, delivery_of}
use Rattle.bench.proofs.laws.SlotAfterCall.{asking, accepts, ask_own, ask_counter, on_stream, onto_stream}
use Rattle.bench.proofs.laws.ModuleAfterEvent.{hears_frame, Untouched}
use Rattle.bench.proofs.laws.BooksAfterEvent.{entering}
use Rattle.bench.proofs.laws.RecordsAreDeliveries.{hear_writes}

-- ── two modules that look alike to a stream: what one event makes of both ──
module _ (s : Stream) (m m' : Module) (u : Untouched s m m') where
  -- what is read of the slot and the counter
  reads : {A : Type 0} (F : ℕ → Slot → A) → F m'.node.counter (slot_of s m'.node) ≡ F m.node.counter (slot_of s m.node)
  reads F = ap (λ c. F c (slot_of s m'.node)) u.counter ∙ ap (F m.node.counter) u.slot

  pub both_if : (t t' : Bool) {n n' : Module} → t' ≡ t → (T t → Untouched s n n') → Untouched s (cond t n m) (cond t' n' m')
  both_if t t' {n} {n'} e v = subst (λ g. Untouched s (cond t n m) (cond g n' m')) (sym e) (go t v)
    where
      go : (t : Bool) → (T t → Untouched s n n') → Untouched s (cond t n m) (cond t n' m')
      go true v = v tt
      go false v = u

  pub both_ask : (p : List ℕ) → Untouched s (with_node (asking s p m.node).node m) (with_node (asking s p m'.node).node m')
  both_ask p =
      record {
        slot = ask_own s p m'.node ∙ (reads (λ c x. cond (accepts p x) (requested c p x) x) ∙ sym (ask_own s p m.node));
        live = u.live;
        log = u.log;
        counter = ask_counter s p m'.node ∙ (u.counter ∙ sym (ask_counter s p m.node));
      }

  pub both_tick : Kept m.node → Kept m'.node → Untouched s (ticked unbounded m) (ticked unbounded m')
  both_tick k k' = both_if m.live m'.live u.live (λ t. after)
    where
      n : Node
      n = m.node

      n' : Node
      n' = m'.node

      x : Slot
      x = slot_of s n

      after : Untouched s (record { node = (ticking n).node; live = m.live; log = onto (deliveries unbounded n) m.log })
          (record { node = (ticking n').node; live = m'.live; log = onto (deliveries unbounded n') m'.log })
      after =
          record {
            slot = tick_slot_law s n' ∙ (reads (λ c. tick_slot unbounded (c + 1)) ∙ sym (tick_slot_law s n));
            live = u.live;
            log =
                tick_delivers s n' k' m'.log
                ∙ (reads (λ c x. cond (due (c + 1 - x.message.stamp) x) (delivery_of (c + 1) x ∷ on_stream s m'.log) (on_stream s m'.log))
                ∙ (ap (λ log. cond (due (n.counter + 1 - x.message.stamp) x) (delivery_of (n.counter + 1) x ∷ log) log) u.log
                ∙ sym (tick_delivers s n k m.log)));
            counter = tick_counter n' ∙ (ap (λ c. c + 1) u.counter ∙ sym (tick_counter n));
          }

  pub both_dead : Untouched s (dead m) (dead m')
  both_dead = record { slot = u.slot; live = refl; log = u.log; counter = u.counter }

-- a frame of the stream
module _ (f : Frame) where
  abbrev z : Stream
  z = stream_of f.id

  same_at_once : (m m' : Module) → Untouched z m m' → at_once f m' ≡ at_once f m
  same_at_once m m' u =
      ap (λ bytes. cond (eqb (length bytes) 0) [] (record { at = m'.node.counter; stream = z; payload = f.payload } ∷ [])) bytes
      ∙ ap (λ t. cond (eqb (length (heard m)) 0) [] (record { at = t; stream = z; payload = f.payload } ∷ [])) u.counter
    where
      heard : Module → List ℕ
      heard m = (hearing f.id f.payload m.node).bytes

      bytes : heard m' ≡ heard m
      bytes =
          hear_writes f.id f.payload m'.node
          ∙ (reads z m m' u (λ c x. cond (takes f.id (length f.payload) f.payload x) (delivered_at_once f.id f.payload) [])
          ∙ sym (hear_writes f.id f.payload m.node))

  both_hear_own : (m m' : Module) → Untouched z m m' → Untouched z (hears_frame f m) (hears_frame f m')
  both_hear_own m m' u =
      record {
        slot =
            hear_own f.id f.payload m'.node
            ∙ (reads z m m' u (λ c x. cond (takes f.id (length f.payload) f.payload x) (heard_by c (code_of f.id) f.payload x) x)
            ∙ sym (hear_own f.id f.payload m.node));
        live = u.live;
        log =
            onto_stream z (at_once f m') m'.log
            ∙ (ap (λ ds. onto (on_stream z ds) (on_stream z m'.log)) (same_at_once m m' u)
            ∙ (ap (onto (on_stream z (at_once f m))) u.log
            ∙ sym (onto_stream z (at_once f m) m.log)));
        counter = hear_counter f.id f.payload m'.node ∙ (u.counter ∙ sym (hear_counter f.id f.payload m.node));
      }

  pub both_hear : (s : Stream) → z ≡ s → (m m' : Module) → Untouched s m m' → Untouched s (hears_frame f m) (hears_frame f m')
  both_hear s e m m' = subst (λ s. Untouched s m m' → Untouched s (hears_frame f m) (hears_frame f m')) e (both_hear_own m m')

-- ── lists of modules that look alike ──
abbrev pub AllAlike : Stream → List Module → List Module → Type 0
AllAlike s ms ms' = (i : ℕ) → Untouched s (nth no_module i ms) (nth no_module i ms')

pub same_counts : (s : Stream) (ms ms' : List Module) → length ms' ≡ length ms → AllAlike s ms ms' → counts ms' ≡ counts ms
same_counts s [] [] l u = refl
same_counts s [] (m' ∷ ms') l u = let z : ⊥ = omega arith in absurd z
same_counts s (m ∷ ms) [] l u = let z : ⊥ = omega arith in absurd z
same_counts s (m ∷ ms) (m' ∷ ms') l u =
    ap (λ c. c ∷ counts ms') (u 0).counter ∙ ap (λ cs. m.node.counter ∷ cs) (same_counts s ms ms' (omega arith) (λ i. u (suc i)))

pub no_aborts : (ms ms' : List Module) → length ms' ≡ length ms → ◌≡◌ {A = List (List Frame)} (map (λ (m : Module). []) ms') (map (λ (m : Module). []) ms)
no_aborts [] [] l = refl
no_aborts [] (m' ∷ ms') l = let z : ⊥ = omega arith in absurd z
no_aborts (m ∷ ms) [] l = let z : ⊥ = omega arith in absurd z
no_aborts (m ∷ ms) (m' ∷ ms') l = ap (λ rows. [] ∷ rows) (no_aborts ms ms' (omega arith))

same_pending : (s : Stream) (m n m' n' : Module) → Untouched s m m' → Untouched s n n' → became_pending s m' n' ≡ became_pending s m n
same_pending s m n m' n' u v =
    ap (λ (y : Slot). y.pending.abort && not (slot_of s m'.node).pending.abort) v.slot
    ∙ ap (λ (y : Slot). (slot_of s n.node).pending.abort && not y.pending.abort) u.slot

-- what became pending is entered alike
same_enter : (t : Moment) (s : Stream) (ms ns ms' ns' : List Module) (rows : List (List Frame)) → length ms' ≡ length ms → length ns' ≡ length ns
    → AllAlike s ms ms' → AllAlike s ns ns' → enter t s ms' ns' rows ≡ enter t s ms ns rows
same_enter t s [] ns [] ns' rows l k u v = refl
same_enter t s [] ns (m' ∷ ms') ns' rows l k u v = let z : ⊥ = omega arith in absurd z
same_enter t s (m ∷ ms) ns [] ns' rows l k u v = let z : ⊥ = omega arith in absurd z
same_enter t s (m ∷ ms) [] (m' ∷ ms') [] rows l k u v = refl
same_enter t s (m ∷ ms) [] (m' ∷ ms') (n' ∷ ns') rows l k u v = let z : ⊥ = omega arith in absurd z
same_enter t s (m ∷ ms) (n ∷ ns) (m' ∷ ms') [] rows l k u v = let z : ⊥ = omega arith in absurd z
same_enter t s (m ∷ ms) (n ∷ ns) (m' ∷ ms') (n' ∷ ns') [] l k u v = refl
same_enter t s (m ∷ ms) (n ∷ ns) (m' ∷ ms') (n' ∷ ns') (row ∷ rows) l k u v =
    ap (λ new. cond new (pending_since t ∷ row) row ∷ enter t s ms' ns' rows) (same_pending s m n m' n' (u 0) (v 0))
    ∙ ap (λ rest. cond (became_pending s m n) (pending_since t ∷ row) row ∷ rest)
    (same_enter t s ms ns ms' ns' rows (omega arith) (omega arith) (λ i. u (suc i)) (λ i. v (suc i)))

pub same_entering : (s : Stream) (ms ns ms' ns' : List Module) → length ms' ≡ length ms → length ns' ≡ length ns
    → AllAlike s ms ms' → AllAlike s ns ns' → entering s ms' ns' ≡ entering s ms ns
same_entering s ms ns ms' ns' l k u v = fun_ext λ (book : Book).
    ap (λ t. record { sender = book.sender; payload_frame = book.payload_frame; confirmation = book.confirmation; aborts = enter t s ms' ns' book.aborts })
    (same_counts s ns ns' k v)
    ∙ ap (λ rows. record { sender = book.sender; payload_frame = book.payload_frame; confirmation = book.confirmation; aborts = rows })
    (same_enter (counts ns) s ms ns ms' ns' book.aborts l k u v)
