-- At which tick each module, live or dead, delivers a 2M message: where the data had a full sending, dd + 1 ticks after its last one.
use Prim.Native.Nat.{ℕ, ◌+◌, ◌-◌}
use native.Mathlib.Omega.{arith}
use mathlib.Core.Path.{◌≡◌, refl, ap, sym, subst, ◌∙◌}
use mathlib.Core.Logic.{◌⊎◌, inl, inr}
use mathlib.Core.Bool.{true, false, not, ◌&&◌}
use mathlib.Core.List.{List, [], ◌∷◌, ◌++◌, map}
use lib.ListN.{length}
use lib.Dec.{T, eqb, eqb→eq, T_not}
use Rattle.wire.specs.declared.ids.Stream.{Stream}
use Rattle.wire.specs.Identifiers.{stream_of}
use Rattle.wire.specs.Settings.{receives, is_plain}
use Rattle.node.specs.declared.slots.Slot.{Slot}
use Rattle.node.specs.Clock.{unbounded}
use Rattle.node.specs.Slots.{is_receiver}
use Rattle.node.specs.Nodes.{slot_of}
use Rattle.node.specs.Tick.{due}
use Rattle.node.specs.Reachable.{Kept}
use Rattle.node.proofs.Choices.{either_way}
use Rattle.node.proofs.slots.Streams.{Kind}
use Rattle.node.proofs.tick.Tests.{due_tells}
use Rattle.one_stream.proofs.Truth.{cond_elim, cond_false, and_l, and_r, both, is_true, so, decide}
use Rattle.one_stream.proofs.TwoMWhy.{SlotOk, untouched, gave_abort, heard_abort, delivered}
use Rattle.one_stream.proofs.TwoMEnd.{slots_of}
use Rattle.bench.specs.Lists.{nth}
use Rattle.bench.specs.Bench.{Module, Bench, Book, Frame, Moment}
use Rattle.bench.specs.Bench.{same_stream, module_at, is_live, slot_at, now, book_of, no_book, frame_of, owner_of}
use Rattle.bench.specs.Events.{Event, asks, gives, sends, ticks, dies, named, is_accepted, is_next, onto, deliveries}
use Rattle.bench.specs.Events.{step, run}
use Rattle.bench.specs.Rules.{may, keeps_so_far}
use Rattle.bench.specs.Demands.{live_receiver, accepts, none_accepted}
use Rattle.bench.proofs.laws.SlotAfterCall.{same_stream_law, hearing, ticking, tick_delivers, delivery_of, on_stream}
use Rattle.bench.proofs.laws.ModuleAfterEvent.{hears_frame, step_module, module_step, moved_step, count_of}
use Rattle.bench.proofs.laws.ModuleAfterEvent.{count_is}
use Rattle.bench.proofs.laws.TicksCounted.{live_back, count_step}
use Rattle.bench.proofs.message.ModuleSeen.{to_note, notes, view}
use Rattle.bench.proofs.message.SeenAfterOwnEvent.{Valid, valid_step, strand_of}
use Rattle.bench.proofs.message.MessageKept.{Track}
use Rattle.bench.proofs.message.ThroughHistory.{track_step}
use Rattle.bench.proofs.message.NewestData.{data_of, confirmation_of, last_again, After, no_data, more_data, after_event}
use Rattle.bench.proofs.two_message.TwoMessageOnBench.{two_message}
use Rattle.bench.proofs.same_order.LogOrder.{heard_plain}
use Rattle.one_stream.specs.Sendings as OS
use Rattle.one_stream.specs.Classes as OC
use Rattle.one_stream.specs.TwoM as OM

-- ── what a log gains of a stream it gains at a live receiver ──
log_step : (s : Stream) (b : Bench) (e : Event) (i : ℕ) → Kept (module_at i b).node
    → (on_stream s (module_at i (step b e)).log ≡ on_stream s (module_at i b).log) ⊎ T (live_receiver s (step b e) i)
log_step s b e i k = stay_receiver (subst Gains (sym (module_step b e i)) (go e))
  where
    m : Module
    m = module_at i b

    x : Slot
    x = slot_of s m.node

    Gains : Module → Type 0
    Gains m' = (on_stream s m'.log ≡ on_stream s m.log) ⊎ (T m'.live × T (is_receiver x))

    stay_receiver : Gains (module_at i (step b e)) → (on_stream s (module_at i (step b e)).log ≡ on_stream s m.log) ⊎ T (live_receiver s (step b e) i)
    stay_receiver (inl same) = inl same
    stay_receiver (inr (live, r)) =
        inr (both (is_live i (step b e)) (is_receiver (slot_at s i (step b e))) live
        (subst (λ (kind : Kind). T (kind.used && receives kind.settings)) (sym (moved_step s b e i k).kind) r))

    heard : (f : Frame) → T m.live → T (is_receiver x) ⊎ (T (is_receiver x) → ⊥) → Gains (hears_frame f m)
    heard f live (inl r) = inr (live, r)
    heard f live (inr not_mine) =
        inl (cond_elim (λ ds. on_stream s (onto ds m.log) ≡ on_stream s m.log) (eqb (length (hearing f.id f.payload m.node).bytes) 0)
        (λ t. refl)
        (λ t. cond_false (same_stream z s) _ _ (λ own.
        not_mine (subst (λ z. T (is_receiver (slot_of z m.node))) (same_stream_law (eqb→eq z.0 s.0 own))
        (and_l (is_receiver (slot_of z m.node)) (is_plain (slot_of z m.node).settings) (heard_plain f m t))))))
      where
        z : Stream
        z = stream_of f.id

    due_here : (age : ℕ) → T (due age x) → T (is_receiver x)
    due_here age t = let d = (due_tells age x).says (is_true _ t) in both x.used (receives x.settings) (so d.used) (so d.receiver)

    ticks_on : T m.live → T (is_receiver x) ⊎ (T (is_receiver x) → ⊥)
        → Gains (record { node = (ticking m.node).node; live = m.live; log = onto (deliveries unbounded m.node) m.log })
    ticks_on live (inl r) = inr (live, r)
    ticks_on live (inr not_mine) =
        let age = m.node.counter + 1 - x.message.stamp in
        inl (tick_delivers s m.node k m.log
        ∙ cond_false (due age x) (delivery_of (m.node.counter + 1) x ∷ on_stream s m.log) (on_stream s m.log) (λ t. not_mine (due_here age t)))

    go : (e : Event) → Gains (step_module b e i m)
    go (asks j z p) = inl (either_way (λ (m : Module). on_stream s m.log) (is_accepted j z p b && eqb i j) refl refl)
    go (gives j z c) = inl (either_way (λ (m : Module). on_stream s m.log) (is_next j z c b && eqb i j) refl refl)
    go (sends z n w to) =
        cond_elim Gains (m.live && named to i && not (eqb i (owner_of w (book_of z n b))))
        (λ t. heard (frame_of w (book_of z n b)) (and_l m.live (named to i) (and_l (m.live && named to i) _ t)) (decide (is_receiver x))) (λ t. inl refl)
    go ticks = cond_elim Gains m.live (λ live. ticks_on live (decide (is_receiver x))) (λ t. inl refl)
    go (dies j) = inl (either_way (λ (m : Module). on_stream s m.log) (eqb i j) refl refl)

-- ── what each module has delivered of the message ──
module _ (D : OS.Delays) (s : Stream) (me : ℕ) (p : List ℕ) (base : ℕ → List OC.Note) where
  pub data Told (k : Book) (i : ℕ) (log : List OC.Note) : Type 0 where
    not_yet : log ≡ base i → Told k i log
    told : (t : ℕ) → log ≡ record { at = t; bytes = p } ∷ base i → OS.Some (confirmation_of k)
        → (OS.Full (data_of k) → t ≡ OS.last (data_of k) me + D.dd + 1) → Told k i log

  -- live modules count alike, also when the data was sent last
  pub record Timed (b : Bench) : Type 0 where
    pub even : (i j : ℕ) → T (is_live i b) → T (is_live j b) → count_of b i ≡ count_of b j
    pub last : OS.Some (data_of (book_of s 0 b)) → (i : ℕ) → T (is_live i b) → OS.last (data_of (book_of s 0 b)) i ≡ OS.last (data_of (book_of s 0 b)) me
    pub logs : (i : ℕ) → Told (book_of s 0 b) i (notes s (module_at i b).log)

  told_later : (b : Bench) (k k' : Book) (i : ℕ) {log log' : List OC.Note} → After me b k k' → log' ≡ log → Told k i log → Told k' i log'
  told_later b k k' i a e (not_yet q) = not_yet (e ∙ q)
  told_later b k k' i (no_data d c) e (told t q conf when) =
      told t (e ∙ q) (c conf) (λ full. when (subst OS.Full d full) ∙ ap (λ (d : OS.Sent). OS.last d me + D.dd + 1) (sym d))
  told_later b k k' i (more_data nc l full d) e (told t q conf when) = absurd (nc conf)

  module _ (fit : OM.Fit D) (since : Moment) where
    -- at a live receiver the one-stream invariant says it
    told_live : (b : Bench) (x : Track (two_message D fit) s me since p base b) (i : ℕ) → T (live_receiver s b i)
        → (OS.Some (data_of x.k) → OS.last (data_of x.k) i ≡ OS.last (data_of x.k) me) → Told x.k i (notes s (module_at i b).log)
    unfolding view two_message
    told_live b x i live last =
        go (w.receiver i).slot ((slots_of D fit (strand_of (two_message D fit) s me p b x.k x.hold) x.a base x.inv).each i live)
      where
        w : OC.State (OM.two_m D)
        w = (strand_of (two_message D fit) s me p b x.k x.hold).state

        go : (y : OM.Slot) → SlotOk D w x.a i y (w.receiver i).frames (notes s (module_at i b).log) (base i) → Told x.k i (notes s (module_at i b).log)
        go OM.empty (untouched d c q) = not_yet q
        go OM.empty (gave_abort f q) = not_yet q
        go OM.empty (heard_abort j f c q) = not_yet q
        go OM.empty (delivered t st late conf a f q) = told (t + D.dd + 1) q conf (λ full. omega (arith, st.exact full, last st.some))
        go (OM.held t false y) (h, young, c) = not_yet h.no_delivery
        go (OM.held t true y) (h, young, c) = not_yet h.no_delivery

    timed_step : (b : Bench) → Valid 2 D s me b → Track (two_message D fit) s me since p base b → (e : Event) → (T (accepts s b e) → ⊥) → T (may b e)
        → Track (two_message D fit) s me since p base (step b e) → Timed b → Timed (step b e)
    timed_step b v x e shut m x' z = record { even = even; last = last after; logs = λ i. logs i (log_step s b e i (v.nodes i)) }
      where
        k : Book
        k = book_of s 0 b

        k' : Book
        k' = book_of s 0 (step b e)

        after : After me b k k'
        after = after_event (two_message D fit) s me since p base b v x e shut m

        even : (i j : ℕ) → T (is_live i (step b e)) → T (is_live j (step b e)) → count_of (step b e) i ≡ count_of (step b e) j
        even i j l r = omega (arith, count_step b e i l, count_step b e j r, z.even i j (live_back b e i l) (live_back b e j r))

        last : After me b k k' → OS.Some (data_of k') → (i : ℕ) → T (is_live i (step b e)) → OS.last (data_of k') i ≡ OS.last (data_of k') me
        last (no_data d c) some i l =
            subst (λ (d : OS.Sent). OS.last d i ≡ OS.last d me) (sym d) (z.last (subst OS.Some d some) i (live_back b e i l))
        last (more_data nc up full d) some i l =
            subst (λ (t : ℕ → ℕ). t i ≡ t me) (sym (ap OS.last d ∙ last_again (now b) full k.payload_frame.sendings))
            (count_is i b.modules ∙ (z.even i me (live_back b e i l) up ∙ sym (count_is me b.modules)))

        newest : x'.k ≡ k'
        newest = sym (ap (nth no_book 0) x'.books)

        logs : (i : ℕ) → (on_stream s (module_at i (step b e)).log ≡ on_stream s (module_at i b).log) ⊎ T (live_receiver s (step b e) i)
            → Told k' i (notes s (module_at i (step b e)).log)
        logs i (inl same) = told_later b k k' i after (ap (map to_note) same) (z.logs i)
        logs i (inr live) =
            subst (λ k. Told k i (notes s (module_at i (step b e)).log)) newest
            (told_live (step b e) x' i live
            (subst (λ k. OS.Some (data_of k) → OS.last (data_of k) i ≡ OS.last (data_of k) me) (sym newest)
            (λ some. last after some i (and_l (is_live i (step b e)) (is_receiver (slot_at s i (step b e))) live))))

    -- while no request of the stream is accepted
    pub timed_run : (b : Bench) → Valid 2 D s me b → Track (two_message D fit) s me since p base b → (h r : List Event) → T (keeps_so_far b (h ++ r))
        → T (none_accepted s b h)
        → Timed b → Timed (run b h)
    timed_run b v x [] r k none z = z
    timed_run b v x (e ∷ es) r k none z =
        let m = and_l (may b e) (keeps_so_far (step b e) (es ++ r)) k in
        let shut = T_not (accepts s b e) (and_l (not (accepts s b e)) (none_accepted s (step b e) es) none) in
        let x' = track_step (two_message D fit) s me since p base b v x e shut m in
        timed_run (step b e) (valid_step e v) x' es r (and_r (may b e) (keeps_so_far (step b e) (es ++ r)) k)
        (and_r (not (accepts s b e)) (none_accepted s (step b e) es) none) (timed_step b v x e shut m x' z)
