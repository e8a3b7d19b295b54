-- A stream of a bench through any history: before its first message, and from each accepted request on.
use Prim.Native.Nat.{ℕ, zero, suc, ◌+◌, ◌-◌}
use mathlib.Core.Path.{◌≡◌, refl, ap, sym, subst, ◌∙◌}
use mathlib.Core.Logic.{◌⊎◌, inl, inr}
use mathlib.Core.Bool.{false}
use mathlib.Core.List.{List, [], ◌∷◌, ◌++◌}
use lib.Dec.{T, eqb_refl, eqb→eq}
use Rattle.wire.specs.declared.ids.Stream.{Stream}
use Rattle.node.specs.declared.slots.Slot.{Slot}
use Rattle.node.specs.declared.Node.{Node}
use Rattle.wire.specs.Identifiers.{code_of}
use Rattle.node.specs.Nodes.{slot_of}
use Rattle.node.specs.Slots.{is_receiver}
use Rattle.node.specs.Tick.{late, due, hold_over, lapsed}
use Rattle.node.proofs.Choices.{either_way, contrary, refuted}
use Rattle.node.proofs.tick.Tests.{late_tells, due_tells, hold_over_tells}
use Rattle.one_stream.proofs.Chain.{fresh_inv}
use Rattle.one_stream.proofs.Truth.{cond_elim, and_l, and_r, both, decide, not_so}
use Rattle.bench.specs.Bench.{Module, Bench, Book, no_book, module_at, is_live, slot_at, books_of, book_of, now, frame_of, Which, Moment, same_stream}
use Rattle.bench.specs.Events.{Event, asks, gives, sends, ticks, dies, step, run, is_accepted, is_next, on_newest, To}
use Rattle.bench.specs.Lists.{nth}
use Rattle.bench.specs.Rules.{may, keeps_so_far}
use Rattle.bench.specs.Demands.{accepts}
use Rattle.bench.proofs.laws.SlotAfterCall.{Same, same_stream_law, tick_slot_law, giving, IsPending, next_pending}
use Rattle.bench.proofs.laws.ModuleAfterEvent.{module_step, dead_node, refused_asks, decide_stream, next_done, Elsewhere, untouched_step, count_of}
use Rattle.bench.proofs.laws.BooksAfterEvent.{with_aborts, entering, books_ticked, books_dead, books_asked_other, books_given_other}
use Rattle.bench.proofs.laws.BooksAfterEvent.{books_sent_other}
use Rattle.bench.proofs.laws.FramesOfBooks.{Labels, no_frame_law, labelled}
use Rattle.bench.proofs.message.ClassOnBench.{may_send, ClassOnBench}
use Rattle.bench.proofs.message.ModuleSeen.{view}
use Rattle.bench.proofs.message.StreamSeen.{enter_none}
use Rattle.bench.proofs.message.SeenAfterOwnEvent.{Valid, valid_step, receivers_of}
use Rattle.bench.proofs.message.RulesSeen.{was_given}
use Rattle.bench.proofs.message.MessageKept.{Track, track_else, track_send, track_death, track_tick}
use Rattle.bench.proofs.message.KeptByGivingOut.{track_give}
use Rattle.bench.proofs.message.RequestOpens.{logs_of, open_track, next_track}
use Rattle.one_stream.specs.Sendings as OS
use Rattle.one_stream.specs.Classes as OC
use Rattle.one_stream.proofs.Histories as OH
use Rattle.bench.proofs.laws.SlotAfterCall as Laws

-- ── events of other streams ──
-- the books stay, since no abort of this stream becomes pending
pub else_books : (s : Stream) (b : Bench) (e : Event) → Elsewhere s b e → books_of s (step b e) ≡ books_of s b
else_books s b (asks j z p) other = books_asked_other s b j z p other
else_books s b (gives j z c) other = books_given_other s b j z c other
else_books s b (sends z n w to) els = books_sent_other s b z n w to els.0 ∙ stay (books_of s b)
  where
    b' : Bench
    b' = step b (sends z n w to)

    stay : (ks : List Book) → on_newest (entering s b.modules b'.modules) ks ≡ ks
    stay [] = refl
    stay (k ∷ ks) =
        ap (λ rows. with_aborts rows k ∷ ks)
        (enter_none (now b') s b.modules b'.modules k.aborts
        (λ i. ap (λ (y : Slot). y.pending.abort) (untouched_step s b (sends z n w to) els i).slot))
else_books s b ticks els = absurd els
else_books s b (dies j) els = absurd els

-- an accepted request of the stream
module _ (s : Stream) (b : Bench) (j : ℕ) (z : Stream) (p : List ℕ) where
  pub accepts_it : s ≡ z → T (is_accepted j z p b) → T (accepts s b (asks j z p))
  accepts_it e t = both (same_stream z s) (is_accepted j z p b) (subst (λ (y : Stream). T (same_stream y s)) e (eqb_refl s.0)) t

  pub it_accepts : T (accepts s b (asks j z p)) → (s ≡ z) × T (is_accepted j z p b)
  it_accepts t = (
    same_stream_law (sym (eqb→eq z.0 s.0 (and_l (same_stream z s) (is_accepted j z p b) t))),
    and_r (same_stream z s) (is_accepted j z p b) t,
  )

-- what the rules let a sending be
pub may_send_law : (b : Bench) (z : Stream) (n : ℕ) (w : Which) (to : To) → T (may b (sends z n w to)) → T (may_send b z (book_of z n b) w)
unfolding may
may_send_law b z n w to t = t

pub sends_elsewhere : (s : Stream) (b : Bench) → Labels b → (z : Stream) (n : ℕ) (w : Which) (to : To) → (Same s z → ⊥)
    → T (may b (sends z n w to)) → Elsewhere s b (sends z n w to)
sends_elsewhere s b l z n w to other t =
    (other, λ e. other (e ∙ labelled b l z n w (was_given b z (book_of z n b) w (may_send_law b z n w to t))))

-- ── any event that opens no message of the stream ──
module _ {n : ℕ} {D : OS.Delays} (K : ClassOnBench n D) (s : Stream) (me : ℕ) (since : Moment) (p : List ℕ) (base : ℕ → List OC.Note) (b : Bench)
    (v : Valid n D s me b) (x : Track K s me since p base b) where
  abbrev Follows : Bench → Type 0
  Follows = Track K s me since p base

  send_step : (n : ℕ) (w : Which) (to : To) → T (may_send b s (nth no_book n (x.k ∷ x.ks)) w) → Follows (step b (sends s n w to))
  send_step zero w to h = track_send K s me since p base b v x w to h
  send_step (suc n) w to h = absurd (x.old n w h)

  pub track_step : (e : Event) → (T (accepts s b e) → ⊥) → T (may b e) → Follows (step b e)
  track_step (asks j z q) shut m = go (decide_stream s z)
    where
      go : (s ≡ z) ⊎ (Same s z → ⊥) → Follows (step b (asks j z q))
      go (inl e) = subst Follows (sym (refused_asks b j z q (λ t. shut (accepts_it s b j z q e t)))) x
      go (inr other) = track_else K s me since p base b v x (asks j z q) other (else_books s b (asks j z q) other)
  track_step (gives j z c) shut m = go (decide_stream s z)
    where
      next_one : T (is_next j z c b)
      next_one = unfold may in m

      go : (s ≡ z) ⊎ (Same s z → ⊥) → Follows (step b (gives j z c))
      go (inl e) =
          subst (λ y. Follows (step b (gives j y c))) e
          (track_give K s me since p base b v x j c (subst (λ y. T (is_next j y c b)) (sym e) next_one))
      go (inr other) = track_else K s me since p base b v x (gives j z c) other (else_books s b (gives j z c) other)
  track_step (sends z n w to) shut m = go (decide_stream s z)
    where
      go : (s ≡ z) ⊎ (Same s z → ⊥) → Follows (step b (sends z n w to))
      go (inl e) =
          subst (λ y. Follows (step b (sends y n w to))) e
          (send_step n w to (subst (λ ks. T (may_send b s (nth no_book n ks) w)) x.books
          (subst (λ y. T (may_send b y (book_of y n b) w)) (sym e) (may_send_law b z n w to m))))
      go (inr other) =
          let els = sends_elsewhere s b v.labels z n w to other m in
          track_else K s me since p base b v x (sends z n w to) els (else_books s b (sends z n w to) els)
  track_step ticks shut m = track_tick K s me since p base b v x m
  track_step (dies j) shut m = track_death K s me since p base b v x j

-- ── before the first message ──
pub record Quiet (x : Slot) : Type 0 where
  pub held : x.message.held ≡ false
  pub no_payload : x.pending.payload ≡ false
  pub no_confirmation : x.pending.confirmation ≡ false
  pub no_abort : x.pending.abort ≡ false

pub record NoBook (s : Stream) (b : Bench) : Type 0 where
  pub books : books_of s b ≡ []
  pub quiet : (i : ℕ) → Quiet (slot_at s i b)

pub none_pending : (x : Slot) → Quiet x → {c : ℕ} → IsPending x c → ⊥
none_pending x q (Laws.the_payload t) = not_so q.no_payload t
none_pending x q (Laws.the_confirmation t) = not_so q.no_confirmation t
none_pending x q (Laws.the_abort t) = not_so q.no_abort t

-- where nothing is held nothing lapses
module _ (age : ℕ) (x : Slot) (free : x.message.held ≡ false) where
  not_late : late age x ≡ false
  not_late = refuted (late age x) (λ t. contrary ((late_tells age x).says t).held free)

  not_due : due age x ≡ false
  not_due = refuted (due age x) (λ t. contrary ((due_tells age x).says t).held free)

  not_over : hold_over age x ≡ false
  not_over = refuted (hold_over age x) (λ t. contrary ((hold_over_tells age x).says t).held free)

  pub quiet_lapsed : lapsed age x ≡ x
  unfolding lapsed
  quiet_lapsed = rw (not_late, not_due, not_over) refl

module _ {n : ℕ} {D : OS.Delays} (K : ClassOnBench n D) (s : Stream) (me : ℕ) (b : Bench) (v : Valid n D s me b) (q : NoBook s b) where
  nobook_else : (e : Event) → Elsewhere s b e → NoBook s (step b e)
  nobook_else e els =
      record { books = else_books s b e els ∙ q.books; quiet = λ i. subst Quiet (sym (untouched_step s b e els i).slot) (q.quiet i) }

  pub no_send : (n : ℕ) (w : Which) → T (may_send b s (nth no_book n (books_of s b)) w) → ⊥
  no_send n w h =
      no_frame_law n w (subst (λ ks. T (frame_of w (nth no_book n ks)).given) q.books (was_given b s (nth no_book n (books_of s b)) w h))

  quiet_ticked : (i : ℕ) → Quiet (slot_at s i (step b ticks))
  quiet_ticked i = subst (λ (m : Module). Quiet (slot_of s m.node)) (sym (module_step b ticks i))
      (cond_elim (λ (m : Module). Quiet (slot_of s m.node)) (is_live i b)
      (λ t. subst Quiet (sym (tick_slot_law s (module_at i b).node
      ∙ quiet_lapsed (count_of b i + 1 - (slot_at s i b).message.stamp) (slot_at s i b) (q.quiet i).held)) (q.quiet i))
      (λ t. q.quiet i))

  pub nobook_step : (e : Event) → (T (accepts s b e) → ⊥) → T (may b e) → NoBook s (step b e)
  nobook_step (asks j z p) shut m = go (decide_stream s z)
    where
      go : (s ≡ z) ⊎ (Same s z → ⊥) → NoBook s (step b (asks j z p))
      go (inl e) = subst (NoBook s) (sym (refused_asks b j z p (λ t. shut (accepts_it s b j z p e t)))) q
      go (inr other) = nobook_else (asks j z p) other
  nobook_step (gives j z c) shut m = go (decide_stream s z)
    where
      next_one : T (is_next j z c b)
      next_one = unfold may in m

      go : (s ≡ z) ⊎ (Same s z → ⊥) → NoBook s (step b (gives j z c))
      go (inl e) =
          let d = next_done b j z c next_one in
          let n = (module_at j b).node in
          absurd (none_pending (slot_at s j b) (q.quiet j)
          (subst (λ y. IsPending (slot_of y n) (code_of (giving n).id)) (d.1 ∙ sym e) (next_pending n (v.nodes j) d.0)))
      go (inr other) = nobook_else (gives j z c) other
  nobook_step (sends z n w to) shut m = go (decide_stream s z)
    where
      go : (s ≡ z) ⊎ (Same s z → ⊥) → NoBook s (step b (sends z n w to))
      go (inl e) = absurd (no_send n w (subst (λ y. T (may_send b y (book_of y n b) w)) (sym e) (may_send_law b z n w to m)))
      go (inr other) = nobook_else (sends z n w to) (sends_elsewhere s b v.labels z n w to other m)
  nobook_step ticks shut m =
      record { books = books_ticked s b ∙ ap (on_newest (entering s b.modules (step b ticks).modules)) q.books; quiet = quiet_ticked }
  nobook_step (dies j) shut m =
      record {
        books = books_dead s b j ∙ q.books;
        quiet = λ i. subst (λ (n : Node). Quiet (slot_of s n)) (sym (dead_node b j i)) (q.quiet i);
      }

  -- the first message
  start : OH.Strand K.C
  start =
      record {
        state =
            record {
              now = count_of b;
              requested = count_of b;
              message = [];
              data_sent = OS.never;
              conf_sent = OS.never;
              receiver = receivers_of K s me [] b [];
            };
        sender = me;
        up = is_live me b;
        begun = false;
        hold = false;
      }

  idle_start : (i : ℕ) → OH.IdleReceiver K.C (receivers_of K s me [] b [] i)
  unfolding view
  idle_start i =
      record {
        slot = either_way (λ h. h) (is_receiver (slot_at s i b)) (K.idle (slot_at s i b) (q.quiet i).held) refl;
        frames = refl;
        pending = (q.quiet i).no_abort;
      }

  start_fresh : OH.Fresh K.C start
  unfolding start
  start_fresh = record { not_begun = refl; no_data = refl; no_conf = refl; same = λ i. refl; idle = idle_start }

  pub first_track : (j : ℕ) (p : List ℕ) → T (is_accepted j s p b)
      → Track K s me (now b) p (logs_of s b) (step b (asks j s p))
  unfolding start
  first_track j p t =
      open_track K s me p b v j t start [] [] refl refl refl refl tt false (λ i. (start.state.receiver i).log)
      (fresh_inv D K.C K.works start start_fresh) no_send

-- ── whole histories ──
pub data Phase {n : ℕ} {D : OS.Delays} (K : ClassOnBench n D) (s : Stream) (me : ℕ) (b : Bench) : Type 0 where
  silent : NoBook s b → Phase K s me b
  asked : (since : Moment) (p : List ℕ) (base : ℕ → List OC.Note) → Track K s me since p base b → Phase K s me b

module _ {n : ℕ} {D : OS.Delays} (K : ClassOnBench n D) (s : Stream) (me : ℕ) where
  pub opened : (b : Bench) → Valid n D s me b → Phase K s me b → (j : ℕ) (p : List ℕ) → T (is_accepted j s p b)
      → Track K s me (now b) p (logs_of s b) (step b (asks j s p))
  opened b v (silent q) j p t = first_track K s me b v q j p t
  opened b v (asked since p₀ base x) j p t = next_track K s me since p₀ base b v x j p t

  phase_step : (b : Bench) → Valid n D s me b → Phase K s me b → (e : Event) → T (may b e) → Phase K s me (step b e)
  phase_step b v x e m = go e m x (decide (accepts s b e))
    where
      go : (e : Event) → T (may b e) → Phase K s me b → T (accepts s b e) ⊎ (T (accepts s b e) → ⊥) → Phase K s me (step b e)
      go e m (silent q) (inr n) = silent (nobook_step K s me b v q e n m)
      go e m (asked since p base x) (inr n) = asked since p base (track_step K s me since p base b v x e n m)
      go (asks j z p) m x (inl o) =
          let (e, t) = it_accepts s b j z p o in
          asked (now b) p (logs_of s b)
          (subst (λ y. Track K s me (now b) p (logs_of s b) (step b (asks j y p))) e
          (opened b v x j p (subst (λ y. T (is_accepted j y p b)) (sym e) t)))
      go (gives j z c) m x (inl o) = absurd o
      go (sends z n w to) m x (inl o) = absurd o
      go ticks m x (inl o) = absurd o
      go (dies j) m x (inl o) = absurd o

  -- any history that keeps the rules, with more to come
  pub any_run : (b : Bench) → Valid n D s me b → Phase K s me b → (h r : List Event) → T (keeps_so_far b (h ++ r))
      → Valid n D s me (run b h) × Phase K s me (run b h) × T (keeps_so_far (run b h) r)
  any_run b v x [] r k = (v, x, k)
  any_run b v x (e ∷ es) r k =
      any_run (step b e) (valid_step e v) (phase_step b v x e (and_l (may b e) (keeps_so_far (step b e) (es ++ r)) k)) es r
      (and_r (may b e) (keeps_so_far (step b e) (es ++ r)) k)
