-- OTHER TRAFFIC: without the requests, givings out and sendings that concern other streams, each module delivers a stream's messages
-- at the same ticks with the same bytes. The bench of the whole history and that of the rest look alike to the stream.
use Prim.Native.Nat.{ℕ, ◌+◌, ◌-◌}
use mathlib.Core.Path.{◌≡◌, refl, ap, sym, subst, ◌∙◌}
use mathlib.Core.Logic.{◌⊎◌, inl, inr}
use mathlib.Core.Bool.{Bool, true, false, not, cond, ◌&&◌}
use mathlib.Core.List.{List, [], ◌∷◌, map}
use lib.ListN.{length}
use lib.Dec.{T, eqb, eqb→eq}
use Rattle.wire.specs.declared.ids.Stream.{Stream}
use Rattle.wire.specs.declared.ids.BusId.{BusId}
use Rattle.wire.specs.Identifiers.{stream_of, code_of}
use Rattle.node.specs.declared.Node.{Node}
use Rattle.node.specs.Nodes.{slot_of}
use Rattle.node.specs.Reachable.{Kept}
use Rattle.node.specs.NextFrame.{given_out}
use Rattle.node.proofs.Choices.{either_way}
use Rattle.one_stream.proofs.Truth.{and_l, and_r, is_true, decide}
use Rattle.bench.specs.Lists.{nth, at, keep_only}
use Rattle.bench.specs.Bench.{Module, Bench, Book, Frame, Moment, Which, same_stream, module_at, is_live, slot_at}
use Rattle.bench.specs.Bench.{now, pending_since, books_of, book_of, frame_of, owner_of}
use Rattle.bench.specs.SetUp.{Plan, is_done, proper, start}
use Rattle.bench.specs.Events.{Event, asks, gives, sends, ticks, dies, To, named, is_full, is_accepted, is_next, asked, next, with_node}
use Rattle.bench.specs.Events.{on_newest, on_frame, which_of, sent_once, new_book, step, run}
use Rattle.bench.specs.Rules.{may, keeps_so_far}
use Rattle.bench.specs.Demands.{concerns, OtherTraffic}
use Rattle.bench.proofs.laws.SlotAfterCall.{Same, ticking, tick_slot_law}
use Rattle.bench.proofs.laws.SlotAfterCall.{accepts, ask_reply, giving, next_own, next_counter}
use Rattle.bench.proofs.laws.ModuleAfterEvent.{hears_frame, step_module, module_step, refused_asks, next_done, moved_step, size_step}
use Rattle.bench.proofs.laws.ModuleAfterEvent.{Untouched, Elsewhere, untouched_step}
use Rattle.bench.proofs.laws.BooksAfterEvent.{listed, listed_step, entering, books_asked, books_given, books_sent, books_ticked, books_dead}
use Rattle.bench.proofs.laws.FramesOfBooks.{Labels, unlisted, label_step}
use Rattle.bench.proofs.message.ThroughHistory.{else_books, Quiet, quiet_lapsed}
use Rattle.bench.proofs.other_traffic.EventConcerns.{same_if, frame_carries, elsewhere}
use Rattle.bench.proofs.other_traffic.SameNextFrame.{SameNext, same_next}
use Rattle.bench.proofs.message.PlanGives.{start_kept, start_silent, start_labels}
use Rattle.bench.proofs.other_traffic.ModulesAlike.{both_if, both_ask, both_tick, both_dead, both_hear, AllAlike, same_counts, no_aborts, same_entering}

-- ── two benches that look alike to a stream; in the second, slots of other streams are quiet ──
record Alike (s : Stream) (b b' : Bench) : Type 0 where
  size : length b'.modules ≡ length b.modules
  each : AllAlike s b.modules b'.modules
  books : books_of s b' ≡ books_of s b
  ledgers : listed s b'.ledgers ≡ listed s b.ledgers
  labels : Labels b
  kept : (i : ℕ) → Kept (module_at i b).node
  kept' : (i : ℕ) → Kept (module_at i b').node
  quiet : (i : ℕ) (z : Stream) → (Same s z → ⊥) → Quiet (slot_at z i b')

-- a quiet slot has nothing to lapse
quiet_ticked : (s : Stream) (n : Node) → Quiet (slot_of s n) → slot_of s (ticking n).node ≡ slot_of s n
quiet_ticked s n quiet = tick_slot_law s n ∙ quiet_lapsed (n.counter + 1 - (slot_of s n).message.stamp) (slot_of s n) quiet.held

module _ (s : Stream) (b b' : Bench) (x : Alike s b b') where
  same_now : now b' ≡ now b
  same_now = same_counts s b.modules b'.modules x.size x.each

  same_book : (n : ℕ) → book_of s n b' ≡ book_of s n b
  same_book n = ap (nth _ n) x.books

  -- ── the tests of an event ──
  same_accepted : (j : ℕ) (p : List ℕ) → is_accepted j s p b' ≡ is_accepted j s p b
  same_accepted j p =
      ap (λ l. l && is_done (asked j s p b').reply) (x.each j).live
      ∙ ap (λ d. is_live j b && d)
      (ask_reply s p (module_at j b').node ∙ (ap (accepts p) (x.each j).slot ∙ sym (ask_reply s p (module_at j b).node)))

  module _ (j c : ℕ) (t : T (is_next j s c b)) where
    next_alike : SameNext (module_at j b).node (module_at j b').node
    next_alike =
        let d = next_done b j s c t in
        same_next s (module_at j b).node (module_at j b').node (x.kept j) (x.kept' j) (x.each j).slot (x.quiet j) d.0 d.1

    also_next : T (is_next j s c b')
    also_next =
        subst T
        (ap (λ l. test l (is_done (next j b).reply) (next j b).id) (sym (x.each j).live)
        ∙ (ap (λ d. test (is_live j b') d (next j b).id) (is_true _ (next_done b j s c t).0 ∙ sym (is_true _ next_alike.given))
        ∙ ap (test (is_live j b') (is_done (next j b').reply)) (sym next_alike.id)))
        t
      where
        test : Bool → Bool → BusId → Bool
        test live done id = live && done && same_stream (stream_of id) s && eqb (code_of id) c

  -- ── the modules after an event of the stream ──
  abbrev Both : Event → ℕ → Type 0
  Both e i = Untouched s (step_module b e i (module_at i b)) (step_module b' e i (module_at i b'))

  asks_both : (j : ℕ) (p : List ℕ) (i : ℕ) → Both (asks j s p) i
  asks_both j p i =
      both_if s (module_at i b) (module_at i b') (x.each i) (is_accepted j s p b && eqb i j) (is_accepted j s p b' && eqb i j)
      (ap (λ g. g && eqb i j) (same_accepted j p)) (λ t. both_ask s (module_at i b) (module_at i b') (x.each i) p)

  next_slot : (n : Node) → Kept n → T (is_done (giving n).reply) → stream_of (giving n).id ≡ s
      → slot_of s (giving n).node ≡ given_out (code_of (giving n).id) (slot_of s n)
  next_slot n k d e = subst (λ z. slot_of z (giving n).node ≡ given_out (code_of (giving n).id) (slot_of z n)) e (next_own n k d)

  gives_both : (j c : ℕ) → T (is_next j s c b) → (i : ℕ) → Both (gives j s c) i
  gives_both j c t i =
      both_if s (module_at i b) (module_at i b') (x.each i) (is_next j s c b && eqb i j) (is_next j s c b' && eqb i j)
      (ap (λ g. g && eqb i j) (is_true (is_next j s c b') (also_next j c t) ∙ sym (is_true (is_next j s c b) t)))
      (λ here. gave (eqb→eq i j (and_r (is_next j s c b) (eqb i j) here)))
    where
      n : Node
      n = (module_at i b).node

      n' : Node
      n' = (module_at i b').node

      gave : i ≡ j → Untouched s (with_node (giving n).node (module_at i b)) (with_node (giving n').node (module_at i b'))
      gave e =
          let d = subst (λ j. T (is_done (next j b).reply) × (stream_of (next j b).id ≡ s) × (code_of (next j b).id ≡ c)) (sym e) (next_done b j s c t) in
          let same = subst (λ j. SameNext (module_at j b).node (module_at j b').node) (sym e) (next_alike j c t) in
          record {
            slot =
                next_slot n' (x.kept' i) same.given (ap stream_of same.id ∙ d.1)
                ∙ (ap (λ id. given_out (code_of id) (slot_of s n')) same.id
                ∙ (ap (given_out (code_of (giving n).id)) (x.each i).slot
                ∙ sym (next_slot n (x.kept i) d.0 d.1)));
            live = (x.each i).live;
            log = (x.each i).log;
            counter = next_counter n' ∙ ((x.each i).counter ∙ sym (next_counter n));
          }

  sends_both : (n : ℕ) (w : Which) (to : To) → T (may b (sends s n w to)) → (i : ℕ) → Both (sends s n w to) i
  sends_both n w to t i =
      subst (λ k. Untouched s (step_module b (sends s n w to) i (module_at i b))
      (cond ((module_at i b').live && named to i && not (eqb i (owner_of w k))) (hears_frame (frame_of w k) (module_at i b')) (module_at i b')))
      (sym (same_book n))
      (both_if s (module_at i b) (module_at i b') (x.each i) _ _ (ap (λ l. l && named to i && not (eqb i (owner_of w k))) (x.each i).live)
      (λ hears. both_hear (frame_of w k) s (frame_carries b x.labels s n w to t) (module_at i b) (module_at i b') (x.each i)))
    where
      k : Book
      k = book_of s n b

  -- ── the benches after an event of the stream, by what it makes of modules, books, and slots of other streams ──
  alike_by : (e : Event) → ((i : ℕ) → Both e i)
      → (AllAlike s (step b e).modules (step b' e).modules → T (listed s b.ledgers) → T (listed s b'.ledgers)
      → books_of s (step b' e) ≡ books_of s (step b e))
      → ((i : ℕ) (z : Stream) → (Same s z → ⊥) → slot_at z i (step b' e) ≡ slot_at z i b') → Alike s (step b e) (step b' e)
  alike_by e modules books others =
      record {
        size = size_step b' e ∙ (x.size ∙ sym (size_step b e));
        each = each;
        books = listed_or_not (decide (listed s b.ledgers));
        ledgers = ledgers;
        labels = label_step b x.labels e;
        kept = λ i. (moved_step s b e i (x.kept i)).kept (x.kept i);
        kept' = λ i. (moved_step s b' e i (x.kept' i)).kept (x.kept' i);
        quiet = λ i z other. subst Quiet (sym (others i z other)) (x.quiet i z other);
      }
    where
      each : AllAlike s (step b e).modules (step b' e).modules
      each i =
          subst (λ m. Untouched s m (module_at i (step b' e))) (sym (module_step b e i))
          (subst (Untouched s (step_module b e i (module_at i b))) (sym (module_step b' e i)) (modules i))

      ledgers : listed s (step b' e).ledgers ≡ listed s (step b e).ledgers
      ledgers = listed_step s b' e ∙ (x.ledgers ∙ sym (listed_step s b e))

      listed_or_not : T (listed s b.ledgers) ⊎ (T (listed s b.ledgers) → ⊥) → books_of s (step b' e) ≡ books_of s (step b e)
      listed_or_not (inl l) = books each l (subst T (sym x.ledgers) l)
      listed_or_not (inr n) =
          let none : T (listed s (step b e).ledgers) → ⊥ = λ t. n (subst T (listed_step s b e) t) in
          unlisted s (step b' e).ledgers (λ t. none (subst T ledgers t)) ∙ sym (unlisted s (step b e).ledgers none)

  same_sizes : (e : Event) → length (step b' e).modules ≡ length (step b e).modules
  same_sizes e = size_step b' e ∙ (x.size ∙ sym (size_step b e))

  alike_asks : (j : ℕ) (p : List ℕ) → Alike s (step b (asks j s p)) (step b' (asks j s p))
  alike_asks j p =
      alike_by (asks j s p) (asks_both j p) (λ each l l'. books l l' (decide (is_accepted j s p b)))
      (λ i z other. (untouched_step z b' (asks j s p) (λ e. other (sym e)) i).slot)
    where
      opened : Moment → List (List Frame) → Book
      opened t rows = record { sender = j; payload_frame = pending_since t; confirmation = pending_since t; aborts = rows }

      new_book_here : new_book j b' ≡ new_book j b
      new_book_here =
          ap (λ t. opened t (map (λ (m : Module). []) b'.modules)) same_now ∙ ap (opened (now b)) (no_aborts b.modules b'.modules x.size)

      books : T (listed s b.ledgers) → T (listed s b'.ledgers) → T (is_accepted j s p b) ⊎ (T (is_accepted j s p b) → ⊥)
          → books_of s (step b' (asks j s p)) ≡ books_of s (step b (asks j s p))
      books l l' (inl t) =
          books_asked s b' l' j p (subst T (sym (same_accepted j p)) t)
          ∙ (ap (λ k. k ∷ books_of s b') new_book_here ∙ (ap (λ ks. new_book j b ∷ ks) x.books ∙ sym (books_asked s b l j p t)))
      books l l' (inr n) =
          ap (books_of s) (refused_asks b' j s p (λ t. n (subst T (same_accepted j p) t)))
          ∙ (x.books ∙ sym (ap (books_of s) (refused_asks b j s p n)))

  alike_gives : (j c : ℕ) → T (is_next j s c b) → Alike s (step b (gives j s c)) (step b' (gives j s c))
  alike_gives j c t =
      alike_by (gives j s c) (gives_both j c t)
      (λ each l l'.
      books_given s b' l' j c (also_next j c t)
      ∙ (ap (λ id. given id (next j b').bytes (books_of s b')) (next_alike j c t).id
      ∙ (ap (λ bytes. given (next j b).id bytes (books_of s b')) (next_alike j c t).bytes
      ∙ (ap (given (next j b).id (next j b).bytes) x.books
      ∙ sym (books_given s b l j c t)))))
      (λ i z other. (untouched_step z b' (gives j s c) (λ e. other (sym e)) i).slot)
    where
      given : BusId → List ℕ → List Book → List Book
      given id bytes =
          on_newest (on_frame (which_of j c) (λ f. record { since = f.since; given = true; id = id; payload = bytes; sendings = f.sendings }))

  -- the aborts that became pending
  entered : (e : Event) → AllAlike s (step b e).modules (step b' e).modules → (ks : List Book)
      → on_newest (entering s b'.modules (step b' e).modules) ks ≡ on_newest (entering s b.modules (step b e).modules) ks
  entered e each ks =
      ap (λ f. on_newest f ks) (same_entering s b.modules (step b e).modules b'.modules (step b' e).modules x.size (same_sizes e) x.each each)

  alike_sends : (n : ℕ) (w : Which) (to : To) → T (may b (sends s n w to)) → Alike s (step b (sends s n w to)) (step b' (sends s n w to))
  alike_sends n w to t =
      alike_by e (sends_both n w to t)
      (λ each l l'.
      books_sent s b' l' n w to
      ∙ (ap (λ t. on_newest (entering s b'.modules (step b' e).modules) (at (on_frame w (sent_once t (is_full to))) n (books_of s b'))) same_now
      ∙ (ap (λ ks. on_newest (entering s b'.modules (step b' e).modules) (at (on_frame w (sent_once (now b) (is_full to))) n ks)) x.books
      ∙ (entered e each (at (on_frame w (sent_once (now b) (is_full to))) n (books_of s b))
      ∙ sym (books_sent s b l n w to)))))
      (λ i z other. (untouched_step z b' e (λ q. other (sym q), λ q. other (sym (q ∙ stream'))) i).slot)
    where
      e : Event
      e = sends s n w to

      stream' : Same (stream_of (frame_of w (book_of s n b')).id) s
      stream' =
          subst (λ k. Same (stream_of (frame_of w k).id) s) (sym (same_book n))
          (ap (λ (z : Stream). z.0) (frame_carries b x.labels s n w to t))

  alike_ticks : Alike s (step b ticks) (step b' ticks)
  alike_ticks =
      alike_by ticks (λ i. both_tick s (module_at i b) (module_at i b') (x.each i) (x.kept i) (x.kept' i))
      (λ each l l'.
      books_ticked s b'
      ∙ (ap (on_newest (entering s b'.modules (step b' ticks).modules)) x.books
      ∙ (entered ticks each (books_of s b) ∙ sym (books_ticked s b))))
      (λ i z other.
      ap (λ (m : Module). slot_of z m.node) (module_step b' ticks i)
      ∙ either_way (λ (m : Module). slot_of z m.node) (is_live i b') (quiet_ticked z (module_at i b').node (x.quiet i z other)) refl)

  alike_dies : (j : ℕ) → Alike s (step b (dies j)) (step b' (dies j))
  alike_dies j =
      alike_by (dies j)
      (λ i. both_if s (module_at i b) (module_at i b') (x.each i) (eqb i j) (eqb i j) refl (λ t. both_dead s (module_at i b) (module_at i b') (x.each i)))
      (λ each l l'. books_dead s b' j ∙ (x.books ∙ sym (books_dead s b j)))
      (λ i z other.
      ap (λ (m : Module). slot_of z m.node) (module_step b' (dies j) i) ∙ either_way (λ (m : Module). slot_of z m.node) (eqb i j) refl refl)

  alike_step : (e : Event) → T (concerns s e) → T (may b e) → Alike s (step b e) (step b' e)
  unfolding may
  alike_step (asks j z p) o t = subst (λ z. Alike s (step b (asks j z p)) (step b' (asks j z p))) (same_if s z o) (alike_asks j p)
  alike_step (gives j z c) o t =
      subst (λ z. T (is_next j z c b) → Alike s (step b (gives j z c)) (step b' (gives j z c))) (same_if s z o) (alike_gives j c) t
  alike_step (sends z n w to) o t =
      subst (λ z. T (may b (sends z n w to)) → Alike s (step b (sends z n w to)) (step b' (sends z n w to))) (same_if s z o) (alike_sends n w to) t
  alike_step ticks o t = alike_ticks
  alike_step (dies j) o t = alike_dies j

  -- ── an event of another stream, in the first bench only ──
  alike_elsewhere : (e : Event) → Elsewhere s b e → Alike s (step b e) b'
  alike_elsewhere e els =
      record {
        size = x.size ∙ sym (size_step b e);
        each = λ i.
            let u = untouched_step s b e els i in
            record {
              slot = (x.each i).slot ∙ sym u.slot;
              live = (x.each i).live ∙ sym u.live;
              log = (x.each i).log ∙ sym u.log;
              counter = (x.each i).counter ∙ sym u.counter;
            };
        books = x.books ∙ sym (else_books s b e els);
        ledgers = x.ledgers ∙ sym (listed_step s b e);
        labels = label_step b x.labels e;
        kept = λ i. (moved_step s b e i (x.kept i)).kept (x.kept i);
        kept' = x.kept';
        quiet = x.quiet;
      }

alike_run : (s : Stream) (h : List Event) (b b' : Bench) → Alike s b b' → T (keeps_so_far b h) → Alike s (run b h) (run b' (keep_only (concerns s) h))
alike_run s [] b b' x k = x
alike_run s (e ∷ es) b b' x k =
    go (concerns s e) (λ t. t) (λ t. t) (λ y. alike_run s es (step b e) (step b' e) y later) (λ y. alike_run s es (step b e) b' y later)
  where
    first : T (may b e)
    first = and_l (may b e) (keeps_so_far (step b e) es) k

    later : T (keeps_so_far (step b e) es)
    later = and_r (may b e) (keeps_so_far (step b e) es) k

    go : (t : Bool) → (T t → T (concerns s e)) → (T (concerns s e) → T t)
        → (Alike s (step b e) (step b' e) → Alike s (run (step b e) es) (run (step b' e) (keep_only (concerns s) es)))
        → (Alike s (step b e) b' → Alike s (run (step b e) es) (run b' (keep_only (concerns s) es)))
        → Alike s (run (step b e) es) (run b' (cond t (e ∷ keep_only (concerns s) es) (keep_only (concerns s) es)))
    go true own not_own f g = f (alike_step s b b' x e (own tt) first)
    go false own not_own f g = g (alike_elsewhere s b b' x e (elsewhere b x.labels s e not_own first))

alike_itself : (s : Stream) (plan : Plan) → T (proper plan) → Alike s (start plan) (start plan)
alike_itself s plan ok =
    record {
      size = refl;
      each = λ i. record { slot = refl; live = refl; log = refl; counter = refl };
      books = refl;
      ledgers = refl;
      labels = start_labels plan ok s;
      kept = start_kept plan ok s;
      kept' = start_kept plan ok s;
      quiet = λ i z other. (start_silent plan ok z).quiet i;
    }

pub other_traffic : OtherTraffic
other_traffic plan ok h keeps s i = sym ((alike_run s h (start plan) (start plan) (alike_itself s plan ok) keeps).each i).log
