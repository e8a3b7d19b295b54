-- What is known of a stream from an accepted request on, and that every event keeps it: the newest book, its strand with the
-- one-stream invariant, the sender's slot, what pending frames of code 2 carry, and that nothing of older messages may be sent.
use Prim.Native.Nat.{ℕ, suc, ◌+◌, ◌-◌, ◌≤◌}
use native.Mathlib.Omega.{arith}
use mathlib.Core.Path.{◌≡◌, refl, ap, sym, subst, ◌∙◌}
use mathlib.Core.Logic.{inl, inr}
use mathlib.Core.Bool.{Bool, true, false, not, ◌&&◌, ◌||◌, cond}
use mathlib.Core.List.{List, [], ◌∷◌}
use lib.ListN.{length}
use native.Mathlib.Numerals.{add-one}
use lib.Dec.{T, ltb, leb, eqb, leb→le, le→leb, T_not}
use Rattle.wire.specs.declared.ids.Stream.{Stream}
use Rattle.wire.specs.declared.settings.Settings.{Settings}
use Rattle.node.specs.declared.slots.Slot.{Slot}
use Rattle.wire.specs.Frames.{max_payload}
use Rattle.wire.specs.Identifiers.{id_of}
use Rattle.wire.specs.Settings.{receives, is_plain}
use Rattle.node.specs.Clock.{unbounded}
use Rattle.node.specs.Nodes.{slot_of}
use Rattle.node.specs.Reachable.{Kept}
use Rattle.node.specs.Slots.{is_receiver, is_sender, payload_of}
use Rattle.node.specs.Tick.{late, due, hold_over, lapsed}
use Rattle.node.proofs.slots.Streams.{Kind}
use Rattle.one_stream.proofs.Books.{Paced}
use Rattle.one_stream.proofs.Chain.{Inv, stretch, act_keeps, message_step}
use Rattle.one_stream.proofs.Truth.{cond_elim, cond_false, and_l, and_r, both, is_false, so, not_so}
use Rattle.bench.specs.Bench.{Module, Bench, Book, Frame, Sendings, never, sent, pending_since, no_book, module_at, is_live, slot_at, now}
use Rattle.bench.specs.Bench.{book_of, books_of, frame_of, owner_of, settings_of, Which, the_payload, the_confirmation, the_abort, Moment}
use Rattle.bench.specs.Events.{Event, sends, ticks, dies, step, ticked, named, is_full, To, sent_once, on_frame, on_newest, became_pending}
use Rattle.bench.specs.Lists.{nth, at}
use Rattle.bench.specs.Rules.{may, rule1, rule3, in_turn, in_reach, within, was_full}
use Rattle.bench.proofs.laws.SlotAfterCall.{tick_slot_law, not_late_nor_due}
use Rattle.bench.proofs.laws.ModuleAfterEvent.{nth_at, hears_frame, ticked_live, module_step, dead_node, deaf, pending_receives, moved_step, Elsewhere}
use Rattle.bench.proofs.laws.ModuleAfterEvent.{untouched_step, length_at, size_step, count_of, as_function, Later, later_step}
use Rattle.bench.proofs.laws.BooksAfterEvent.{entering, books_ticked, books_dead}
use Rattle.bench.proofs.laws.FramesOfBooks.{code_in, AllFrames, all_on_frame, all_entering}
use Rattle.bench.proofs.message.ClassOnBench.{may_send, Becomes, ClassOnBench}
use Rattle.bench.proofs.message.ModuleSeen.{view, Carries, carries_on}
use Rattle.bench.proofs.message.StreamSeen.{row_enter, length_enter}
use Rattle.bench.proofs.message.SeenAfterOwnEvent.{Valid, not_both, strand_of, lives, Bytes, caused_bytes, tick_strand, book_after}
use Rattle.bench.proofs.message.SeenAfterOwnEvent.{books_after, data_strand, conf_strand, code2_strand, data_heard, conf_heard, code2_heard}
use Rattle.bench.proofs.message.PayloadKept.{Carrying, carrying_same, carrying_sent, carrying_ticked}
use Rattle.bench.proofs.message.SeenAfterOtherEvent.{die_other_strand, die_own_strand, else_strand}
use Rattle.bench.proofs.message.RulesSeen.{was_given, legal_data, legal_conf, legal_code2, legal_tick}
use Rattle.one_stream.proofs.Sendings.{move_reached}
use Rattle.one_stream.specs.Sendings as OS
use Rattle.one_stream.specs.Classes as OC
use Rattle.one_stream.proofs.Histories as OH

-- ── the record ──
-- what a frame with this code carries of the message
abbrev pub carries : {n : ℕ} {D : OS.Delays} → ClassOnBench n D → List ℕ → ℕ → List ℕ
carries K p c = cond (eqb c 0) p (cond (eqb c 2) (K.C.carried p) [])

-- once it was given out
abbrev pub Content : {n : ℕ} {D : OS.Delays} → ClassOnBench n D → Stream → List ℕ → ℕ → Frame → Type 0
Content K s p c f = T f.given → (f.id ≡ id_of s c) × (f.payload ≡ carries K p c)

pub record Own {n : ℕ} {D : OS.Delays} (K : ClassOnBench n D) (s : Stream) (me : ℕ) (since : Moment) (p : List ℕ) (b : Bench) (k : Book) : Type 0 where
  pub sender : k.sender ≡ me
  pub asked : k.payload_frame.since ≡ since
  pub content : AllFrames (Content K s p) k
  pub size : length k.aborts ≡ length b.modules
  pub rows : (q : ℕ) → T (not (is_receiver (slot_at s q b))) → nth [] q k.aborts ≡ []

pub record Sender (s : Stream) (me : ℕ) (since : Moment) (p : List ℕ) (b : Bench) (hold : Bool) : Type 0 where
  pub holds : T (is_live me b) → hold ≡ (slot_at s me b).message.held
  pub stamp : T (slot_at s me b).message.held → (slot_at s me b).message.stamp ≡ as_function since me
  pub payload : T (slot_at s me b).pending.payload → payload_of (slot_at s me b).message ≡ p
  pub short : length p ≤ max_payload

-- the message p was requested at `since`; base: what each module had delivered by then
pub record Track {n : ℕ} {D : OS.Delays} (K : ClassOnBench n D) (s : Stream) (me : ℕ) (since : Moment) (p : List ℕ) (base : ℕ → List OC.Note)
    (b : Bench) : Type 0 where
  pub k : Book
  pub ks : List Book
  pub books : books_of s b ≡ k ∷ ks
  pub own : Own K s me since p b k
  pub hold : Bool
  pub sender : Sender s me since p b hold
  pub old : (n : ℕ) (w : Which) → T (may_send b s (nth no_book n ks) w) → ⊥
  pub carrying : Carrying K s p b
  pub a : Bool
  pub inv : Inv D K.C K.works (strand_of K s me p b k hold) a base

-- ── what may not be sent any more stays so ──
within_back : (R : ℕ) (f t t' : Moment) → Later t t' → T (within R f t') → T (within R f t)
within_back R [] [] [] l h = h
within_back R [] [] (y ∷ ys) l h = absurd l
within_back R [] (x ∷ xs) [] l h = absurd l
within_back R [] (x ∷ xs) (y ∷ ys) l h = h
within_back R (z ∷ zs) [] [] l h = h
within_back R (z ∷ zs) [] (y ∷ ys) l h = absurd l
within_back R (z ∷ zs) (x ∷ xs) [] l h = absurd l
within_back R (z ∷ zs) (x ∷ xs) (y ∷ ys) l h =
    both (leb x (z + R)) (within R zs xs)
    (le→leb x (z + R) (omega (arith, leb→le y (z + R) (and_l (leb y (z + R)) (within R zs ys) h), l.0)))
    (within_back R zs xs ys l.1 (and_r (leb y (z + R)) (within R zs ys) h))

map_and : (a b c d : Bool) → (T a → T c) → (T b → T d) → T (a && b) → T (c && d)
map_and true b true d f g h = g h
map_and true b false d f g h = absurd (f tt)
map_and false b c d f g h = absurd h

map_or : (a b c : Bool) → (T b → T c) → T (a || b) → T (a || c)
map_or true b c f t = tt
map_or false b c f t = f t

first_back : (R : ℕ) (d : Sendings) (t t' : Moment) → Later t t' → T (elim d [ never ↦ false | sent x y z ↦ within R x t' ])
    → T (elim d [ never ↦ false | sent x y z ↦ within R x t ])
first_back R never t t' l h = h
first_back R (sent x y z) t t' l h = within_back R x t t' l h

reach_back : (set : Settings) (k : Book) (w : Which) (t t' : Moment) → Later t t' → T (in_reach set k w t') → T (in_reach set k w t)
reach_back set k the_payload t t' l =
    map_or (is_plain set) (within set.rd k.payload_frame.since t') (within set.rd k.payload_frame.since t)
    (within_back set.rd k.payload_frame.since t t' l)
reach_back set k the_confirmation t t' l = first_back set.dc k.payload_frame.sendings t t' l
reach_back set k (the_abort q y) t t' l = within_back set.ra (frame_of (the_abort q y) k).since t t' l

pub send_back : (s : Stream) (b : Bench) (e : Event) → ((i : ℕ) → Kept (module_at i b).node) → (k : Book) (w : Which)
    → T (may_send (step b e) s k w) → T (may_send b s k w)
send_back s b e kept_nodes k w =
    let i = owner_of w k in
    let given = (frame_of w k).given in
    let short = not (was_full (frame_of w k)) in
    map_and (rule1 (step b e) k w) (rule3 (step b e) s k w) (rule1 b k w) (rule3 b s k w)
    (map_and (is_live i (step b e) && given) short (is_live i b && given) short
    (map_and (is_live i (step b e)) given (is_live i b) given (moved_step s b e i (kept_nodes i)).live (λ t. t)) (λ t. t))
    (map_and (in_turn k w) (in_reach (settings_of s k (step b e)) k w (now (step b e))) (in_turn k w) (in_reach (settings_of s k b) k w (now b)) (λ t. t)
    (λ t. reach_back (settings_of s k b) k w (now b) (now (step b e)) (later_step b e kept_nodes)
    (subst (λ (κ : Kind). T (in_reach κ.settings k w (now (step b e)))) (moved_step s b e k.sender (kept_nodes k.sender)).kind t)))

-- ── the sender's slot ──
not_receiver : (x : Slot) → T (is_sender x) → is_receiver x ≡ false
not_receiver x t = is_false (is_receiver x) (λ r. not_both x r t)

-- ── the newest book ──
module _ {n : ℕ} {D : OS.Delays} (K : ClassOnBench n D) (s : Stream) (me : ℕ) (since : Moment) (p : List ℕ) (b : Bench) (v : Valid n D s me b)
    (e : Event) where
  abbrev next_bench : Bench
  next_bench = step b e

  receives_back : (q : ℕ) → T (not (is_receiver (slot_at s q next_bench))) → T (not (is_receiver (slot_at s q b)))
  receives_back q = subst (λ (κ : Kind). T (not (κ.used && receives κ.settings))) (moved_step s b e q (v.nodes q)).kind

  pub own_moved : (k : Book) → Own K s me since p b k → Own K s me since p next_bench k
  own_moved k o =
      record {
        sender = o.sender;
        asked = o.asked;
        content = o.content;
        size = o.size ∙ sym (size_step b e);
        rows = λ q n. o.rows q (receives_back q n);
      }

  -- what became pending was entered; the sizes and rows are those before
  pub own_entering : (k : Book) → Own K s me since p b k → Own K s me since p next_bench (entering s b.modules next_bench.modules k)
  own_entering k o =
      record {
        sender = o.sender;
        asked = o.asked;
        content = all_entering (Content K s p) s b.modules next_bench.modules (λ t. absurd t) k o.content;
        size = length_enter (now next_bench) s b.modules next_bench.modules k.aborts ∙ (o.size ∙ sym (size_step b e));
        rows = λ q n.
            let row = nth [] q k.aborts in
            row_enter (now next_bench) s b.modules next_bench.modules k.aborts o.size (size_step b e) q
            ∙ (cond_false (became_pending s (module_at q b) (module_at q next_bench)) (pending_since (now next_bench) ∷ row) row
            (λ t. T_not (is_receiver (slot_at s q next_bench)) n
            (pending_receives s (module_at q next_bench).node ((moved_step s b e q (v.nodes q)).kept (v.nodes q))
            (and_l (slot_at s q next_bench).pending.abort (not (slot_at s q b).pending.abort) t)))
            ∙ o.rows q (receives_back q n));
      }

-- a frame of the book is changed, and neither its moment nor what it carries
pub own_on_frame : {n : ℕ} {D : OS.Delays} (K : ClassOnBench n D) (s : Stream) (me : ℕ) (since : Moment) (p : List ℕ) (b : Bench) (k : Book)
    (w : Which) (change : Frame → Frame)
    → ((x : Frame) → (change x).since ≡ x.since) → ((x : Frame) → Content K s p (code_in w) x → Content K s p (code_in w) (change x))
    → Own K s me since p b k → Own K s me since p b (on_frame w change k)
own_on_frame K s me since p b k the_payload change h c o =
    record {
      sender = o.sender;
      asked = h k.payload_frame ∙ o.asked;
      content = all_on_frame (Content K s p) the_payload change c k o.content;
      size = o.size;
      rows = o.rows;
    }
own_on_frame K s me since p b k the_confirmation change h c o =
    record {
      sender = o.sender;
      asked = o.asked;
      content = all_on_frame (Content K s p) the_confirmation change c k o.content;
      size = o.size;
      rows = o.rows;
    }
own_on_frame K s me since p b k (the_abort q y) change h c o =
    record {
      sender = o.sender;
      asked = o.asked;
      content = all_on_frame (Content K s p) (the_abort q y) change c k o.content;
      size = length_at (at change y) q k.aborts ∙ o.size;
      rows = λ i n.
          nth_at [] (at change y) i q k.aborts (inr refl)
          ∙ (ap (λ z. cond (eqb i q) (at change y z) z) (o.rows i n) ∙ none (eqb i q));
    }
  where
    none : (t : Bool) → cond t (at change y []) [] ≡ []
    none true = refl
    none false = refl

module _ {n : ℕ} {D : OS.Delays} (K : ClassOnBench n D) (s : Stream) (me : ℕ) (since : Moment) (p : List ℕ) (base : ℕ → List OC.Note) (b : Bench)
    (v : Valid n D s me b) (x : Track K s me since p base b) where
  abbrev Z₀ : OH.Strand K.C
  Z₀ = strand_of K s me p b x.k x.hold

  abbrev Follows : Bench → Type 0
  Follows = Track K s me since p base

  old_step : (e : Event) (n : ℕ) (w : Which) → T (may_send (step b e) s (nth no_book n x.ks) w) → ⊥
  old_step e n w t = x.old n w (send_back s b e v.nodes (nth no_book n x.ks) w t)

  -- the sender's slot is left alone
  sender_same : (e : Event) → slot_at s me (step b e) ≡ slot_at s me b → Sender s me since p (step b e) x.hold
  sender_same e same =
      record {
        holds = λ t. x.sender.holds ((moved_step s b e me (v.nodes me)).live t) ∙ ap (λ (y : Slot). y.message.held) (sym same);
        stamp = subst (λ (y : Slot). T y.message.held → y.message.stamp ≡ as_function since me) (sym same) x.sender.stamp;
        payload = subst (λ (y : Slot). T y.pending.payload → payload_of y.message ≡ p) (sym same) x.sender.payload;
        short = x.sender.short;
      }

  -- ── events of other streams ──
  pub track_else : (e : Event) → Elsewhere s b e → books_of s (step b e) ≡ books_of s b → Follows (step b e)
  track_else e els same_books =
      record {
        k = x.k;
        ks = x.ks;
        books = same_books ∙ x.books;
        own = own_moved K s me since p b v e x.k x.own;
        hold = x.hold;
        sender = sender_same e (untouched_step s b e els me).slot;
        old = old_step e;
        carrying = carrying_same K s me p b v x.carrying e (λ i. (untouched_step s b e els i).slot);
        a = x.a;
        inv = subst (λ Z. Inv D K.C K.works Z x.a base) (else_strand K s me p b e els x.k x.hold) x.inv;
      }

  -- ── a sending of the newest message ──
  send_slot : (w : Which) (to : To) → slot_at s me (step b (sends s 0 w to)) ≡ slot_at s me b
  send_slot w to =
      ap (λ (m : Module). slot_of s m.node) (module_step b (sends s 0 w to) me)
      ∙ cond_elim (λ (m : Module). slot_of s m.node ≡ slot_at s me b)
      (is_live me b && named to me && not (eqb me (owner_of w (book_of s 0 b))))
      (λ t. deaf s (frame_of w (book_of s 0 b)).id (frame_of w (book_of s 0 b)).payload (module_at me b).node
      (not_receiver (slot_at s me b) v.sender.0))
      (λ t. refl)

  -- the book in the bench is the newest
  newest_is : book_of s 0 b ≡ x.k
  newest_is = ap (nth no_book 0) x.books

  after_sending : (w : Which) (to : To) (a : Bool)
      → ((i : ℕ) → T (is_live i b) → T (is_receiver (slot_at s i b)) → T (named to i)
      → Carries K (K.C.carried p) (slot_at s i b) → Carries K (K.C.carried p) (slot_of s (hears_frame (frame_of w x.k) (module_at i b)).node))
      → Inv D K.C K.works (strand_of K s me p (step b (sends s 0 w to)) (book_after K s me p b v x.k x.ks x.books to w)
      x.hold) a base
      → Follows (step b (sends s 0 w to))
  after_sending w to a heard inv =
      record {
        k = book_after K s me p b v x.k x.ks x.books to w;
        ks = x.ks;
        books = books_after K s me p b v x.k x.ks x.books to w;
        own =
            own_entering K s me since p b v (sends s 0 w to) (on_frame w (sent_once (now b) (is_full to)) x.k)
            (own_on_frame K s me since p b x.k w (sent_once (now b) (is_full to)) (λ y. refl) (λ y c. c) x.own);
        hold = x.hold;
        sender = sender_same (sends s 0 w to) (send_slot w to);
        old = old_step (sends s 0 w to);
        carrying =
            carrying_sent K s me p b v x.carrying w to
            (λ i live r name old.
            subst (λ k. Carries K (K.C.carried p) (slot_of s (hears_frame (frame_of w k) (module_at i b)).node)) (sym newest_is) (heard i live r name old));
        a = a;
        inv = inv;
      }

  -- what an event makes pending carries what frames of code 2 do, since it has its cause
  bytes : (e : OC.Event) → OC.Legal K.C D Z₀.state e → Paced D K.C Z₀.state e → Bytes K s me p b v x.k x.own.size e
  bytes e l paced i c =
      let w = Z₀.state in
      K.works.cause_bytes (OC.step K.C w e) (OC.step K.C w e).now (K.C.payload (w.receiver i).slot)
      (K.works.cause_new w x.a base x.inv.books x.inv.slots e l paced i c)
      ∙ ap K.C.carried (message_step D K.C K.works w e)

  -- a receiver that hears still carries what it did, and what it was made to
  still_carries : (f : Frame) (i : ℕ) {h : K.C.Slot} {caused : Bool} → (let x = slot_at s i b in let y = slot_of s (hears_frame f (module_at i b)).node in
      Becomes K.C K.held x h caused y → (T caused → K.C.payload (K.held x) ≡ K.C.carried p)
      → Carries K (K.C.carried p) x → Carries K (K.C.carried p) y)
  still_carries f i = carries_on K (K.C.carried p) (slot_at s i b) (slot_of s (hears_frame f (module_at i b)).node)

  pub track_send : (w : Which) (to : To) → T (may_send b s x.k w) → Follows (step b (sends s 0 w to))
  track_send the_payload to t =
      let c = x.own.content the_payload (was_given b s x.k the_payload t) in
      let r = act_keeps D K.C K.works Z₀ x.a base x.inv (OH.on (OC.send_data (named to) (is_full to)))
      (tt, legal_data K s me p b v x.k x.own.sender x.hold to t) tt in
      after_sending the_payload to r.0
      (λ i live receives name. still_carries x.k.payload_frame i
      (data_heard K s me p b v x.k x.ks x.books to x.own.size x.own.sender c.0 c.1 x.sender.short i receives) (λ t. absurd t))
      (subst (λ Z. Inv D K.C K.works Z r.0 base)
      (data_strand K s me p b v x.k x.ks x.books to x.own.size x.own.sender c.0 c.1 x.sender.short x.hold) r.1)
  track_send the_confirmation to t =
      let c = x.own.content the_confirmation (was_given b s x.k the_confirmation t) in
      let legal = legal_conf K s me p b v x.k x.own.sender x.hold to t in
      let pends = bytes (OC.send_conf (named to) (is_full to)) legal tt in
      let r = act_keeps D K.C K.works Z₀ x.a base x.inv (OH.on (OC.send_conf (named to) (is_full to))) legal tt in
      after_sending the_confirmation to r.0
      (λ i live receives name. still_carries x.k.confirmation i
      (conf_heard K s me p b v x.k x.ks x.books to x.own.size x.own.sender c.0 c.1 pends i receives)
      (λ refuses. caused_bytes K s me p b v x.k x.own.size i (named to i) K.C.refuses live receives name refuses (pends i)))
      (subst (λ Z. Inv D K.C K.works Z r.0 base)
      (conf_strand K s me p b v x.k x.ks x.books to x.own.size x.own.sender c.0 c.1 pends x.hold) r.1)
  track_send (the_abort q y) to t =
      let given = was_given b s x.k (the_abort q y) t in
      let c = x.own.content (the_abort q y) given in
      let r = act_keeps D K.C K.works Z₀ x.a base x.inv (OH.on (OC.send_code2 q y (named to) (is_full to)))
      (legal_code2 K s me p b v x.k x.own.sender x.hold x.own.rows q y to t) tt in
      after_sending (the_abort q y) to r.0
      (λ i live receives name. still_carries (frame_of (the_abort q y) x.k) i
      (code2_heard K s me p b v x.k x.ks x.books to x.own.size q y given c.0 c.1 x.sender.short i receives) (λ t. absurd t))
      (subst (λ Z. Inv D K.C K.works Z r.0 base)
      (code2_strand K s me p b v x.k x.ks x.books to x.own.size q y given c.0 c.1 x.sender.short x.hold) r.1)

  -- ── a death ──
  pub track_death : (j : ℕ) → Follows (step b (dies j))
  track_death j = go (eqb me j) refl
    where
      dead : (a : Bool) → Inv D K.C K.works (strand_of K s me p (step b (dies j)) x.k x.hold) a base → Follows (step b (dies j))
      dead a inv =
          record {
            k = x.k;
            ks = x.ks;
            books = books_dead s b j ∙ x.books;
            own = own_moved K s me since p b v (dies j) x.k x.own;
            hold = x.hold;
            sender = sender_same (dies j) (ap (slot_of s) (dead_node b j me));
            old = old_step (dies j);
            carrying = carrying_same K s me p b v x.carrying (dies j) (λ i. ap (slot_of s) (dead_node b j i));
            a = a;
            inv = inv;
          }

      r₁ : (a' : Bool) × Inv D K.C K.works (OH.act K.C Z₀ (OH.on (OC.die j))) a' base
      r₁ = act_keeps D K.C K.works Z₀ x.a base x.inv (OH.on (OC.die j)) tt tt

      go : (t : Bool) → eqb me j ≡ t → Follows (step b (dies j))
      go false e =
          dead r₁.0 (subst (λ Z. Inv D K.C K.works Z r₁.0 base) (die_other_strand K s me p b x.k x.hold j e) r₁.1)
      go true e =
          let r₂ = act_keeps D K.C K.works (OH.act K.C Z₀ (OH.on (OC.die j))) r₁.0 base r₁.1 OH.sender_dies tt tt in
          dead r₂.0 (subst (λ Z. Inv D K.C K.works Z r₂.0 base) (die_own_strand K s me p b x.k x.hold j e) r₂.1)

  -- ── a tick ──
  abbrev y₀ : Slot
  y₀ = slot_at s me b

  neither : (age : ℕ) → (late age y₀ ≡ false) × (due age y₀ ≡ false)
  neither age = not_late_nor_due age y₀ (not_receiver y₀ v.sender.0)

  lapsed_sender : (age : ℕ) (o : Bool) → hold_over age y₀ ≡ o → (let y = lapsed age y₀ in
      (y.message.held ≡ (y₀.message.held && not o)) × (y.pending.payload ≡ y₀.pending.payload)
      × (payload_of y.message ≡ payload_of y₀.message)
      × (T y.message.held → y.message.stamp ≡ y₀.message.stamp))
  unfolding lapsed
  lapsed_sender age true e = rw ((neither age).0, (neither age).1, e) (sym (none y₀.message.held), refl, refl, λ t. absurd t)
    where
      none : (h : Bool) → (h && false) ≡ false
      none true = refl
      none false = refl
  lapsed_sender age false e = rw ((neither age).0, (neither age).1, e) (sym (all_of y₀.message.held), refl, refl, λ t. refl)
    where
      all_of : (h : Bool) → (h && true) ≡ h
      all_of true = refl
      all_of false = refl

  abbrev hold' : Bool
  hold' = x.hold && not (ltb K.C.hold (OS.move (lives K s me p b) (count_of b) me - as_function x.k.payload_frame.since me))

  sender_ticked : Sender s me since p (step b ticks) hold'
  sender_ticked = go (is_live me b) refl
    where
      slot : slot_at s me (step b ticks) ≡ slot_of s (ticked unbounded (module_at me b)).node
      slot = ap (λ (m : Module). slot_of s m.node) (module_step b ticks me)

      age : ℕ
      age = count_of b me + 1 - y₀.message.stamp

      go : (l : Bool) → is_live me b ≡ l → Sender s me since p (step b ticks) hold'
      go false e =
          let same : slot_at s me (step b ticks) ≡ y₀ = slot ∙ ap (λ l. slot_of s (cond l (ticked_live (module_at me b)) (module_at me b)).node)
          e in
          record {
            holds = λ t. absurd (not_so e ((moved_step s b ticks me (v.nodes me)).live t));
            stamp = subst (λ (y : Slot). T y.message.held → y.message.stamp ≡ as_function since me) (sym same) x.sender.stamp;
            payload = subst (λ (y : Slot). T y.pending.payload → payload_of y.message ≡ p) (sym same) x.sender.payload;
            short = x.sender.short;
          }
      go true e =
          let moved : slot_at s me (step b ticks) ≡ lapsed age y₀ =
          slot ∙ (ap (λ l. slot_of s (cond l (ticked_live (module_at me b)) (module_at me b)).node) e
          ∙ tick_slot_law s (module_at me b).node) in
          let z = lapsed_sender age (hold_over age y₀) refl in
          record {
            holds =
                λ t. hold_is e x.hold (x.sender.holds (so e)) ∙ sym
                (ap (λ (y : Slot). y.message.held) moved ∙ (z.0 ∙ ap (λ o. y₀.message.held && not o) (K.hold y₀ v.sender.0 v.sender.1 age)));
            stamp = subst (λ (y : Slot). T y.message.held → y.message.stamp ≡ as_function since me) (sym moved)
                (λ t. z.3 t ∙ x.sender.stamp (and_l y₀.message.held (not (hold_over age y₀)) (subst T z.0 t)));
            payload =
                subst (λ (y : Slot). T y.pending.payload → payload_of y.message ≡ p) (sym moved)
                (λ t. z.2 ∙ x.sender.payload (subst T z.1 t));
            short = x.sender.short;
          }
        where
          hold_is : is_live me b ≡ true → (h : Bool) → h ≡ y₀.message.held
              → (h && not (ltb K.C.hold (OS.move (lives K s me p b) (count_of b) me - as_function x.k.payload_frame.since me)))
              ≡ (y₀.message.held && not (y₀.message.held && ltb K.C.hold age))
          hold_is live h e =
              let now = move_reached (is_live me b) (count_of b me) (so live) in
              let asked = ap (λ t. as_function t me) x.own.asked in
              ap (λ h. h && not (ltb K.C.hold (OS.move (lives K s me p b) (count_of b) me - as_function x.k.payload_frame.since me))) e
              ∙ held_only y₀.message.held (λ t. omega (arith, now, asked, x.sender.stamp t))
            where
              held_only : (g : Bool) {a a' : ℕ} → (T g → a ≡ a') → (g && not (ltb K.C.hold a)) ≡ (g && not (g && ltb K.C.hold a'))
              held_only true same = ap (λ a. not (ltb K.C.hold a)) (same tt)
              held_only false same = refl

  pub track_tick : T (may b ticks) → Follows (step b ticks)
  track_tick t =
      let common : OH.Common K.C Z₀ (lives K s me p b) =
      unfold view in record { receivers = λ i l. and_l (is_live i b) (is_receiver (slot_at s i b)) l; sender = λ l. l } in
      let legal = legal_tick K s me p b v x.k x.own.sender x.hold x.ks x.books t in
      let even = (stretch D K.C K.works Z₀ x.a base x.inv (lives K s me p b) (inl common)).receivers in
      let pends = bytes (OC.tick (lives K s me p b)) legal even in
      let r = act_keeps D K.C K.works Z₀ x.a base x.inv (OH.ticks (lives K s me p b)) (inl common, legal) tt in
      record {
        k = entering s b.modules (step b ticks).modules x.k;
        ks = x.ks;
        books = books_ticked s b ∙ ap (on_newest (entering s b.modules (step b ticks).modules)) x.books;
        own = own_entering K s me since p b v ticks x.k x.own;
        hold = hold';
        sender = sender_ticked;
        old = old_step ticks;
        carrying =
            carrying_ticked K s me p b v x.carrying
            (λ i live receives late.
            caused_bytes K s me p b v x.k x.own.size i (is_live i b) (K.C.late (suc (count_of b i))) live receives live
            (subst (λ t. T (K.C.late t (K.held (slot_at s i b)))) (add-one (count_of b i)) late) (pends i));
        a = r.0;
        inv = subst (λ Z. Inv D K.C K.works Z r.0 base)
            (tick_strand K s me p b v x.k x.own.size pends x.hold) r.1;
      }
