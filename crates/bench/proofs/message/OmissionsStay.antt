-- Once every live module has counted past a message its omissions stay as they are, to the end of the history.
use Prim.Native.Nat.{ℕ, zero, suc, ◌+◌, ◌<◌}
use native.Mathlib.Omega.{arith}
use mathlib.Core.Path.{◌≡◌, refl, ap, sym, subst, ◌∙◌}
use mathlib.Core.Logic.{◌⊎◌, inl, inr}
use mathlib.Core.Bool.{Bool, true, false, ◌||◌, cond}
use mathlib.Core.List.{List, [], ◌∷◌}
use lib.Dec.{T}
use Rattle.wire.specs.declared.ids.Stream.{Stream}
use Rattle.node.specs.declared.slots.Slot.{Slot}
use Rattle.node.specs.Nodes.{slot_of, Outcome}
use Rattle.node.specs.Slots.{is_receiver}
use Rattle.one_stream.proofs.Chain.{Over, closed_data, closed_conf, closed_code2}
use Rattle.one_stream.proofs.Truth.{cond_elim, cond_true, and_l, and_r, both, decide, so}
use Rattle.bench.specs.Bench.{Module, Bench, Book, Frame, Ledger, no_book, module_at, is_live, slot_at, books_in, books_of, book_of, now, Which}
use Rattle.bench.specs.Bench.{the_payload, the_confirmation, the_abort, Moment, same_stream}
use Rattle.bench.specs.Events.{Event, asks, gives, sends, ticks, dies, step, run, is_accepted, is_next, on_newest, on_frame, which_of}
use Rattle.bench.specs.Events.{gave_out, next, named, all, sent_once, is_full}
use Rattle.bench.specs.Lists.{nth, at, every}
use Rattle.bench.specs.Demands.{accepts}
use Rattle.bench.specs.Rules.{may, keeps_so_far, one, omission, omissions, one_omission, count, count_all}
use Rattle.bench.proofs.laws.SlotAfterCall.{Same}
use Rattle.bench.proofs.laws.ModuleAfterEvent.{module_step, ticked_live, refused_asks, decide_stream, count_of, as_function}
use Rattle.bench.proofs.laws.BooksAfterEvent.{with_aborts, entering, books_asked, books_given, books_sent, books_ticked, books_dead}
use Rattle.bench.proofs.laws.TicksCounted.{live_back, count_step}
use Rattle.bench.proofs.message.ClassOnBench.{may_send, ClassOnBench}
use Rattle.bench.proofs.message.ModuleSeen.{view, ticked_receiver, ticked_other}
use Rattle.bench.proofs.message.StreamSeen.{enter_none}
use Rattle.bench.proofs.message.SeenAfterOwnEvent.{Valid, valid_step, strand_of}
use Rattle.bench.proofs.message.RulesSeen.{owner_lives, legal_data, legal_conf, legal_code2}
use Rattle.bench.proofs.message.MessageKept.{Track}
use Rattle.bench.proofs.message.RequestOpens.{logs_of}
use Rattle.bench.proofs.message.ThroughHistory.{Phase, asked, opened, else_books, accepts_it, it_accepts, may_send_law, sends_elsewhere, track_step}
use Rattle.one_stream.specs.Sendings as OS
use Rattle.one_stream.specs.Classes as OC
use Rattle.one_stream.proofs.Histories as OH

-- giving out changes no omission
given_omits : (o : Outcome) (w : Which) (k : Book) → omissions (on_frame w (gave_out o) k) ≡ omissions k
given_omits o the_payload k = refl
given_omits o the_confirmation k = refl
given_omits o (the_abort q y) k = ap (λ n. one (omission k.payload_frame) + one (omission k.confirmation) + n) (all_rows q k.aborts)
  where
    one_row : (y : ℕ) (fs : List Frame) → count (at (gave_out o) y fs) ≡ count fs
    one_row y [] = refl
    one_row zero (f ∷ fs) = refl
    one_row (suc y) (f ∷ fs) = ap (λ n. one (omission f) + n) (one_row y fs)

    all_rows : (q : ℕ) (rows : List (List Frame)) → count_all (at (at (gave_out o) y) q rows) ≡ count_all rows
    all_rows q [] = refl
    all_rows zero (row ∷ rows) = ap (λ n. n + count_all rows) (one_row y row)
    all_rows (suc q) (row ∷ rows) = ap (λ n. count row + n) (all_rows q rows)

nth_newest : (f : Book → Book) (n : ℕ) (ks : List Book) → nth no_book (suc n) (on_newest f ks) ≡ nth no_book (suc n) ks
nth_newest f n [] = refl
nth_newest f n (k ∷ ks) = refl

-- every live module has counted past the message
abbrev pub Counted : {n : ℕ} {D : OS.Delays} → ClassOnBench n D → Moment → Bench → Type 0
Counted {n} {D} K since b = (i : ℕ) → T (is_live i b) → as_function since i + K.C.hold < count_of b i + D.e

counted_step : {n : ℕ} {D : OS.Delays} (K : ClassOnBench n D) (since : Moment) (b : Bench) (e : Event) → Counted K since b → Counted K since (step b e)
counted_step K since b e c i l = omega (arith, c i (live_back b e i l), count_step b e i l)

module _ {n : ℕ} {D : OS.Delays} (K : ClassOnBench n D) (s : Stream) (me : ℕ) (since : Moment) (p : List ℕ) (base : ℕ → List OC.Note)
    (b : Bench) (v : Valid n D s me b) (x : Track K s me since p base b) where
  abbrev Z₀ : OH.Strand K.C
  Z₀ = strand_of K s me p b x.k x.hold

  -- only the newest message may be sent
  send_newest : (n : ℕ) (w : Which) → T (may_send b s (nth no_book n (books_of s b)) w) → (n ≡ 0) × T (may_send b s x.k w)
  send_newest n w h = go n (subst (λ ks. T (may_send b s (nth no_book n ks) w)) x.books h)
    where
      go : (n : ℕ) → T (may_send b s (nth no_book n (x.k ∷ x.ks)) w) → (n ≡ 0) × T (may_send b s x.k w)
      go zero h = (refl, h)
      go (suc n) h = absurd (x.old n w h)

  module _ (c : Counted K since b) where
    over_now : (i : ℕ) → T (is_live i b) → Over D K.C Z₀.state i
    over_now i l = omega (arith, c i l, ap (λ t. as_function t i) x.own.asked)

    -- nothing of it may be sent any more
    no_more : (w : Which) → T (may_send b s x.k w) → ⊥
    no_more the_payload h =
        closed_data D K.C K.works Z₀ x.a base x.inv x.k.sender (over_now x.k.sender (owner_lives b s x.k the_payload h)) (named all) true
        (legal_data K s me p b v x.k x.own.sender x.hold all h)
    no_more the_confirmation h =
        closed_conf D K.C K.works Z₀ x.a base x.inv x.k.sender (over_now x.k.sender (owner_lives b s x.k the_confirmation h)) (named all)
        true (legal_conf K s me p b v x.k x.own.sender x.hold all h)
    no_more (the_abort q y) h =
        closed_code2 D K.C K.works Z₀ x.a base x.inv q y (named all) true
        (λ l. inr (over_now q (owner_lives b s x.k (the_abort q y) h)))
        (legal_code2 K s me p b v x.k x.own.sender x.hold x.own.rows q y all h)

    -- every live receiver is idle, so that a tick makes nothing pending
    tick_calm : (i : ℕ) → (slot_at s i (step b ticks)).pending.abort ≡ (slot_at s i b).pending.abort
    unfolding view
    tick_calm i =
        ap (λ (m : Module). (slot_of s m.node).pending.abort) (module_step b ticks i) ∙ go (is_live i b) refl (is_receiver y) refl
      where
        m : Module
        m = module_at i b

        y : Slot
        y = slot_at s i b

        idle : T (is_live i b) → T (is_receiver y) → K.held y ≡ K.C.idle
        idle l r =
            sym (cond_true (is_receiver y) (K.held y) K.C.idle r)
            ∙ K.works.idle Z₀.state x.a base x.inv.books x.inv.slots i (both (is_live i b) (is_receiver y) l r) (inr (over_now i l))

        or_false : (p : Bool) → (p || false) ≡ p
        or_false true = refl
        or_false false = refl

        go : (l : Bool) → is_live i b ≡ l → (r : Bool) → is_receiver y ≡ r
            → (slot_of s (cond l (ticked_live m) m).node).pending.abort ≡ y.pending.abort
        go false el r er = refl
        go true el false er = (ticked_other K s m.node (v.nodes i) (v.receivers i) er).pending
        go true el true er =
            (ticked_receiver K s m.node (v.nodes i) (v.receivers i) (so er)).pends
            ∙ (ap (λ h. y.pending.abort || K.C.late (count_of b i + 1) h) (idle (so el) (so er))
            ∙ (ap (λ c. y.pending.abort || c) (K.works.calm (count_of b i + 1)) ∙ or_false y.pending.abort))

    -- the omissions of the newest message
    same_newest : (e : Event) → (T (accepts s b e) → ⊥) → T (may b e) → omissions (book_of s 0 (step b e)) ≡ omissions (book_of s 0 b)
    same_newest (asks j z q) shut m = go (decide_stream s z)
      where
        go : (s ≡ z) ⊎ (Same s z → ⊥) → omissions (book_of s 0 (step b (asks j z q))) ≡ omissions (book_of s 0 b)
        go (inl e) = ap (λ y. omissions (book_of s 0 y)) (refused_asks b j z q (λ t. shut (accepts_it s b j z q e t)))
        go (inr other) = ap (λ ks. omissions (nth no_book 0 ks)) (else_books s b (asks j z q) other)
    same_newest (gives j z d) shut m = go (decide_stream s z)
      where
        go : (s ≡ z) ⊎ (Same s z → ⊥) → omissions (book_of s 0 (step b (gives j z d))) ≡ omissions (book_of s 0 b)
        go (inr other) = ap (λ ks. omissions (nth no_book 0 ks)) (else_books s b (gives j z d) other)
        go (inl e) =
            let t = subst (λ y. T (is_next j y d b)) (sym e) (unfold may in m) in
            let change = on_frame (which_of j d) (gave_out (next j b)) in
            subst (λ y. omissions (book_of s 0 (step b (gives j y d))) ≡ omissions (book_of s 0 b)) e
            (ap (λ ks. omissions (nth no_book 0 ks)) (books_given s b v.ledger j d t ∙ ap (on_newest change) x.books)
            ∙ (given_omits (next j b) (which_of j d) x.k ∙ ap (λ ks. omissions (nth no_book 0 ks)) (sym x.books)))
    same_newest (sends z n w to) shut m = go (decide_stream s z)
      where
        go : (s ≡ z) ⊎ (Same s z → ⊥) → omissions (book_of s 0 (step b (sends z n w to))) ≡ omissions (book_of s 0 b)
        go (inl e) = absurd (no_more w (send_newest n w (subst (λ y. T (may_send b y (book_of y n b) w)) (sym e) (may_send_law b z n w to m))).1)
        go (inr other) =
            ap (λ ks. omissions (nth no_book 0 ks)) (else_books s b (sends z n w to) (sends_elsewhere s b v.labels z n w to other m))
    same_newest ticks shut m = ap (λ ks. omissions (nth no_book 0 ks)) (books_ticked s b ∙ stay (books_of s b))
      where
        stay : (ks : List Book) → on_newest (entering s b.modules (step b ticks).modules) ks ≡ ks
        stay [] = refl
        stay (k ∷ ks) =
            ap (λ rows. with_aborts rows k ∷ ks)
            (enter_none (now (step b ticks)) s b.modules (step b ticks).modules k.aborts tick_calm)
    same_newest (dies j) shut m = ap (λ ks. omissions (nth no_book 0 ks)) (books_dead s b j)

  -- an older book does not change
  same_older : (o : ℕ) (e : Event) → (T (accepts s b e) → ⊥) → T (may b e) → book_of s (suc o) (step b e) ≡ book_of s (suc o) b
  same_older o (asks j z q) shut m = go (decide_stream s z)
    where
      go : (s ≡ z) ⊎ (Same s z → ⊥) → book_of s (suc o) (step b (asks j z q)) ≡ book_of s (suc o) b
      go (inl e) = ap (book_of s (suc o)) (refused_asks b j z q (λ t. shut (accepts_it s b j z q e t)))
      go (inr other) = ap (nth no_book (suc o)) (else_books s b (asks j z q) other)
  same_older o (gives j z d) shut m = go (decide_stream s z)
    where
      go : (s ≡ z) ⊎ (Same s z → ⊥) → book_of s (suc o) (step b (gives j z d)) ≡ book_of s (suc o) b
      go (inr other) = ap (nth no_book (suc o)) (else_books s b (gives j z d) other)
      go (inl e) =
          let t = subst (λ y. T (is_next j y d b)) (sym e) (unfold may in m) in
          subst (λ y. book_of s (suc o) (step b (gives j y d)) ≡ book_of s (suc o) b) e
          (ap (nth no_book (suc o)) (books_given s b v.ledger j d t)
          ∙ nth_newest (on_frame (which_of j d) (gave_out (next j b))) o (books_of s b))
  same_older o (sends z n w to) shut m = go (decide_stream s z)
    where
      go : (s ≡ z) ⊎ (Same s z → ⊥) → book_of s (suc o) (step b (sends z n w to)) ≡ book_of s (suc o) b
      go (inr other) = ap (nth no_book (suc o)) (else_books s b (sends z n w to) (sends_elsewhere s b v.labels z n w to other m))
      go (inl e) =
          let newest = (send_newest n w (subst (λ y. T (may_send b y (book_of y n b) w)) (sym e) (may_send_law b z n w to m))).0 in
          let change = on_frame w (sent_once (now b) (is_full to)) in
          subst (λ y. book_of s (suc o) (step b (sends y n w to)) ≡ book_of s (suc o) b) e
          (ap (nth no_book (suc o)) (books_sent s b v.ledger n w to)
          ∙ (nth_newest (entering s b.modules (step b (sends s n w to)).modules) o (at change n (books_of s b))
          ∙ (ap (λ y. nth no_book (suc o) (at change y (books_of s b))) newest ∙ nth_newest change o (books_of s b))))
  same_older o ticks shut m =
      ap (nth no_book (suc o)) (books_ticked s b) ∙ nth_newest (entering s b.modules (step b ticks).modules) o (books_of s b)
  same_older o (dies j) shut m = ap (nth no_book (suc o)) (books_dead s b j)

-- ── to the end of the history ──
module _ {n : ℕ} {D : OS.Delays} (K : ClassOnBench n D) (s : Stream) (me : ℕ) (c : ℕ) where
  -- the judged message is the stream's newest, and its time is over; or it is an older one
  pub data Stage (b : Bench) : Type 0 where
    newest : (since : Moment) (p : List ℕ) (base : ℕ → List OC.Note) → Track K s me since p base b → Counted K since b
        → omissions (book_of s 0 b) ≡ c → Stage b
    older : (n : ℕ) (since : Moment) (p : List ℕ) (base : ℕ → List OC.Note) → Track K s me since p base b
        → omissions (book_of s (suc n) b) ≡ c → Stage b

  stays_put : (b : Bench) → Valid n D s me b → Stage b → (e : Event) → (T (accepts s b e) → ⊥) → T (may b e) → Stage (step b e)
  stays_put b v (newest since p base x k q) e shut m =
      newest since p base (track_step K s me since p base b v x e shut m) (counted_step K since b e k)
      (same_newest K s me since p base b v x k e shut m ∙ q)
  stays_put b v (older o since p base x q) e shut m =
      older o since p base (track_step K s me since p base b v x e shut m)
      (ap omissions (same_older K s me since p base b v x o e shut m) ∙ q)

  phase_of : (b : Bench) → Stage b → Phase K s me b
  phase_of b (newest since p base x k q) = asked since p base x
  phase_of b (older n since p base x q) = asked since p base x

  pub place_of : (b : Bench) → Stage b → (n : ℕ) × (omissions (book_of s n b) ≡ c)
  place_of b (newest since p base x k e) = (0, e)
  place_of b (older n since p base x e) = (suc n, e)

  moves_down : (b : Bench) → Valid n D s me b → Stage b → (e : Event) → T (accepts s b e) → Stage (step b e)
  moves_down b v g (asks j z q) o =
      let (e, t) = it_accepts s b j z q o in
      let t' = subst (λ y. T (is_accepted j y q b)) (sym e) t in
      let w = place_of b g in
      subst (λ y. Stage (step b (asks j y q))) e
      (older w.0 (now b) q (logs_of s b) (opened K s me b v (phase_of b g) j q t')
      (ap (λ ks. omissions (nth no_book (suc w.0) ks)) (books_asked s b v.ledger j q t') ∙ w.1))
  moves_down b v g (gives j z q) o = absurd o
  moves_down b v g (sends z n w to) o = absurd o
  moves_down b v g ticks o = absurd o
  moves_down b v g (dies j) o = absurd o

  pub stage_run : (h : List Event) (b : Bench) → Valid n D s me b → Stage b → T (keeps_so_far b h) → Stage (run b h)
  stage_run [] b v g k = g
  stage_run (e ∷ es) b v g k =
      stage_run es (step b e) (valid_step e v) (go (decide (accepts s b e))) (and_r (may b e) (keeps_so_far (step b e) es) k)
    where
      go : T (accepts s b e) ⊎ (T (accepts s b e) → ⊥) → Stage (step b e)
      go (inl o) = moves_down b v g e o
      go (inr n) = stays_put b v g e n (and_l (may b e) (keeps_so_far (step b e) es) k)

-- ── rule 2 at the end says it of every message ──
pub every_book : (ks : List Book) → T (every one_omission ks) → (n : ℕ) → T (one_omission (nth no_book n ks))
every_book [] h n = tt
every_book (k ∷ ks) h zero = and_l (one_omission k) (every one_omission ks) h
every_book (k ∷ ks) h (suc n) = every_book ks (and_r (one_omission k) (every one_omission ks) h) n

pub every_ledger : (s : Stream) (ls : List Ledger) → T (every (λ (l : Ledger). every one_omission l.books) ls)
    → T (every one_omission (books_in s ls))
every_ledger s [] h = tt
every_ledger s (l ∷ ls) h =
    cond_elim (λ ks. T (every one_omission ks)) (same_stream l.stream s)
    (λ t. and_l (every one_omission l.books) (every (λ (l : Ledger). every one_omission l.books) ls) h)
    (λ t. every_ledger s ls (and_r (every one_omission l.books) (every (λ (l : Ledger). every one_omission l.books) ls) h))
