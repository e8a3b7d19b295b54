-- What every event leaves of a predicate of books, and of a predicate of their frames; and that each frame of a stream's books carries
-- that stream.
use Prim.Native.Nat.{ℕ, zero, suc}
use mathlib.Core.Path.{◌≡◌, refl, ap, sym, subst}
use mathlib.Core.Logic.{◌⊎◌, inl, inr}
use mathlib.Core.Bool.{Bool, true, false, ◌||◌, cond}
use mathlib.Core.List.{List, [], ◌∷◌, map}
use lib.Dec.{T}
use Rattle.wire.specs.declared.ids.Stream.{Stream}
use Rattle.wire.specs.Identifiers.{stream_of}
use Rattle.one_stream.proofs.Truth.{cond_elim, decide}
use Rattle.bench.specs.Bench.{Module, Bench, Frame, Which, the_payload, the_confirmation, the_abort, Book, Ledger, books_in, books_of}
use Rattle.bench.specs.Bench.{book_of, no_book, pending_since, counts, now, frame_of, owner_of, same_stream}
use Rattle.bench.specs.Events.{Event, asks, gives, sends, ticks, dies, step, is_accepted, is_next, new_book, on_frame, which_of}
use Rattle.bench.specs.Events.{gave_out, sent_once, enter, is_full, next, became_pending}
use Rattle.bench.specs.Lists.{nth, at}
use Rattle.bench.proofs.laws.SlotAfterCall.{Same}
use Rattle.bench.proofs.laws.ModuleAfterEvent.{refused_asks, refused_gives, decide_stream, next_done}
use Rattle.bench.proofs.laws.BooksAfterEvent.{listed, entering, listed_step, books_asked, books_given, books_sent, books_ticked, books_dead}
use Rattle.bench.proofs.laws.BooksAfterEvent.{books_asked_other, books_given_other, books_sent_other}

-- ── books that are not there ──
pub unlisted : (z : Stream) (ls : List Ledger) → (T (listed z ls) → ⊥) → books_in z ls ≡ []
unlisted z [] n = refl
unlisted z (l ∷ ls) n = go (same_stream l.stream z) n (unlisted z ls)
  where
    go : (h : Bool) → (T (h || listed z ls) → ⊥) → ((T (listed z ls) → ⊥) → books_in z ls ≡ []) → cond h l.books (books_in z ls) ≡ []
    go true n rest = absurd (n tt)
    go false n rest = rest n

-- a book that is not there has no frame that was given out
pub no_frame_law : (n : ℕ) (w : Which) → T (frame_of w (nth no_book n [])).given → ⊥
no_frame_law n the_payload t = t
no_frame_law n the_confirmation t = t
no_frame_law n (the_abort q x) t = t

-- ── what every book of a bench has ──
abbrev pub AllBooks : (Book → Type 0) → List Book → Type 0
AllBooks Q [] = Unit {0}
AllBooks Q (k ∷ ks) = Q k × AllBooks Q ks

module _ (Q : Book → Type 0) where
  all_at : (f : Book → Book) → ((k : Book) → Q k → Q (f k)) → (m : ℕ) (ks : List Book) → AllBooks Q ks → AllBooks Q (at f m ks)
  all_at f h m [] a = a
  all_at f h zero (k ∷ ks) a = (h k a.0, a.1)
  all_at f h (suc m) (k ∷ ks) a = (a.0, all_at f h m ks a.1)

  pub book_at : Q no_book → (n : ℕ) (ks : List Book) → AllBooks Q ks → Q (nth no_book n ks)
  book_at none n [] a = none
  book_at none zero (k ∷ ks) a = a.0
  book_at none (suc n) (k ∷ ks) a = book_at none n ks a.1

  from_places : (ks : List Book) → ((n : ℕ) → Q (nth no_book n ks)) → AllBooks Q ks
  from_places [] a = tt
  from_places (k ∷ ks) a = (a zero, from_places ks (λ n. a (suc n)))

-- A predicate of a stream's books is kept by every event, if a book that is opened has it, if it stays where the event gives a frame
-- out or sends one, and if it stays where aborts become pending.
module _ (Q : Stream → Book → Type 0) where
  abbrev pub EveryBook : Bench → Type 0
  EveryBook b = (z : Stream) → AllBooks (Q z) (books_of z b)

  abbrev pub Stays : Bench → Event → Type 0
  Stays b (asks j z p) = T (is_accepted j z p b) → Q z (new_book j b)
  Stays b (gives j z c) = T (is_next j z c b) → (k : Book) → Q z k → Q z (on_frame (which_of j c) (gave_out (next j b)) k)
  Stays b (sends z n w to) = (k : Book) → Q z k → Q z (on_frame w (sent_once (now b) (is_full to)) k)
  Stays b ticks = Unit {0}
  Stays b (dies j) = Unit {0}

  module _ (enters : (z : Stream) (before after : List Module) (k : Book) → Q z k → Q z (entering z before after k))
      (b : Bench) (a : EveryBook b) where
    entered : (e : Event) (z : Stream) (ks : List Book) → AllBooks (Q z) ks
        → AllBooks (Q z) (at (entering z b.modules (step b e).modules) 0 ks)
    entered e z = all_at (Q z) (entering z b.modules (step b e).modules) (enters z b.modules (step b e).modules) 0

    -- an event of stream z₀ and what it makes of the books of this stream, if there is a ledger, and of the others
    by_stream : (e : Event) (z₀ : Stream) → (T (listed z₀ b.ledgers) → AllBooks (Q z₀) (books_of z₀ (step b e)))
        → ((z : Stream) → (Same z z₀ → ⊥) → AllBooks (Q z) (books_of z (step b e))) → EveryBook (step b e)
    by_stream e z₀ own others z = go (decide_stream z z₀) (decide (listed z₀ b.ledgers))
      where
        none : (T (listed z₀ b.ledgers) → ⊥) → books_of z₀ (step b e) ≡ []
        none n = unlisted z₀ (step b e).ledgers (λ t. n (subst T (listed_step z₀ b e) t))

        go : (z ≡ z₀) ⊎ (Same z z₀ → ⊥) → T (listed z₀ b.ledgers) ⊎ (T (listed z₀ b.ledgers) → ⊥) → AllBooks (Q z) (books_of z (step b e))
        go (inr other) d = others z other
        go (inl q) (inl l) = subst (λ y. AllBooks (Q y) (books_of y (step b e))) (sym q) (own l)
        go (inl q) (inr n) = subst (λ y. AllBooks (Q y) (books_of y (step b e))) (sym q) (subst (AllBooks (Q z₀)) (sym (none n)) tt)

    pub books_step : (e : Event) → Stays b e → EveryBook (step b e)
    books_step (asks j z p) stays = go (decide (is_accepted j z p b))
      where
        go : T (is_accepted j z p b) ⊎ (T (is_accepted j z p b) → ⊥) → EveryBook (step b (asks j z p))
        go (inl t) =
            by_stream (asks j z p) z (λ l. subst (AllBooks (Q z)) (sym (books_asked z b l j p t)) (stays t, a z))
            (λ y other. subst (AllBooks (Q y)) (sym (books_asked_other y b j z p other)) (a y))
        go (inr n) = subst EveryBook (sym (refused_asks b j z p n)) a
    books_step (gives j z c) stays = go (decide (is_next j z c b))
      where
        go : T (is_next j z c b) ⊎ (T (is_next j z c b) → ⊥) → EveryBook (step b (gives j z c))
        go (inl t) =
            by_stream (gives j z c) z
            (λ l. subst (AllBooks (Q z)) (sym (books_given z b l j c t)) (all_at (Q z) _ (stays t) 0 (books_of z b) (a z)))
            (λ y other. subst (AllBooks (Q y)) (sym (books_given_other y b j z c other)) (a y))
        go (inr n) = subst EveryBook (sym (refused_gives b j z c n)) a
    books_step (sends z n w to) stays =
        let e = sends z n w to in
        let change = on_frame w (sent_once (now b) (is_full to)) in
        by_stream e z
        (λ l. subst (AllBooks (Q z)) (sym (books_sent z b l n w to))
        (entered e z (at change n (books_of z b)) (all_at (Q z) change stays n (books_of z b) (a z))))
        (λ y other. subst (AllBooks (Q y)) (sym (books_sent_other y b z n w to other)) (entered e y (books_of y b) (a y)))
    books_step ticks stays = λ z. subst (AllBooks (Q z)) (sym (books_ticked z b)) (entered ticks z (books_of z b) (a z))
    books_step (dies j) stays = λ z. subst (AllBooks (Q z)) (sym (books_dead z b j)) (a z)

-- ── what every frame of a book has, by its owner and its code ──
abbrev pub code_in : Which → ℕ
code_in the_payload = 0
code_in the_confirmation = 1
code_in (the_abort owner place) = 2

abbrev pub EveryFrame : ((owner code : ℕ) → Frame → Type 0) → Book → Type 0
EveryFrame P k = (w : Which) → P (owner_of w k) (code_in w) (frame_of w k)

-- the element at a place, where that of one place is changed
at_elim : {A : Type 0} (d : A) (P : A → Type 0) (f : A → A) (i j : ℕ) (l : List A) → P (nth d i l)
    → (i ≡ j → P (nth d i l) → P (f (nth d i l))) → P (nth d i (at f j l))
at_elim d P f i j [] p g = p
at_elim d P f zero zero (x ∷ xs) p g = g refl p
at_elim d P f zero (suc j) (x ∷ xs) p g = p
at_elim d P f (suc i) zero (x ∷ xs) p g = p
at_elim d P f (suc i) (suc j) (x ∷ xs) p g = at_elim d P f i j xs p (λ e. g (ap suc e))

module _ (P : (owner code : ℕ) → Frame → Type 0) where
  pub every_on_frame : (w₀ : Which) (f : Frame → Frame) (k : Book)
      → ((x : Frame) → P (owner_of w₀ k) (code_in w₀) x → P (owner_of w₀ k) (code_in w₀) (f x)) → EveryFrame P k → EveryFrame P (on_frame w₀ f k)
  every_on_frame the_payload f k h a the_payload = h k.payload_frame (a the_payload)
  every_on_frame the_payload f k h a the_confirmation = a the_confirmation
  every_on_frame the_payload f k h a (the_abort q x) = a (the_abort q x)
  every_on_frame the_confirmation f k h a the_payload = a the_payload
  every_on_frame the_confirmation f k h a the_confirmation = h k.confirmation (a the_confirmation)
  every_on_frame the_confirmation f k h a (the_abort q x) = a (the_abort q x)
  every_on_frame (the_abort q x) f k h a the_payload = a the_payload
  every_on_frame (the_abort q x) f k h a the_confirmation = a the_confirmation
  every_on_frame (the_abort q x) f k h a (the_abort q' x') =
      let y = frame_of (the_abort q' x') k in
      at_elim [] (λ row. P q' 2 (nth (pending_since []) x' row)) (at f x) q' q k.aborts (a (the_abort q' x'))
      (λ same p. at_elim (pending_since []) (P q' 2) f x' x (nth [] q' k.aborts) p
      (λ e. subst (λ o. P o 2 y → P o 2 (f y)) (sym same) (h y)))

  pub every_entering : (s : Stream) (before after : List Module) → ((owner : ℕ) → P owner 2 (pending_since (counts after)))
      → (k : Book) → EveryFrame P k → EveryFrame P (entering s before after k)
  every_entering s before after new k a the_payload = a the_payload
  every_entering s before after new k a the_confirmation = a the_confirmation
  every_entering s before after new k a (the_abort q x) = go before after k.aborts q (λ x. a (the_abort q x)) x
    where
      Row : List Frame → Type 0
      Row row = (x : ℕ) → P q 2 (nth (pending_since []) x row)

      one_more : (row : List Frame) → Row row → Row (pending_since (counts after) ∷ row)
      one_more row r zero = new q
      one_more row r (suc x) = r x

      go : (ms ns : List Module) (rows : List (List Frame)) (i : ℕ) → Row (nth [] i rows)
          → Row (nth [] i (enter (counts after) s ms ns rows))
      go [] ns rows i r = r
      go (m ∷ ms) [] rows i r = r
      go (m ∷ ms) (n ∷ ns) [] i r = r
      go (m ∷ ms) (n ∷ ns) (row ∷ rows) zero r = cond_elim Row (became_pending s m n) (λ t. one_more row r) (λ t. r)
      go (m ∷ ms) (n ∷ ns) (row ∷ rows) (suc i) r = go ms ns rows i r

-- no frame of a book that was just opened was given out
pub none_given : (j : ℕ) (b : Bench) (w : Which) → T (frame_of w (new_book j b)).given → ⊥
none_given j b the_payload t = t
none_given j b the_confirmation t = t
none_given j b (the_abort q x) t = none q b.modules t
  where
    none : (q : ℕ) (ms : List Module) → T (nth (pending_since []) x (nth [] q (map (λ (m : Module). []) ms))).given → ⊥
    none q [] t = t
    none zero (m ∷ ms) t = t
    none (suc q) (m ∷ ms) t = none q ms t

-- whoever owns the frame
abbrev pub AllFrames : (ℕ → Frame → Type 0) → Book → Type 0
AllFrames P k = EveryFrame (λ owner. P) k

module _ (P : ℕ → Frame → Type 0) where
  pub all_on_frame : (w₀ : Which) (f : Frame → Frame) → ((x : Frame) → P (code_in w₀) x → P (code_in w₀) (f x))
      → (k : Book) → AllFrames P k → AllFrames P (on_frame w₀ f k)
  all_on_frame w₀ f h k = every_on_frame (λ owner. P) w₀ f k h

  pub all_entering : (s : Stream) (before after : List Module) → P 2 (pending_since (counts after))
      → (k : Book) → AllFrames P k → AllFrames P (entering s before after k)
  all_entering s before after new = every_entering (λ owner. P) s before after (λ owner. new)

-- ── each frame that was given out carries the stream of its ledger ──
abbrev pub Label : Stream → ℕ → Frame → Type 0
Label z c f = T f.given → Same (stream_of f.id) z

pub record Labels (b : Bench) : Type 0 where
  pub label : (z : Stream) → T (listed z b.ledgers) → (n : ℕ) → AllFrames (Label z) (book_of z n b)

pub labelled : (b : Bench) → Labels b → (z : Stream) (n : ℕ) (w : Which) → T (frame_of w (book_of z n b)).given
    → Same (stream_of (frame_of w (book_of z n b)).id) z
labelled b l z n w t = go (decide (listed z b.ledgers))
  where
    go : T (listed z b.ledgers) ⊎ (T (listed z b.ledgers) → ⊥) → Same (stream_of (frame_of w (book_of z n b)).id) z
    go (inl h) = l.label z h n w t
    go (inr h) = absurd (no_frame_law n w (subst (λ ks. T (frame_of w (nth no_book n ks)).given) (unlisted z b.ledgers h) t))

pub label_step : (b : Bench) → Labels b → (e : Event) → Labels (step b e)
label_step b l e = record { label = λ z h n. book_at (AllFrames (Label z)) (λ w t. absurd (no_frame_law 0 w t)) n (books_of z (step b e)) (kept z) }
  where
    stays : (e : Event) → Stays (λ z. AllFrames (Label z)) b e
    stays (asks j z p) = λ t w g. absurd (none_given j b w g)
    stays (gives j z c) =
        λ t. all_on_frame (Label z) (which_of j c) (gave_out (next j b)) (λ x h g. ap (λ (y : Stream). y.0) (next_done b j z c t).1)
    stays (sends z n w to) = all_on_frame (Label z) w (sent_once (now b) (is_full to)) (λ x g. g)
    stays ticks = tt
    stays (dies j) = tt

    kept : EveryBook (λ z. AllFrames (Label z)) (step b e)
    kept =
        books_step (λ z. AllFrames (Label z)) (λ z before after. all_entering (Label z) z before after (λ t. absurd t)) b
        (λ z. from_places (AllFrames (Label z)) (books_of z b) (λ n w. labelled b l z n w)) e (stays e)
