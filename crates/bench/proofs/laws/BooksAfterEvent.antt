-- What each event makes of the books of one stream.
use Prim.Native.Nat.{ℕ}
use mathlib.Core.Path.{◌≡◌, refl, ap, sym, ◌∙◌}
use mathlib.Core.Bool.{Bool, true, false, ◌||◌, cond}
use mathlib.Core.List.{List, [], ◌∷◌, map}
use lib.Dec.{T, eqb→eq}
use Rattle.wire.specs.declared.ids.Stream.{Stream}
use Rattle.one_stream.proofs.Truth.{cond_elim, cond_true, is_false}
use Rattle.bench.specs.Bench.{Module, Bench, Frame, Which, Book, Ledger, Moment, books_in, books_of, counts, now, same_stream}
use Rattle.bench.specs.Events.{Event, asks, gives, sends, ticks, dies, step, is_accepted, is_next, opened, gave, new_book, on_books}
use Rattle.bench.specs.Events.{on_newest, on_frame, which_of, gave_out, sent_once, entered, enter, is_full, next, To}
use Rattle.bench.specs.Lists.{at, any}
use Rattle.bench.proofs.laws.SlotAfterCall.{Same, same_stream_law}

-- the stream has a ledger
abbrev pub listed : Stream → List Ledger → Bool
listed s ls = any (λ (l : Ledger). same_stream l.stream s) ls

same_of : (s : Stream) (l : Ledger) → T (same_stream l.stream s) → l.stream ≡ s
same_of s l t = same_stream_law (eqb→eq l.stream.0 s.0 t)

-- ── a change of one stream's books ──
module _ (change : List Book → List Book) where
  books_own : (s : Stream) (ls : List Ledger) → T (listed s ls) → books_in s (on_books s change ls) ≡ change (books_in s ls)
  books_own s [] t = absurd t
  books_own s (l ∷ ls) t = go (same_stream l.stream s) refl t (books_own s ls)
    where
      l' : Ledger
      l' = record { stream = l.stream; books = change l.books }

      go : (h : Bool) → same_stream l.stream s ≡ h → T (h || listed s ls)
          → (T (listed s ls) → books_in s (on_books s change ls) ≡ change (books_in s ls))
          → books_in s (cond h l' l ∷ on_books s change ls) ≡ change (cond h l.books (books_in s ls))
      go true e t rest = rw e
      go false e t rest = rw e (rest t)

  books_other : (s z : Stream) → (Same s z → ⊥) → (ls : List Ledger) → books_in s (on_books z change ls) ≡ books_in s ls
  books_other s z other [] = refl
  books_other s z other (l ∷ ls) = go (same_stream l.stream z) (eqb→eq l.stream.0 z.0) (books_other s z other ls)
    where
      l' : Ledger
      l' = record { stream = l.stream; books = change l.books }

      go : (h : Bool) → (T h → l.stream.0 ≡ z.0) → books_in s (on_books z change ls) ≡ books_in s ls
          → books_in s (cond h l' l ∷ on_books z change ls) ≡ books_in s (l ∷ ls)
      go true e rest =
          let not_s : same_stream l.stream s ≡ false = is_false (same_stream l.stream s)
          (λ t. other (sym (eqb→eq l.stream.0 s.0 t) ∙ e tt)) in
          rw (not_s, rest)
      go false e rest = rw rest

  listed_books : (s z : Stream) (ls : List Ledger) → listed s (on_books z change ls) ≡ listed s ls
  listed_books s z [] = refl
  listed_books s z (l ∷ ls) = go (same_stream l.stream z) (listed_books s z ls)
    where
      l' : Ledger
      l' = record { stream = l.stream; books = change l.books }

      go : (h : Bool) → listed s (on_books z change ls) ≡ listed s ls → listed s (cond h l' l ∷ on_books z change ls) ≡ listed s (l ∷ ls)
      go true rest = rw rest
      go false rest = rw rest

-- ── aborts that became pending ──
abbrev pub with_aborts : List (List Frame) → Book → Book
with_aborts rows k = record { sender = k.sender; payload_frame = k.payload_frame; confirmation = k.confirmation; aborts = rows }

abbrev pub entering : Stream → (before after : List Module) → Book → Book
entering s before after k = with_aborts (enter (counts after) s before after k.aborts) k

books_entered : (s : Stream) (before after : List Module) (ls : List Ledger)
    → books_in s (map (entered (counts after) before after) ls) ≡ on_newest (entering s before after) (books_in s ls)
books_entered s before after [] = refl
books_entered s before after (l ∷ ls) = go (same_stream l.stream s) (same_of s l) (books_entered s before after ls)
  where
    go : (h : Bool) → (T h → l.stream ≡ s)
        → books_in s (map (entered (counts after) before after) ls) ≡ on_newest (entering s before after) (books_in s ls)
        → cond h (on_newest (entering l.stream before after) l.books) (books_in s (map (entered (counts after) before after) ls))
        ≡ on_newest (entering s before after) (cond h l.books (books_in s ls))
    go true e rest = ap (λ z. on_newest (entering z before after) l.books) (e tt)
    go false e rest = rest

listed_entered : (s : Stream) (t : Moment) (before after : List Module) (ls : List Ledger)
    → listed s (map (entered t before after) ls) ≡ listed s ls
listed_entered s t before after [] = refl
listed_entered s t before after (l ∷ ls) = ap (λ h. same_stream l.stream s || h) (listed_entered s t before after ls)

-- ── one event ──
pub listed_step : (s : Stream) (b : Bench) (e : Event) → listed s (step b e).ledgers ≡ listed s b.ledgers
unfolding step
listed_step s b (asks j z p) =
    cond_elim (λ (x : Bench). listed s x.ledgers ≡ listed s b.ledgers) (is_accepted j z p b)
    (λ t. listed_books (λ ks. new_book j b ∷ ks) s z b.ledgers) (λ t. refl)
listed_step s b (gives j z c) =
    cond_elim (λ (x : Bench). listed s x.ledgers ≡ listed s b.ledgers) (is_next j z c b)
    (λ t. listed_books (on_newest (on_frame (which_of j c) (gave_out (next j b)))) s z b.ledgers) (λ t. refl)
listed_step s b (sends z n w to) =
    let b' = step b (sends z n w to) in
    let change = at (on_frame w (sent_once (now b) (is_full to))) n in
    listed_entered s (now b') b.modules b'.modules (on_books z change b.ledgers) ∙ listed_books change s z b.ledgers
listed_step s b ticks = listed_entered s (now (step b ticks)) b.modules (step b ticks).modules b.ledgers
listed_step s b (dies j) = refl

module _ (s : Stream) (b : Bench) where
  pub books_asked : T (listed s b.ledgers) → (j : ℕ) (p : List ℕ) → T (is_accepted j s p b)
      → books_of s (step b (asks j s p)) ≡ new_book j b ∷ books_of s b
  unfolding step
  books_asked l j p t =
      ap (books_of s) (cond_true (is_accepted j s p b) (opened j s p b) b t) ∙ books_own (λ ks. new_book j b ∷ ks) s b.ledgers l

  pub books_given : T (listed s b.ledgers) → (j c : ℕ) → T (is_next j s c b)
      → books_of s (step b (gives j s c)) ≡ on_newest (on_frame (which_of j c) (gave_out (next j b))) (books_of s b)
  unfolding step
  books_given l j c t =
      ap (books_of s) (cond_true (is_next j s c b) (gave j s c b) b t)
      ∙ books_own (on_newest (on_frame (which_of j c) (gave_out (next j b)))) s b.ledgers l

  pub books_sent : T (listed s b.ledgers) → (n : ℕ) (w : Which) (to : To) → (let b' = step b (sends s n w to) in
      books_of s b' ≡ on_newest (entering s b.modules b'.modules) (at (on_frame w (sent_once (now b) (is_full to))) n (books_of s b)))
  unfolding step
  books_sent l n w to =
      let b' = step b (sends s n w to) in
      let change = at (on_frame w (sent_once (now b) (is_full to))) n in
      books_entered s b.modules b'.modules (on_books s change b.ledgers)
      ∙ ap (on_newest (entering s b.modules b'.modules)) (books_own change s b.ledgers l)

  pub books_ticked : books_of s (step b ticks) ≡ on_newest (entering s b.modules (step b ticks).modules) (books_of s b)
  unfolding step
  books_ticked = books_entered s b.modules (step b ticks).modules b.ledgers

  pub books_dead : (j : ℕ) → books_of s (step b (dies j)) ≡ books_of s b
  unfolding step
  books_dead j = refl

  -- events of another stream; a sending may still enter aborts of this one, as far as the books can tell
  pub books_asked_other : (j : ℕ) (z : Stream) (p : List ℕ) → (Same s z → ⊥) → books_of s (step b (asks j z p)) ≡ books_of s b
  unfolding step
  books_asked_other j z p other =
      cond_elim (λ x. books_of s x ≡ books_of s b) (is_accepted j z p b) (λ t. books_other (λ ks. new_book j b ∷ ks) s z other b.ledgers)
      (λ t. refl)

  pub books_given_other : (j : ℕ) (z : Stream) (c : ℕ) → (Same s z → ⊥) → books_of s (step b (gives j z c)) ≡ books_of s b
  unfolding step
  books_given_other j z c other =
      cond_elim (λ x. books_of s x ≡ books_of s b) (is_next j z c b)
      (λ t. books_other (on_newest (on_frame (which_of j c) (gave_out (next j b)))) s z other b.ledgers) (λ t. refl)

  pub books_sent_other : (z : Stream) (n : ℕ) (w : Which) (to : To) → (Same s z → ⊥) → (let b' = step b (sends z n w to) in
      books_of s b' ≡ on_newest (entering s b.modules b'.modules) (books_of s b))
  unfolding step
  books_sent_other z n w to other =
      let b' = step b (sends z n w to) in
      let change = at (on_frame w (sent_once (now b) (is_full to))) n in
      books_entered s b.modules b'.modules (on_books z change b.ledgers)
      ∙ ap (on_newest (entering s b.modules b'.modules)) (books_other change s z other b.ledgers)
