-- The bench rules at an event of a stream's newest message, read as the one-stream proof wants them.
use Prim.Native.Nat.{ℕ, zero, suc, ◌+◌, ◌≤◌}
use native.Mathlib.Omega.{arith}
use native.Mathlib.Nat.{add-zero, zero-add}
use mathlib.Core.Path.{◌≡◌, ap, sym, subst, ◌∙◌}
use mathlib.Core.Bool.{Bool, true, false, not, ◌&&◌, ◌||◌, cond}
use mathlib.Core.List.{List, [], ◌∷◌, map}
use lib.Dec.{T, eqb→eq, T_not}
use Rattle.wire.specs.declared.ids.Stream.{Stream}
use Rattle.wire.specs.Settings.{is_plain}
use Rattle.node.specs.Slots.{is_receiver}
use Rattle.one_stream.proofs.Truth.{and_l, and_r, both, or_r, not_so}
use Rattle.bench.specs.Bench.{Bench, Book, Frame, Ledger, Sendings, never, sent, pending_since, is_live, slot_at, now, books_of, books_in}
use Rattle.bench.specs.Bench.{frame_of, owner_of, settings_of, Which, the_payload, the_confirmation, the_abort, Moment, same_stream}
use Rattle.bench.specs.Events.{ticks, step, named, is_full, To}
use Rattle.bench.specs.Lists.{nth, each, every}
use Rattle.bench.specs.Rules.{may, rule1, rule3, in_turn, in_reach, within, was_sent, was_full, served_book, served_own, served_aborts}
use Rattle.bench.proofs.laws.SlotAfterCall.{same_stream_law}
use Rattle.bench.proofs.laws.ModuleAfterEvent.{count_of, as_function, count_is}
use Rattle.bench.proofs.message.SendingsSeen.{to_sent, was_full_here, was_sent_here, fullness, within_all}
use Rattle.bench.proofs.message.ClassOnBench.{may_send, to_delays, OfClass, ClassOnBench}
use Rattle.bench.proofs.message.ModuleSeen.{to_frame, view, not_plain}
use Rattle.bench.proofs.message.SeenAfterOwnEvent.{Valid, carried, strand_of, lives, moves}
use Rattle.one_stream.specs.Sendings as OS
use Rattle.one_stream.specs.Frames as OF
use Rattle.one_stream.specs.Classes as OC

-- ── a sending ──
module _ (b : Bench) (s : Stream) (k : Book) (w : Which) (t : T (may_send b s k w)) where
  abbrev f : Frame
  f = frame_of w k

  first_rule : T (rule1 b k w)
  first_rule = and_l (rule1 b k w) (rule3 b s k w) t

  pub owner_lives : T (is_live (owner_of w k) b)
  owner_lives = and_l (is_live (owner_of w k) b) f.given (and_l (is_live (owner_of w k) b && f.given) (not (was_full f)) first_rule)

  pub was_given : T f.given
  was_given = and_r (is_live (owner_of w k) b) f.given (and_l (is_live (owner_of w k) b && f.given) (not (was_full f)) first_rule)

  not_full_here : OS.Full (to_sent f.sendings) → ⊥
  not_full_here y = T_not (was_full f) (and_r (is_live (owner_of w k) b && f.given) (not (was_full f)) first_rule) (was_full_here f y)

  pub in_turn_here : T (in_turn k w)
  in_turn_here = and_l (in_turn k w) (in_reach (settings_of s k b) k w (now b)) (and_r (rule1 b k w) (rule3 b s k w) t)

  in_reach_here : T (in_reach (settings_of s k b) k w (now b))
  in_reach_here = and_r (in_turn k w) (in_reach (settings_of s k b) k w (now b)) (and_r (rule1 b k w) (rule3 b s k w) t)

module _ {n : ℕ} {D : OS.Delays} (K : ClassOnBench n D) (s : Stream) (me : ℕ) (p : List ℕ) (b : Bench) (v : Valid n D s me b) (k : Book)
    (sender : k.sender ≡ me) (hold : Bool) where
  settings : OfClass n D (settings_of s k b)
  settings = subst (λ i. OfClass n D (slot_at s i b).settings) (sym sender) v.sender.1

  -- the numbers of the message's stream
  number : (g : OS.Delays → ℕ) → g (to_delays (settings_of s k b)) ≡ g D
  number g = ap g settings.numbers

  now_is : (i : ℕ) → as_function (now b) i ≡ count_of b i
  now_is i = count_is i b.modules

  pub legal_data : (to : To) → T (may_send b s k the_payload)
      → OC.Legal K.C D (strand_of K s me p b k hold).state (OC.send_data (named to) (is_full to))
  unfolding OC.Legal
  legal_data to t = (
    fullness to,
    not_full_here b s k the_payload t,
    λ i. omega (arith, within_all (settings_of s k b).rd k.payload_frame.since (now b) reach i, now_is i, number (λ d. d.rd)),
    λ y. T_not (was_sent k.confirmation) (in_turn_here b s k the_payload t) (was_sent_here k.confirmation y),
  )
    where
      reach : T (within (settings_of s k b).rd k.payload_frame.since (now b))
      reach = go (is_plain (settings_of s k b)) (not_so (not_plain K settings)) (in_reach_here b s k the_payload t)
        where
          go : (a : Bool) → (T a → ⊥) → T (a || within (settings_of s k b).rd k.payload_frame.since (now b))
              → T (within (settings_of s k b).rd k.payload_frame.since (now b))
          go true n y = absurd (n tt)
          go false n y = y

  pub legal_conf : (to : To) → T (may_send b s k the_confirmation)
      → OC.Legal K.C D (strand_of K s me p b k hold).state (OC.send_conf (named to) (is_full to))
  unfolding OC.Legal
  legal_conf to t = (
    fullness to,
    not_full_here b s k the_confirmation t,
    K.ready b s k settings t,
    λ i. omega (arith, first_reach k.payload_frame.sendings (in_reach_here b s k the_confirmation t) i, number (λ d. d.dc)),
  )
    where
      first_reach : (d : Sendings) → T (elim d [ never ↦ false | sent x y z ↦ within (settings_of s k b).dc x (now b) ])
          → (i : ℕ) → count_of b i ≤ OS.first (to_sent d) i + (settings_of s k b).dc
      first_reach never h i = absurd h
      first_reach (sent x y z) h i = unfold to_sent in omega (arith, within_all (settings_of s k b).dc x (now b) h i, now_is i)

  -- rows: the owner of a frame of code 2 receives the stream
  module _ (rows : (q : ℕ) → T (not (is_receiver (slot_at s q b))) → nth [] q k.aborts ≡ []) where
    pub legal_code2 : (q y : ℕ) (to : To) → T (may_send b s k (the_abort q y))
        → OC.Legal K.C D (strand_of K s me p b k hold).state (OC.send_code2 q y (named to) (is_full to))
    unfolding OC.Legal view
    legal_code2 q y to t = (
      fullness to,
      both (is_live q b) (is_receiver (slot_at s q b)) (owner_lives b s k (the_abort q y) t) receiver,
      frame_at y (nth [] q k.aborts) (was_given b s k (the_abort q y) t) (not_full_here b s k (the_abort q y) t)
          (in_reach_here b s k (the_abort q y) t),
    )
      where
        receiver : T (is_receiver (slot_at s q b))
        receiver =
            go (is_receiver (slot_at s q b)) (λ n. none y
            (subst (λ fs. T (nth (pending_since []) y fs).given) (rows q n) (was_given b s k (the_abort q y) t)))
          where
            none : (y : ℕ) → T (nth (pending_since []) y []).given → ⊥
            none y t = t

            go : (r : Bool) → (T (not r) → ⊥) → T r
            go true h = tt
            go false h = absurd (h tt)

        frame_at : (y : ℕ) (fs : List Frame) → T (nth (pending_since []) y fs).given
            → (OS.Full (to_sent (nth (pending_since []) y fs).sendings) → ⊥)
            → T (within (settings_of s k b).ra (nth (pending_since []) y fs).since (now b))
            → OF.At (OF.MaySend D (count_of b)) y (map (to_frame (carried K s me p)) fs)
        frame_at y [] g n r = absurd g
        frame_at zero (f ∷ fs) g n r = unfold to_frame in
            record {
              out = g;
              not_full = n;
              reach = λ i. omega (arith, within_all (settings_of s k b).ra f.since (now b) r i, now_is i, number (λ d. d.ra));
            }
        frame_at (suc y) (f ∷ fs) g n r = frame_at y fs g n r

-- ── a tick ──
served_books : (b : Bench) (t : Moment) (s : Stream) (ls : List Ledger)
    → T (every (λ (l : Ledger). every (served_book b t l.stream) l.books) ls) → T (every (served_book b t s) (books_in s ls))
served_books b t s [] h = tt
served_books b t s (l ∷ ls) h =
    go (same_stream l.stream s) (eqb→eq l.stream.0 s.0) (and_l here rest h) (served_books b t s ls (and_r here rest h))
  where
    here : Bool
    here = every (served_book b t l.stream) l.books

    rest : Bool
    rest = every (λ (l : Ledger). every (served_book b t l.stream) l.books) ls

    go : (o : Bool) → (T o → l.stream.0 ≡ s.0) → T (every (served_book b t l.stream) l.books)
        → T (every (served_book b t s) (books_in s ls))
        → T (every (served_book b t s) (cond o l.books (books_in s ls)))
    go true e h r = subst (λ z. T (every (served_book b t z) l.books)) (same_stream_law (e tt)) h
    go false e h r = r

each_holds : (f : ℕ → List Frame → Bool) → ((j : ℕ) → T (f j [])) → (j : ℕ) (rows : List (List Frame))
    → T (every (λ (x : Bool). x) (each f j rows))
    → (i : ℕ) → T (f (j + i) (nth [] i rows))
each_holds f none j [] h i = none (j + i)
each_holds f none j (row ∷ rows) h zero =
    subst (λ n. T (f n row)) (sym (add-zero j)) (and_l (f j row) (every (λ (x : Bool). x) (each f (suc j) rows)) h)
each_holds f none j (row ∷ rows) h (suc i) =
    subst (λ n. T (f n (nth [] i rows))) (omega arith)
    (each_holds f none (suc j) rows (and_r (f j row) (every (λ (x : Bool). x) (each f (suc j) rows)) h) i)

open_or : (a b : Bool) → T (not a || b) → T a → T b
open_or true b t l = t
open_or false b t l = absurd l

module _ {n : ℕ} {D : OS.Delays} (K : ClassOnBench n D) (s : Stream) (me : ℕ) (p : List ℕ) (b : Bench) (v : Valid n D s me b) (k : Book)
    (sender : k.sender ≡ me) (hold : Bool)
    (ks : List Book) (books : books_of s b ≡ k ∷ ks) where
  -- every frame is served, or its reach is not over
  frames_served : (R : ℕ) → R ≡ D.ra → (t : Moment) (c : ℕ → ℕ) → ((i : ℕ) → as_function t i ≡ c i) → (fs : List Frame)
      → T (every (λ f. was_sent f || within R f.since t) fs) → OF.Each (OC.Served K.C D c) (map (to_frame (carried K s me p)) fs)
  unfolding to_frame
  frames_served R e t c now [] h = tt
  frames_served R e t c now (f ∷ fs) h =
      let here = was_sent f || within R f.since t in
      let rest = every (λ f. was_sent f || within R f.since t) fs in (
        λ n i. omega (arith, within_all R f.since t (in_time (was_sent f) (λ y. n (K.done f y)) (and_l here rest h)) i, now i),
        frames_served R e t c now fs (and_r here rest h),
      )
    where
      in_time : (a : Bool) → (T a → ⊥) → T (a || within R f.since t) → T (within R f.since t)
      in_time true n h = absurd (n tt)
      in_time false n h = h

  pub legal_tick : T (may b ticks) → OC.Legal K.C D (strand_of K s me p b k hold).state (OC.tick (lives K s me p b))
  unfolding OC.Legal view may
  legal_tick h i l =
      frames_served (settings_of s k b).ra (number K s me p b v k sender hold (λ d. d.ra)) t (OS.move (lives K s me p b) (count_of b))
      (λ j. count_is j (step b ticks).modules ∙ sym (ap (λ (c : ℕ → ℕ). c j) (moves K s me p b))) (nth [] i k.aborts)
      (open_or (is_live i b) (every (λ f. was_sent f || within (settings_of s k b).ra f.since t) (nth [] i k.aborts)) served_row
      (and_l (is_live i b) (is_receiver (slot_at s i b)) l))
    where
      t : Moment
      t = now (step b ticks)

      served_newest : T (served_book b t s k)
      served_newest =
          and_l (served_book b t s k) (every (served_book b t s) ks)
          (subst (λ l. T (every (served_book b t s) l)) books (served_books b t s b.ledgers h))

      none : (j : ℕ) → T (served_aborts (settings_of s k b) b t j [])
      none j = or_r (not (is_live j b)) true tt

      served_row : T (served_aborts (settings_of s k b) b t i (nth [] i k.aborts))
      served_row =
          subst (λ n. T (served_aborts (settings_of s k b) b t n (nth [] i k.aborts))) (zero-add i)
          (each_holds (served_aborts (settings_of s k b) b t) none 0 k.aborts
          (and_r (not (is_live k.sender b) || served_own (settings_of s k b) k t)
          (every (λ (x : Bool). x) (each (served_aborts (settings_of s k b) b t) 0 k.aborts)) served_newest) i)
