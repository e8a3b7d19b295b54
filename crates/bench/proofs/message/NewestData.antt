-- The sendings of a message's data and confirmation while it is its stream's newest: what an event makes of them.
use Prim.Native.Nat.{ℕ, zero, suc}
use mathlib.Core.Path.{◌≡◌, refl, ap, sym, subst}
use mathlib.Core.Logic.{◌⊎◌, inl, inr}
use mathlib.Core.Bool.{Bool}
use mathlib.Core.List.{List, ◌∷◌}
use lib.Dec.{T}
use Rattle.wire.specs.declared.ids.Stream.{Stream}
use Rattle.bench.specs.Lists.{nth}
use Rattle.bench.specs.Bench.{Bench, Book, Sendings, never, sent, Moment, Which, the_payload, the_confirmation, the_abort}
use Rattle.bench.specs.Bench.{is_live, now, books_of, book_of, no_book}
use Rattle.bench.specs.Events.{Event, asks, gives, sends, ticks, dies, To, is_full, is_next, next}
use Rattle.bench.specs.Events.{sent_again, sent_once, on_frame, on_newest, which_of, gave_out, step}
use Rattle.bench.specs.Rules.{may}
use Rattle.bench.specs.Demands.{accepts}
use Rattle.bench.proofs.laws.SlotAfterCall.{Same}
use Rattle.bench.proofs.laws.ModuleAfterEvent.{refused_asks, decide_stream, as_function}
use Rattle.bench.proofs.laws.BooksAfterEvent.{entering, books_given, books_sent, books_ticked, books_dead}
use Rattle.bench.proofs.message.SendingsSeen.{to_sent}
use Rattle.bench.proofs.message.ClassOnBench.{may_send, ClassOnBench}
use Rattle.bench.proofs.message.SeenAfterOwnEvent.{Valid}
use Rattle.bench.proofs.message.RulesSeen.{owner_lives, legal_data}
use Rattle.bench.proofs.message.MessageKept.{Track}
use Rattle.bench.proofs.message.ThroughHistory.{else_books, sends_elsewhere, accepts_it}
use Rattle.one_stream.specs.Sendings as OS
use Rattle.one_stream.specs.Classes as OC

abbrev pub data_of : Book → OS.Sent
data_of k = to_sent k.payload_frame.sendings

abbrev pub confirmation_of : Book → OS.Sent
confirmation_of k = to_sent k.confirmation.sendings

pub last_again : (t : Moment) (full : Bool) (d : Sendings) → OS.last (to_sent (sent_again t full d)) ≡ as_function t
unfolding to_sent
last_again t full never = refl
last_again t full (sent first last f) = refl

some_again : (t : Moment) (full : Bool) (d : Sendings) → OS.Some (to_sent (sent_again t full d))
unfolding to_sent
some_again t full never = tt
some_again t full (sent first last f) = tt

-- the newest book after an event: its data was not sent, or it was, and no confirmation before
pub data After (me : ℕ) (b : Bench) (k k' : Book) : Type 0 where
  no_data : data_of k' ≡ data_of k → (OS.Some (confirmation_of k) → OS.Some (confirmation_of k')) → After me b k k'
  more_data : (OS.Some (confirmation_of k) → ⊥) → T (is_live me b) → (full : Bool) → data_of k' ≡ to_sent (sent_again (now b) full k.payload_frame.sendings)
      → After me b k k'

module _ {n : ℕ} {D : OS.Delays} (K : ClassOnBench n D) (s : Stream) (me : ℕ) (since : Moment) (p : List ℕ) (base : ℕ → List OC.Note) where
  module _ (b : Bench) (v : Valid n D s me b) (x : Track K s me since p base b) where
    abbrev Follows : Bench → Type 0
    Follows b' = After me b (book_of s 0 b) (book_of s 0 b')

    follows_by : (b' : Bench) (change : List Book → List Book) → books_of s b' ≡ change (books_of s b)
        → After me b x.k (nth no_book 0 (change (x.k ∷ x.ks))) → Follows b'
    follows_by b' change e h =
        subst (λ ks. After me b (book_of s 0 b) (nth no_book 0 ks)) (sym e)
        (subst (λ ks. After me b (nth no_book 0 ks) (nth no_book 0 (change ks))) (sym x.books) h)

    unchanged : (b' : Bench) → books_of s b' ≡ books_of s b → Follows b'
    unchanged b' e = follows_by b' (λ ks. ks) e (no_data refl (λ c. c))

    after_giving : (j c : ℕ) → T (is_next j s c b) → Follows (step b (gives j s c))
    after_giving j c t =
        follows_by (step b (gives j s c)) (on_newest (on_frame (which_of j c) (gave_out (next j b)))) (books_given s b v.ledger j c t) (given (which_of j c))
      where
        given : (w : Which) → After me b x.k (on_frame w (gave_out (next j b)) x.k)
        given the_payload = no_data refl (λ c. c)
        given the_confirmation = no_data refl (λ c. c)
        given (the_abort owner place) = no_data refl (λ c. c)

    after_sending : (n : ℕ) (w : Which) (to : To) → T (may_send b s (book_of s n b) w) → Follows (step b (sends s n w to))
    unfolding OC.Legal
    after_sending n w to t = newest n (subst (λ ks. T (may_send b s (nth no_book n ks) w)) x.books t)
      where
        again : (w : Which) → T (may_send b s x.k w) → After me b x.k (on_frame w (sent_once (now b) (is_full to)) x.k)
        again the_payload t =
            more_data (legal_data K s me p b v x.k x.own.sender x.hold to t).3
            (subst (λ i. T (is_live i b)) x.own.sender (owner_lives b s x.k the_payload t)) (is_full to) refl
        again the_confirmation t = no_data refl (λ c. some_again (now b) (is_full to) x.k.confirmation.sendings)
        again (the_abort owner place) t = no_data refl (λ c. c)

        entered : (b' : Bench) (k : Book) → After me b x.k k → After me b x.k (entering s b.modules b'.modules k)
        entered b' k (no_data d c) = no_data d c
        entered b' k (more_data c l full d) = more_data c l full d

        newest : (n : ℕ) → T (may_send b s (nth no_book n (x.k ∷ x.ks)) w) → Follows (step b (sends s n w to))
        newest zero t =
            let b' = step b (sends s 0 w to) in
            follows_by b' (λ ks. on_newest (entering s b.modules b'.modules) (on_newest (on_frame w (sent_once (now b) (is_full to))) ks))
            (books_sent s b v.ledger 0 w to) (entered b' (on_frame w (sent_once (now b) (is_full to)) x.k) (again w t))
        newest (suc n) t = absurd (x.old n w t)

    pub after_event : (e : Event) → (T (accepts s b e) → ⊥) → T (may b e) → Follows (step b e)
    unfolding may
    after_event (asks j z q) shut m = go (decide_stream s z)
      where
        go : (s ≡ z) ⊎ (Same s z → ⊥) → Follows (step b (asks j z q))
        go (inl e) = unchanged (step b (asks j z q)) (ap (books_of s) (refused_asks b j z q (λ t. shut (accepts_it s b j z q e t))))
        go (inr other) = unchanged (step b (asks j z q)) (else_books s b (asks j z q) other)
    after_event (gives j z c) shut m = go (decide_stream s z)
      where
        go : (s ≡ z) ⊎ (Same s z → ⊥) → Follows (step b (gives j z c))
        go (inl e) = subst (λ z. T (is_next j z c b) → Follows (step b (gives j z c))) e (after_giving j c) m
        go (inr other) = unchanged (step b (gives j z c)) (else_books s b (gives j z c) other)
    after_event (sends z n w to) shut m = go (decide_stream s z)
      where
        go : (s ≡ z) ⊎ (Same s z → ⊥) → Follows (step b (sends z n w to))
        go (inl e) = subst (λ z. T (may_send b z (book_of z n b) w) → Follows (step b (sends z n w to))) e (after_sending n w to) m
        go (inr other) = unchanged (step b (sends z n w to)) (else_books s b (sends z n w to) (sends_elsewhere s b v.labels z n w to other m))
    after_event ticks shut m =
        follows_by (step b ticks) (on_newest (entering s b.modules (step b ticks).modules)) (books_ticked s b) (no_data refl (λ c. c))
    after_event (dies j) shut m = unchanged (step b (dies j)) (books_dead s b j)
