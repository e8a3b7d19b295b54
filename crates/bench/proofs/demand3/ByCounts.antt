-- Demand 3 by counts: at any moment before the next request of its stream is accepted, of the live receivers that have counted Rd + dd ticks
-- and one more since the request of a two-message message, all have delivered it once or none has; and its book is its own.
use Prim.Native.Nat.{ℕ, ◌+◌}
use native.Mathlib.Omega.{arith}
use mathlib.Core.Path.{◌≡◌, ap, subst, ◌∙◌}
use mathlib.Core.Logic.{◌⊎◌, inl, inr}
use mathlib.Core.List.{List}
use lib.Dec.{T}
use Rattle.one_stream.specs.Sendings as OS
use Rattle.bench.specs.Bench.{Bench, Book, no_book, the_payload}
use Rattle.bench.specs.SetUp.{Plan, proper, start}
use Rattle.bench.specs.Lists.{nth}
use Rattle.bench.specs.Events.{Event}
use Rattle.bench.specs.Rules.{keeps_so_far, one_omission}
use Rattle.bench.specs.Demands.{MessageIn, at_request, at_moment, its_settings, its_book, TwoMessage, Newest, DeliveredOnce, DeliveredNot, Atomic}
use Rattle.bench.specs.Demands.{LiveNow, HasCounted, OwnBook, Demand3ByCounts, NewestBookIsOwn}
use Rattle.bench.proofs.message.ClassOnBench.{ClassOnBench}
use Rattle.bench.proofs.message.Judgement.{Judges, judged_all_or_none}
use Rattle.bench.proofs.message.MessageOfHistory.{its_request, its_delays, its_class, its_numbers, KnownIn, followed}
use Rattle.bench.proofs.two_message.TwoMessageOnBench.{fits, two_message, two_message_on_bench}
use Rattle.bench.proofs.two_message.AllIfFull.{judged_all_if_full}

module _ (plan : Plan) (ok : T (proper plan)) (h : List Event) (keeps : T (keeps_so_far (start plan) h)) (m : MessageIn (start plan) h)
    (two : TwoMessage (start plan) h m) where
  abbrev pub D : OS.Delays
  D = its_delays two_message_on_bench plan ok h keeps m two

  abbrev pub K : ClassOnBench 2 D
  K = its_class two_message_on_bench plan ok h keeps m two

  -- the hold is Rd + dd
  pub hold_is : K.C.hold ≡ (its_settings (start plan) h m).rd + (its_settings (start plan) h m).dd
  unfolding two_message
  hold_is =
      let e = its_numbers two_message_on_bench plan ok h keeps m two in
      omega (arith, ap (λ (d : OS.Delays). d.rd) e, ap (λ (d : OS.Delays). d.dd) e)

  module _ (newest : Newest (start plan) h m) where
    pub known : KnownIn two_message_on_bench plan ok h keeps m two (at_moment (start plan) h m)
    known = (followed two_message_on_bench plan ok h keeps m two newest).0

    abbrev b₁ : Bench
    b₁ = at_request (start plan) h m

    abbrev b₃ : Bench
    b₃ = at_moment (start plan) h m

    judges : (i : ℕ) → LiveNow (start plan) h m i × HasCounted (start plan) h m i → Judges K m.stream m.sender m.payload b₁ b₃ known.1 i
    judges i (live, counted) = record { receiver = live; counted = omega (arith, hold_is, counted) }

    atomic : T (one_omission (its_book (start plan) h m))
        → Atomic (start plan) h m (λ i. LiveNow (start plan) h m i × HasCounted (start plan) h m i)
    atomic rule2 =
        let q = its_request two_message_on_bench plan ok h keeps m two in
        let x = known.1 in
        record {
          all_or_none = go (judged_all_or_none K m.stream m.sender m.payload b₁ b₃ x rule2);
          all_if_full = λ d c i j.
              judged_all_if_full D (fits m.stream q.settings q.of q.lawful) m.stream m.sender m.payload b₁ b₃ x rule2 d c i (judges i j);
        }
      where
        Judged : ℕ → Type 0
        Judged = Judges K m.stream m.sender m.payload b₁ b₃ known.1

        Counted : ℕ → Type 0
        Counted i = LiveNow (start plan) h m i × HasCounted (start plan) h m i

        Once : ℕ → Type 0
        Once = DeliveredOnce (start plan) h m

        Not : ℕ → Type 0
        Not = DeliveredNot (start plan) h m

        go : ((i : ℕ) → Judged i → Once i) ⊎ ((i : ℕ) → Judged i → Not i) → ((i : ℕ) → Counted i → Once i) ⊎ ((i : ℕ) → Counted i → Not i)
        go (inl all) = inl (λ i j. all i (judges i j))
        go (inr none) = inr (λ i j. none i (judges i j))

    own_book : OwnBook (start plan) h m
    own_book =
        let x = known.1 in
        let e : its_book (start plan) h m ≡ x.k = ap (nth no_book 0) x.books in
        record {
          sender = ap (λ (k : Book). k.sender) e ∙ x.own.sender;
          since = ap (λ (k : Book). k.payload_frame.since) e ∙ x.own.asked;
          payload = λ t.
              ap (λ (k : Book). k.payload_frame.payload) e ∙ (x.own.content the_payload (subst (λ (k : Book). T k.payload_frame.given) e t)).1;
        }

-- DEMAND 3, BY COUNTS
pub demand3_by_counts : Demand3ByCounts
demand3_by_counts plan ok h keeps m two newest rule2 = atomic plan ok h keeps m two newest rule2

-- THE BOOK of a stream's newest message is its own
pub newest_book_is_own : NewestBookIsOwn
newest_book_is_own plan ok h keeps m two newest = own_book plan ok h keeps m two newest
