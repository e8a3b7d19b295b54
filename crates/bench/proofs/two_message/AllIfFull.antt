-- A two-message message whose data and whose confirmation each had a full sending: every live receiver that has counted past it has delivered it.
use Prim.Native.Nat.{ℕ}
use mathlib.Core.Path.{subst}
use mathlib.Core.List.{List}
use lib.Dec.{T}
use Rattle.wire.specs.declared.ids.Stream.{Stream}
use Rattle.one_stream.proofs.TwoMEnd.{all_if_full_law, books_of, slots_of}
use Rattle.one_stream.specs.Sendings as OS
use Rattle.one_stream.specs.TwoM as OM
use Rattle.bench.specs.Bench.{Bench, no_book, book_of, now}
use Rattle.bench.specs.Lists.{nth}
use Rattle.bench.specs.Rules.{was_full, one_omission}
use Rattle.bench.proofs.message.SendingsSeen.{full_was}
use Rattle.bench.proofs.message.MessageKept.{Track}
use Rattle.bench.proofs.message.RequestOpens.{logs_of}
use Rattle.bench.proofs.message.Judgement.{strand₃, Judges, is_live_here, is_over_here, DeliveredOnce, log_once, once}
use Rattle.bench.proofs.two_message.TwoMessageOnBench.{two_message}

module _ (D : OS.Delays) (fit : OM.Fit D) (s : Stream) (me : ℕ) (p : List ℕ) (b₁ b₃ : Bench)
    (x : Track (two_message D fit) s me (now b₁) p (logs_of s b₁) b₃) (rule2 : T (one_omission (book_of s 0 b₃))) where
  pub judged_all_if_full : T (was_full (book_of s 0 b₃).payload_frame) → T (was_full (book_of s 0 b₃).confirmation)
      → (i : ℕ) → Judges (two_message D fit) s me p b₁ b₃ x i → DeliveredOnce (two_message D fit) s me p b₁ b₃ x i
  unfolding two_message
  judged_all_if_full d c i j =
      let K = two_message D fit in
      let z = strand₃ K s me p b₁ b₃ x in
      let (t, stamped, e) =
      all_if_full_law D fit z.state x.a (logs_of s b₁) (books_of D fit z x.a (logs_of s b₁) x.inv) (slots_of D fit z x.a (logs_of s b₁) x.inv)
      (once K s me p b₁ b₃ x rule2)
      (full_was x.k.payload_frame (subst (λ ks. T (was_full (nth no_book 0 ks).payload_frame)) x.books d))
      (full_was x.k.confirmation (subst (λ ks. T (was_full (nth no_book 0 ks).confirmation)) x.books c))
      i (is_live_here K s me p b₁ b₃ x i j) (is_over_here K s me p b₁ b₃ x i j) in
      log_once K s me p b₁ b₃ x i _ e
