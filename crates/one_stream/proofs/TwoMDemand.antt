-- Demand 3 for one 2M stream, also where the counts of modules drift apart by up to e ticks.
use Prim.Native.Nat.{ℕ, ◌+◌}
use native.Mathlib.Omega.{arith}
use mathlib.Core.Path.{◌≡◌, ap, ◌∙◌}
use mathlib.Core.Logic.{◌⊎◌, inl, inr}
use mathlib.Core.Bool.{Bool}
use mathlib.Core.List.{List, ◌∷◌, ◌++◌}
use Rattle.one_stream.specs.Sendings.{Bytes, Delays, Full, last}
use Rattle.one_stream.specs.Classes.{Note, Live}
use Rattle.one_stream.proofs.Histories.{Strand, Act, opens, NoOpens, act, OneOmission, acts, Keeps, Fresh, Counted}
use Rattle.one_stream.proofs.Twice.{Twice, not_twice}
use Rattle.one_stream.proofs.Books.{Books}
use Rattle.one_stream.proofs.Chain.{Over, NotDelivered, Inv, after_request}
use Rattle.one_stream.specs.TwoM.{Fit, two_m}
use Rattle.one_stream.proofs.TwoMWhy.{Cause, Slots}
use Rattle.one_stream.proofs.TwoMEnd.{DeliveredAt, all_or_none_law, all_if_full_law, two_mworks, books_of, slots_of}

-- module i delivered b once since Z₁; where the data had a full sending, dd + 1 ticks after it
pub record OnceAt (S : Delays) (b : Bytes) (Z₁ Z₃ : Strand (two_m S)) (i : ℕ) : Type 0 where
  pub at : ℕ
  pub log : (Z₃.state.receiver i).log ≡ record { at = at; bytes = b } ∷ (Z₁.state.receiver i).log
  pub when : Full Z₃.state.data_sent → at ≡ last Z₃.state.data_sent i + S.dd + 1

-- every receiver that is live in Z and has counted Rd + dd ticks and one more since the request has P
abbrev pub AllCounted : (S : Delays) → Strand (two_m S) → (ℕ → Type 0) → Type 0
AllCounted S Z P = (i : ℕ) → Live Z.state i → Counted (two_m S) (S.rd + S.dd) Z i → P i

-- Z₁: when the request of b is accepted; Z₃: later
pub record Demand3 (S : Delays) (b : Bytes) (Z₁ Z₃ : Strand (two_m S)) : Type 0 where
  pub all_or_none : AllCounted S Z₃ (OnceAt S b Z₁ Z₃)
      ⊎ AllCounted S Z₃ (λ i. (Z₃.state.receiver i).log ≡ (Z₁.state.receiver i).log)
  pub all_if_full : Full Z₃.state.data_sent → Full Z₃.state.conf_sent → AllCounted S Z₃ (OnceAt S b Z₁ Z₃)

-- Z₀ is the start, then `pre`, the accepted request, `mid`, and whatever follows
module _ (S : Delays) (fit : Fit S) (Z₀ : Strand (two_m S)) (fresh : Fresh (two_m S) Z₀) (pre mid rest : List Act) (b : Bytes)
    (keeps : Keeps (two_m S) S Z₀ (pre ++ (opens b ∷ (mid ++ rest)))) (no_opens : NoOpens mid) where
  abbrev Z₁ : Strand (two_m S)
  Z₁ = acts (two_m S) Z₀ pre

  abbrev Z₃ : Strand (two_m S)
  Z₃ = acts (two_m S) (act (two_m S) Z₁ (opens b)) mid

  abbrev base : ℕ → List Note
  base i = (Z₁.state.receiver i).log

  pub demand3 : OneOmission (two_m S) Z₃.state → Demand3 S b Z₁ Z₃
  demand3 rule2 =
      record {
        all_or_none = go (all_or_none_law S fit Z₃.state r.0 base books slots ok);
        all_if_full = λ d c i live o.
            once i (all_if_full_law S fit Z₃.state r.0 base books slots ok d c i live (over i o));
      }
    where
      r : (a : Bool) × Inv S (two_m S) (two_mworks S fit) Z₃ a base × (Z₃.state.message ≡ b)
      r = after_request S (two_m S) (two_mworks S fit) Z₀ fresh pre mid rest b keeps no_opens

      books : Books S (two_m S) (Cause S) Z₃.state r.0
      books = books_of S fit Z₃ r.0 base r.1

      slots : Slots S Z₃.state r.0 base
      slots = slots_of S fit Z₃ r.0 base r.1

      ok : Twice S (two_m S) Z₃.state → ⊥
      ok = not_twice S (two_m S) Z₃.state rule2

      over : (i : ℕ) → Counted (two_m S) (S.rd + S.dd) Z₃ i → Over S (two_m S) Z₃.state i
      over i o = omega (arith, o)

      once : (i : ℕ) → DeliveredAt S Z₃.state base i → OnceAt S b Z₁ Z₃ i
      once i (s, st, e) =
          record {
            at = s + S.dd + 1;
            log = e ∙ ap (λ m. record { at = s + S.dd + 1; bytes = m } ∷ base i) r.2;
            when = λ x. omega (arith, st.exact x);
          }

      go : ((i : ℕ) → Live Z₃.state i → Over S (two_m S) Z₃.state i → DeliveredAt S Z₃.state base i)
          ⊎ ((i : ℕ) → Live Z₃.state i → Over S (two_m S) Z₃.state i → NotDelivered (two_m S) Z₃.state base i)
          → AllCounted S Z₃ (OnceAt S b Z₁ Z₃) ⊎ AllCounted S Z₃ (λ i. (Z₃.state.receiver i).log ≡ base i)
      go (inl all) = inl (λ i live o. once i (all i live (over i o)))
      go (inr none) = inr (λ i live o. none i live (over i o))
