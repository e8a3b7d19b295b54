-- A frame's sendings and the moments of a bench, as the one-stream proof has them.
use Prim.Native.Nat.{ℕ, zero, suc, ◌+◌, ◌≤◌}
use native.Mathlib.Omega.{arith}
use mathlib.Core.Path.{◌≡◌, refl, ap, sym, subst, fun_ext}
use mathlib.Core.Bool.{Bool, true, false, not, ◌&&◌}
use mathlib.Core.List.{[], ◌∷◌}
use lib.Dec.{T, leb, leb→le}
use Rattle.one_stream.proofs.Truth.{and_l, and_r}
use Rattle.one_stream.specs.Sendings as OS
use Rattle.bench.specs.Bench.{Bench, Sendings, never, sent, Frame, Moment, now}
use Rattle.bench.specs.Events.{To, all, only, named, is_full, sent_again}
use Rattle.bench.specs.Rules.{within, was_sent, was_full, omission, one}
use Rattle.bench.proofs.laws.ModuleAfterEvent.{count_of, as_function, count_is}

unfoldable pub to_sent : Sendings → OS.Sent
to_sent never = OS.never
to_sent (sent a b f) = OS.sent (as_function a) (as_function b) f

-- ── what the books say of a frame ──
-- what does not hold of a frame that was never sent, and else is told by whether the last sending was full
told_by_last : (Holds : OS.Sent → Type 0) (tells : Bool → Bool) → Holds OS.never ≡ ⊥
    → ((x y : OS.Moment) (full : Bool) → Holds (OS.sent x y full) ≡ T (tells full))
    → (d : Sendings) → Holds (to_sent d) ≡ T (elim d [ never ↦ false | sent x y full ↦ tells full ])
unfolding to_sent
told_by_last Holds tells none some never = none
told_by_last Holds tells none some (sent x y full) = some (as_function x) (as_function y) full

full_is : (f : Frame) → OS.Full (to_sent f.sendings) ≡ T (was_full f)
full_is f = told_by_last OS.Full (λ full. full) refl (λ x y full. refl) f.sendings

some_is : (f : Frame) → OS.Some (to_sent f.sendings) ≡ T (was_sent f)
some_is f = told_by_last OS.Some (λ full. true) refl (λ x y full. refl) f.sendings

module _ (f : Frame) where
  pub was_full_here : OS.Full (to_sent f.sendings) → T (was_full f)
  was_full_here t = subst (λ (A : Type 0). A) (full_is f) t

  pub full_was : T (was_full f) → OS.Full (to_sent f.sendings)
  full_was t = subst (λ (A : Type 0). A) (sym (full_is f)) t

  pub was_sent_here : OS.Some (to_sent f.sendings) → T (was_sent f)
  was_sent_here t = subst (λ (A : Type 0). A) (some_is f) t

  pub sent_was : T (was_sent f) → OS.Some (to_sent f.sendings)
  sent_was t = subst (λ (A : Type 0). A) (sym (some_is f)) t

pub omits : (f : Frame) → OS.Omitted (to_sent f.sendings) → one (omission f) ≡ 1
unfolding to_sent
omits f = go f.sendings
  where
    go : (d : Sendings) → OS.Omitted (to_sent d)
        → one (elim d [ never ↦ false | sent a b c ↦ true ] && not (elim d [ never ↦ false | sent a b c ↦ c ])) ≡ 1
    go never o = absurd o
    go (sent a b true) o = absurd o
    go (sent a b false) o = refl

-- ── one more sending ──
pub sent_again_law : (b : Bench) (to : To) (d : Sendings) → OS.resend (count_of b) (is_full to) (to_sent d) ≡ to_sent (sent_again (now b) (is_full to) d)
unfolding to_sent
sent_again_law b to never = ap (λ c. OS.sent c c (is_full to)) (fun_ext (λ i. sym (count_is i b.modules)))
sent_again_law b to (sent x y g) = ap (λ c. OS.sent (as_function x) c (is_full to)) (fun_ext (λ i. sym (count_is i b.modules)))

pub fullness : (to : To) → OS.Fullness (named to) (is_full to)
fullness all = λ i. tt
fullness (only l) = tt

-- ── reaches ──
pub within_all : (R : ℕ) (from to : Moment) → T (within R from to) → (i : ℕ) → as_function to i ≤ as_function from i + R
within_all R [] [] t i = omega arith
within_all R [] (n ∷ ns) t i = absurd t
within_all R (f ∷ fs) [] t i = absurd t
within_all R (f ∷ fs) (n ∷ ns) t zero = leb→le n (f + R) (and_l (leb n (f + R)) (within R fs ns) t)
within_all R (f ∷ fs) (n ∷ ns) t (suc i) = within_all R fs ns (and_r (leb n (f + R)) (within R fs ns) t) i
