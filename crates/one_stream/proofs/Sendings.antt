-- Facts of a frame's sendings: one more sending, full and short ones, and the times of the data's sendings.
use Prim.Native.Nat.{ℕ, suc, ◌+◌, ◌≤◌}
use native.Mathlib.Omega.{arith}
use mathlib.Core.Path.{◌≡◌, refl, subst}
use mathlib.Core.Logic.{◌⊎◌, inl, inr}
use mathlib.Core.Bool.{Bool, true, false, not, ◌&&◌, cond}
use lib.Dec.{T, T_not}
use Rattle.one_stream.specs.Sendings.{Moment, move, Sent, never, sent, resend, Some, Full, Omitted, first, last, Within, Fullness}
use Rattle.one_stream.proofs.Truth.{cond_elim, both}

-- ── moments ──
pub move_later : (reached : ℕ → Bool) (now : Moment) (i : ℕ) → now i ≤ move reached now i
move_later reached now i = cond_elim (λ n. now i ≤ n) (reached i) (λ t. omega arith) (λ t. omega arith)

pub move_reached : (b : Bool) (n : ℕ) → T b → cond b (suc n) n ≡ suc n
move_reached true n t = refl
move_reached false n t = absurd t

pub move_missed : (b : Bool) (n : ℕ) → T (not b) → cond b (suc n) n ≡ n
move_missed true n t = absurd t
move_missed false n t = refl

-- ── one more sending ──
pub some_resend : (now : Moment) (f : Bool) (d : Sent) → Some (resend now f d)
some_resend now f never = tt
some_resend now f (sent a b g) = tt

pub full_resend : (now : Moment) (f : Bool) (d : Sent) → Full (resend now f d) → T f
full_resend now f never t = t
full_resend now f (sent a b g) t = t

pub first_resend : (now : Moment) (f : Bool) (d : Sent) → Some d → first (resend now f d) ≡ first d
first_resend now f never h = absurd h
first_resend now f (sent a b g) h = refl

pub last_resend : (now : Moment) (f : Bool) (d : Sent) → last (resend now f d) ≡ now
last_resend now f never = refl
last_resend now f (sent a b g) = refl

-- ── full, short, never ──
pub omitted : (d : Sent) → Some d → (Full d → ⊥) → Omitted d
omitted never h n = absurd h
omitted (sent a b true) h n = n tt
omitted (sent a b false) h n = tt

pub omitted_some : (d : Sent) → Omitted d → Some d
omitted_some never t = t
omitted_some (sent a b f) t = tt

pub full_some : (d : Sent) → Full d → Some d
full_some never t = t
full_some (sent a b f) t = tt

pub full_not_omitted : (d : Sent) → Full d → Omitted d → ⊥
full_not_omitted never f o = f
full_not_omitted (sent b c true) f o = o
full_not_omitted (sent b c false) f o = f

pub never_some : (d : Sent) → d ≡ never → Some d → ⊥
never_some d e s = subst Some e s

pub decide_full : (d : Sent) → Full d ⊎ (Full d → ⊥)
decide_full never = inr (λ t. t)
decide_full (sent a b true) = inl tt
decide_full (sent a b false) = inr (λ t. t)

pub decide_some : (d : Sent) → Some d ⊎ (Some d → ⊥)
decide_some never = inr (λ t. t)
decide_some (sent a b f) = inl tt

-- a live module that missed a sending: it was short
pub missed_short : (hears : ℕ → Bool) (full live : Bool) (i : ℕ) → Fullness hears full → T live → T (not (live && hears i)) → T full → ⊥
missed_short hears true live i all l missed t = T_not (live && hears i) missed (both live (hears i) l (all i))
missed_short hears false live i all l missed t = t

-- ── the data's sendings and a receiver's stamp ──
-- the times of the data's sendings
pub record DataTimes (R : ℕ) (requested now : Moment) (d : Sent) : Type 0 where
  pub asked : (i : ℕ) → requested i ≤ first d i
  pub order : (i : ℕ) → first d i ≤ last d i
  pub past : (i : ℕ) → last d i ≤ now i
  pub reach : (i : ℕ) → last d i ≤ requested i + R

-- a stamp of the data, as counted at i
pub record Stamped (d : Sent) (i : ℕ) (stamp : ℕ) : Type 0 where
  pub some : Some d
  pub low : first d i ≤ stamp
  pub high : stamp ≤ last d i
  pub exact : Full d → stamp ≡ last d i

module _ (R : ℕ) (requested now : Moment) (full : Bool) (d : Sent) where
  pub resent_times : ((i : ℕ) → requested i ≤ now i) → Within R requested now → (Some d → DataTimes R requested now d)
      → DataTimes R requested now (resend now full d)
  resent_times asked w k = go d k
    where
      go : (d : Sent) → (Some d → DataTimes R requested now d) → DataTimes R requested now (resend now full d)
      go never k = record { asked = asked; order = λ i. omega arith; past = λ i. omega arith; reach = w }
      go (sent a b g) k =
          record {
            asked = (k tt).asked;
            order = λ i. omega (arith, (k tt).order i, (k tt).past i);
            past = λ i. omega arith;
            reach = w;
          }

  -- heard now
  pub stamp_new : (i : ℕ) → ((i : ℕ) → requested i ≤ now i) → Within R requested now → (Some d → DataTimes R requested now d)
      → Stamped (resend now full d) i (now i)
  stamp_new i asked w k =
      let o = resent_times asked w k in
      let l = last_resend now full d in
      record {
        some = some_resend now full d;
        low = omega (arith, o.order i, o.past i);
        high = rw l (omega arith);
        exact = λ t. rw l;
      }

  -- missed a short sending
  pub stamp_keep : (i stamp : ℕ) → (T full → ⊥) → DataTimes R requested now d → Stamped d i stamp → Stamped (resend now full d) i stamp
  stamp_keep i stamp short k st =
      let l = last_resend now full d in
      record {
        some = some_resend now full d;
        low = rw (first_resend now full d st.some) st.low;
        high = rw l (omega (arith, st.high, k.past i));
        exact = λ t. absurd (short (full_resend now full d t));
      }
