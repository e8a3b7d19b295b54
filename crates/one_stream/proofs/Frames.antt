-- Facts of a module's frames of code 2: of each, of any, of the one at a place, as one is caused, given out and sent.
use Prim.Native.Nat.{ℕ, zero, suc}
use mathlib.Core.Path.{◌≡◌, refl}
use mathlib.Core.Logic.{inl, inr}
use mathlib.Core.Bool.{Bool, true, false, ◌&&◌, ◌||◌}
use mathlib.Core.List.{List, [], ◌∷◌}
use lib.Dec.{T, T_not}
use Rattle.one_stream.specs.Sendings.{Bytes, Moment, Delays}
use Rattle.one_stream.specs.Frames.{Frame, new_frame, add_frame, resent, send_at, bytes_at, given_out, give_newest, Each, Any, At, NonEmpty, Waiting, MaySend}

-- what giving out and a further sending leave alone
pub record Stable (S : Delays) (now : Moment) (full : Bool) (P : Frame → Type 0) : Type 0 where
  pub given : (f : Frame) → P f → P (given_out f)
  pub again : (f : Frame) → MaySend S now f → P f → P (resent now full f)

-- ── each, any, at ──
pub each_map : (P Q : Frame → Type 0) (fs : List Frame) → ((f : Frame) → P f → Q f) → Each P fs → Each Q fs
each_map P Q [] m e = tt
each_map P Q (f ∷ fs) m e = (m f e.0, each_map P Q fs m e.1)

pub each_zip : (P Q R : Frame → Type 0) (fs : List Frame) → ((f : Frame) → P f → Q f → R f) → Each P fs → Each Q fs → Each R fs
each_zip P Q R [] m e d = tt
each_zip P Q R (f ∷ fs) m e d = (m f e.0 d.0, each_zip P Q R fs m e.1 d.1)

pub each_none : (P : Frame → Type 0) (fs : List Frame) → Each P fs → ((f : Frame) → P f → ⊥) → NonEmpty fs → ⊥
each_none P [] e n h = h
each_none P (f ∷ fs) e n h = n f e.0

pub any_map : (P Q : Frame → Type 0) (fs : List Frame) → ((f : Frame) → P f → Q f) → Any P fs → Any Q fs
any_map P Q [] m e = e
any_map P Q (f ∷ fs) m (inl e) = inl (m f e)
any_map P Q (f ∷ fs) m (inr e) = inr (any_map P Q fs m e)

pub any_at : (P Q : Frame → Type 0) (fs : List Frame) → ((f : Frame) → P f → Q f) → Any P fs → (k : ℕ) × At Q k fs
any_at P Q [] m e = absurd e
any_at P Q (f ∷ fs) m (inl e) = (zero, m f e)
any_at P Q (f ∷ fs) m (inr e) = let r = any_at P Q fs m e in (suc r.0, r.1)

pub at_some : (P : Frame → Type 0) (k : ℕ) (fs : List Frame) → At P k fs → NonEmpty fs
at_some P k [] h = h
at_some P k (f ∷ fs) h = tt

pub at_each : (P Q : Frame → Type 0) (k : ℕ) (fs : List Frame) → At P k fs → Each Q fs
    → (f : Frame) × P f × Q f × (bytes_at k fs ≡ f.bytes)
at_each P Q k [] h e = absurd h
at_each P Q zero (f ∷ fs) h e = (f, h, e.0, refl)
at_each P Q (suc k) (f ∷ fs) h e = at_each P Q k fs h e.1

-- ── a frame is caused ──
pub add_some : (p : Bool) (now : Moment) (b : Bytes) (fs : List Frame) → (T p → Waiting fs) → NonEmpty (add_frame true p now b fs)
add_some true now b [] h = absurd (h tt)
add_some true now b (f ∷ fs) h = tt
add_some false now b fs h = tt

pub add_waits : (c m p : Bool) (now : Moment) (b : Bytes) (fs : List Frame) → (T p → Waiting fs) → T (p || c)
    → Waiting (add_frame c (m && p) now b fs)
add_waits true true false now b fs h t = (tt, λ x. x)
add_waits true true true now b fs h t = h tt
add_waits true false p now b fs h t = (tt, λ x. x)
add_waits false m true now b fs h t = h tt
add_waits false m false now b fs h t = absurd t

pub each_add : (P : Frame → Type 0) (c p : Bool) (now : Moment) (b : Bytes) (fs : List Frame) → (T c → P (new_frame now b))
    → Each P fs → Each P (add_frame c p now b fs)
each_add P true false now b fs n e = (n tt, e)
each_add P true true now b fs n e = e
each_add P false p now b fs n e = e

pub any_add : (P : Frame → Type 0) (c p : Bool) (now : Moment) (b : Bytes) (fs : List Frame) → Any P fs → Any P (add_frame c p now b fs)
any_add P true false now b fs e = inr e
any_add P true true now b fs e = e
any_add P false p now b fs e = e

-- ── a frame is given out ──
pub give_some : (fs : List Frame) → NonEmpty fs → NonEmpty (give_newest fs)
give_some [] h = h
give_some (f ∷ fs) h = tt

pub some_give : (fs : List Frame) → NonEmpty (give_newest fs) → NonEmpty fs
some_give [] h = h
some_give (f ∷ fs) h = tt

pub each_give : (P : Frame → Type 0) (fs : List Frame) → ((f : Frame) → P f → P (given_out f)) → Each P fs → Each P (give_newest fs)
each_give P [] m e = tt
each_give P (f ∷ fs) m e = (m f e.0, e.1)

pub any_give : (P : Frame → Type 0) (fs : List Frame) → ((f : Frame) → P f → P (given_out f)) → Any P fs → Any P (give_newest fs)
any_give P [] m e = e
any_give P (f ∷ fs) m (inl e) = inl (m f e)
any_give P (f ∷ fs) m (inr e) = inr e

-- ── a frame is sent ──
module _ (now : Moment) (full : Bool) where
  pub send_some : (k : ℕ) (fs : List Frame) → NonEmpty fs → NonEmpty (send_at now full k fs)
  send_some k [] h = h
  send_some zero (f ∷ fs) h = tt
  send_some (suc k) (f ∷ fs) h = tt

  -- a frame that waits is not one that may be sent
  pub send_waits : (P : Frame → Type 0) → ((f : Frame) → P f → T f.given) → (k : ℕ) (fs : List Frame) → At P k fs
      → Waiting fs → Waiting (send_at now full k fs)
  send_waits P out k [] h x = x
  send_waits P out zero (f ∷ fs) h x = absurd (T_not f.given x.0 (out f h))
  send_waits P out (suc k) (f ∷ fs) h x = x

  -- the frame just sent
  pub sent_any : (P Q : Frame → Type 0) (k : ℕ) (fs : List Frame) → ((f : Frame) → P f → Q (resent now full f)) → At P k fs
      → Any Q (send_at now full k fs)
  sent_any P Q k [] m h = h
  sent_any P Q zero (f ∷ fs) m h = inl (m f h)
  sent_any P Q (suc k) (f ∷ fs) m h = inr (sent_any P Q k fs m h)

  pub each_send : (P M : Frame → Type 0) (k : ℕ) (fs : List Frame) → ((f : Frame) → M f → P f → P (resent now full f)) → At M k fs
      → Each P fs → Each P (send_at now full k fs)
  each_send P M k [] m h e = tt
  each_send P M zero (f ∷ fs) m h e = (m f h e.0, e.1)
  each_send P M (suc k) (f ∷ fs) m h e = (e.0, each_send P M k fs m h e.1)

  pub any_send : (P M : Frame → Type 0) (k : ℕ) (fs : List Frame) → ((f : Frame) → M f → P f → P (resent now full f)) → At M k fs
      → Any P fs → Any P (send_at now full k fs)
  any_send P M k [] m h e = e
  any_send P M zero (f ∷ fs) m h (inl e) = inl (m f h e)
  any_send P M zero (f ∷ fs) m h (inr e) = inr e
  any_send P M (suc k) (f ∷ fs) m h (inl e) = inl e
  any_send P M (suc k) (f ∷ fs) m h (inr e) = inr (any_send P M k fs m h e)
