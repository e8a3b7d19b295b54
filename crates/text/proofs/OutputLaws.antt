-- Laws on texts that are written into a buffer one after the other. A caller's proof composes what its writes ensure by `then`.
use Prim.Native.Nat.{ℕ, ◌+◌, ◌-◌, ◌<◌, ◌≤◌}
use native.Mathlib.Numerals.{add-one}
use native.Mathlib.Omega.{arith}
use mathlib.Core.Path.{◌≡◌, refl, sym, ap, ◌∙◌}
use borrow.Author.Tests.{le-leb, lt-leb}
use mathlib.Core.List.{List, [], ◌∷◌, ◌++◌, append_assoc}
use lib.ListN.{length, take, drop, set, length-append, length-take, length-drop, take-append-drop}
use lib.Seq.{take_at, drop-append-add, drop-drop, set_split}
use Rattle.text.specs.Output.{Put, Wrote, free, room_at, past_text, with_text}

module _ {old text new : List ℕ} {at r : ℕ} (w : Wrote old at text new r) where
  written : length (take at old ++ text) ≡ r
  written = simp (length-append, length-take) (omega (arith, w.past, w.fits))

  regrouped : new ≡ (take at old ++ text) ++ drop r old
  regrouped = w.whole ∙ sym (append_assoc (take at old) text (drop r old))

  -- the buffer stays as long as it was
  pub kept : length new ≡ length old
  kept = ap length w.whole ∙ simp (length-append, length-take, length-drop) (omega (arith, w.past, w.fits))

  -- up to the index past it the buffer holds what was there before, and the text
  pub front : take r new ≡ take at old ++ text
  front = ap (take r) regrouped ∙ take_at (take at old ++ text) (drop r old) r written

  -- from there on nothing has changed
  pub rest : (n : ℕ) → drop (r + n) new ≡ drop (r + n) old
  rest n =
      let p = take at old ++ text in
      rw (regrouped, ← written) (drop-append-add p (drop (length p) old) n ∙ drop-drop n (length p) old)

-- one text after the other is one text
pub then : {old a mid b new : List ℕ} {at r s : ℕ} → Wrote old at a mid r → Wrote mid r b new s → Wrote old at (a ++ b) new s
then {old} {a} {mid} {b} {new} {at} {r} {s} p q =
    let tail : drop s mid ≡ drop s old = rw q.past (rest p (length b)) in
    record {
      past = simp length-append (omega (arith, p.past, q.past));
      fits = omega (arith, q.fits, kept p);
      whole = q.whole ∙ rw (front p, tail) (simp append_assoc);
    }

-- the empty text leaves the buffer as it is
pub nothing : (old : List ℕ) (at : ℕ) → at ≤ length old → Wrote old at [] old at
nothing old at h = record { past = omega arith; fits = h; whole = sym (take-append-drop at old) }

-- a byte that is stored is a text of one byte
pub stored : (old : List ℕ) (at b : ℕ) → at < length old → Wrote old at (b ∷ []) (set old at b) (at + 1)
stored old at b h = record { past = refl; fits = omega arith; whole = rw (add-one at) (set_split old at b h) }

-- the part from at on that is as long as a text was lent, and came back as the text
pub copied : (old text back : List ℕ) (at n : ℕ) → n ≡ at + length text → n ≤ length old → back ≡ text
    → Wrote old at text (take at old ++ (back ++ drop (n - at) (drop at old))) n
copied old text back at n l room e =
    let m : at + (n - at) ≡ n = omega (arith, l) in
    record { past = l; fits = room; whole = rw (e, drop-drop (n - at) at old, m) }

-- a text that was written where room was made for it is put
pub put_there : {old mid text new : List ℕ} {at start r : ℕ} → mid ≡ old → start ≡ room_at at → length text ≤ free → Wrote mid start text new r
    → Put old at text new r
unfolding past_text with_text
put_there {old} {mid} {text} {new} {at} {start} {r} m e h w =
    record { past = w.past ∙ rw (le-leb _ _ h, e); whole = w.whole ∙ rw (w.past, le-leb _ _ h, e, m) }

-- a longer one is put where the buffer was printed and stays as it is
pub put_past : {old text new : List ℕ} {at r : ℕ} → new ≡ old → free < length text → r ≡ 0 → Put old at text new r
unfolding past_text with_text
put_past m h e = record { past = e ∙ rw (lt-leb _ _ h); whole = m ∙ rw (lt-leb _ _ h) }
