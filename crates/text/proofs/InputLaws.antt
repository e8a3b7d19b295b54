-- Laws on the bytes at hand: on those that a read keeps, and on parts that are cut to what is there.
use Prim.Native.Nat.{ℕ, ◌+◌, ◌-◌, ◌<◌, ◌≤◌, min}
use native.Mathlib.Omega.{arith}
use mathlib.Core.Path.{◌≡◌, refl, sym, ap, ◌∙◌}
use mathlib.Core.Bool.{Bool, true, false, cond, ◌&&◌}
use mathlib.Core.List.{List}
use lib.Dec.{leb, eqb}
use lib.ListN.{length, take, drop, length-drop}
use lib.Seq.{take_all, take-length, take-add, length-take-le, length-slice, drop_at}
use borrow.Author.Tests.{leb-true, leb-false, eqb-false, lt-ltb}
use Rattle.std.specs.Prelude.{None, Some, is_some}
use Rattle.std.proofs.lemmas.Bool.{or_parts}
use Rattle.text.specs.Bytes.{slice}
use Rattle.text.specs.Buffer.{size}
use Rattle.text.specs.Input.{Input, stop_of, start_of, unread, over_of, kept_of, kept_in, Refilled}
use Rattle.text.specs.Lines.{input_of, long_of}
use Rattle.text.specs.declared.input.Lines.{Lines}
use Rattle.text.specs.declared.input.TooLong.{TooLong}
use Rattle.text.specs.Window.{Window, bytes_in, WindowRead}

-- the bytes from index f up to index t are the first t - f of those from f on
pub part_of : (s : List ℕ) (f t : ℕ) → f ≤ t → t ≤ length s → slice f t s ≡ take (t - f) (drop f s)
unfolding slice
part_of s f t h m =
    let part : (k : ℕ) → drop f (take (f + k) s) ≡ take k (drop f s) =
    λ k. rw (take-add f k s) (drop_at (take f s) (take k (drop f s)) f (length-take-le f s (omega arith))) in
    let e : f + (t - f) ≡ t = omega arith in
    rw e at (part (t - f))

-- a count and a start that go past the end take nothing more than is there
take_by : (n : ℕ) (s : List ℕ) (t : Bool) → leb n (length s) ≡ t → take (min n (length s)) s ≡ take n s
take_by n s true e =
    let l : n ≤ length s = leb-true _ _ e in
    let m : min n (length s) ≡ n = omega arith in
    rw m
take_by n s false e =
    let l : length s < n = leb-false _ _ e in
    let m : min n (length s) ≡ length s = omega arith in
    rw (m, take-length s, take_all n s (omega arith))

pub take_least : (n : ℕ) (s : List ℕ) → take (min n (length s)) s ≡ take n s
take_least n s = take_by n s (leb n (length s)) refl

part_by : (s : List ℕ) (f t : ℕ) (a : Bool) → leb f (min t (length s)) ≡ a
    → take (min t (length s) - min f (min t (length s))) (drop (min f (min t (length s))) s) ≡ take (t - f) (drop f s)
part_by s f t true e =
    let l : f ≤ min t (length s) = leb-true _ _ e in
    let g : min f (min t (length s)) ≡ f = omega arith in
    let n : min t (length s) - f ≡ min (t - f) (length (drop f s)) = simp length-drop (omega arith) in
    rw (g, n) (take_least (t - f) (drop f s))
part_by s f t false e =
    let l : min t (length s) < f = leb-false _ _ e in
    let g : min f (min t (length s)) ≡ min t (length s) = omega arith in
    let z : min t (length s) - min t (length s) ≡ 0 = omega arith in
    let n : min (t - f) (length (drop f s)) ≡ 0 = simp length-drop (omega arith) in
    rw (g, z, ← take_least (t - f) (drop f s), n)

-- a part that is cut to what is there has the same bytes
pub part_cut : (s : List ℕ) (f t e g : ℕ) → e ≡ min t (length s) → g ≡ min f e → take (e - g) (drop g s) ≡ take (t - f) (drop f s)
part_cut s f t e g p q = rw (q, p) (part_by s f t (leb f (min t (length s))) refl)

-- the bytes at hand are the unread ones
pub all_unread : (s : List ℕ) (i : Input) (w : Window) → length s ≡ size → w.from ≡ i.from → w.to ≡ i.to → bytes_in s w ≡ unread s i
all_unread s i w long f t =
    rw (f, t, part_of s (start_of i) (stop_of i) (omega arith) (omega arith))
    (sym (part_cut s i.from i.to (stop_of i) (start_of i) (rw long) refl))

-- a read keeps fewer bytes than the buffer has
kept_by : (i : Input) (t : Bool) → over_of i ≡ t → kept_of i ≤ stop_of i - start_of i × kept_of i < size
kept_by i true e = rw e (omega arith, omega arith)
kept_by i false e =
    let some = eqb-false _ _ (or_parts i.over _ e).1 in
    rw e (omega arith, omega (arith, some))

and_true : (b : Bool) → (b && true) ≡ b
and_true true = refl
and_true false = refl

module _ (s : List ℕ) (i : Input) (long : length s ≡ size) where
  unread_length : length (unread s i) ≡ stop_of i - start_of i
  unfolding slice
  unread_length = length-slice (start_of i) (stop_of i) s (omega arith)

  kept_length : length (kept_in s i) ≡ kept_of i
  kept_length = length-take-le (kept_of i) (unread s i) (omega (arith, unread_length, (kept_by i (over_of i) refl).0))

  -- it keeps all that are unread, where the line is not too long
  pub all_kept : over_of i ≡ false → kept_in s i ≡ unread s i
  all_kept fine = rw fine (take_all _ _ (omega (arith, unread_length)))

  -- the read of a window with these bytes at hand
  pub refilled : (mid new : List ℕ) (w r : Window) → mid ≡ s → bytes_in mid w ≡ kept_in s i → WindowRead mid w new r
      → Refilled s i new (record { from = r.from; to = r.to; over = over_of i; ended = r.ended })
  refilled mid new w r m k read =
      let n : length (bytes_in mid w) ≡ kept_of i = ap length k ∙ kept_length in
      let room : length mid ≡ size = ap length m ∙ long in
      record {
        came = read.came;
        fits = rw (n, room) at read.fits;
        next =
            rw (read.next, n, room, lt-ltb _ _ (kept_by i (over_of i) refl).1)
            (ap (λ (e : Bool). let r : Input = record { from = 0; to = kept_of i + read.came; over = over_of i; ended = e } in r) (and_true (eqb read.came 0)));
        kept = rw n at read.kept ∙ k;
      }

is_some_by : (t : Bool) (long : TooLong) → is_some (cond t (Some long) None) ≡ t
is_some_by true long = refl
is_some_by false long = refl

-- a line is known to be too long where it is
pub is_some-long_of : (l : Lines) → is_some (long_of l) ≡ over_of (input_of l)
is_some-long_of l = is_some_by (over_of (input_of l)) _
