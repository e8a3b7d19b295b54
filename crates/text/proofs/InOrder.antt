-- Lines and words are handed out in order, and nothing is lost: what was there is what is handed out, the byte that ends it, and what is left.
use Prim.Native.Nat.{ℕ, suc, ◌+◌, ◌-◌, ◌<◌, ◌≤◌, min}
use native.Mathlib.Omega.{arith}
use mathlib.Core.Path.{◌≡◌, refl, sym, ap, ◌∙◌}
use mathlib.Core.Bool.{Bool, true, false}
use mathlib.Core.List.{List, [], ◌∷◌, ◌++◌}
use lib.Dec.{eqb}
use lib.ListN.{length, take, drop, length-drop}
use lib.Seq.{take-length, take-take, drop-drop, length-slice}
use borrow.Author.Tests.{lt-ltb, eqb-true}
use Rattle.text.specs.Bytes.{index_of, index_after, slice}
use Rattle.text.specs.Buffer.{size}
use Rattle.text.specs.Input.{Input, stop_of, start_of, unread, end_of, line_of, step_of, line_in, over_of, kept_of, Refilled}
use Rattle.text.specs.Words.{word_at, bytes_at}
use Rattle.text.proofs.InputLaws.{part_of}

-- a list in which b stands is what comes before the first b, that b, and what comes behind it
split_by : (b x : ℕ) (s : List ℕ) (t : Bool) (k : ℕ) → eqb x b ≡ t → index_after t k < suc (length s)
    → (k < length s → s ≡ take k s ++ (b ∷ drop (suc k) s))
    → x ∷ s ≡ take (index_after t k) (x ∷ s) ++ (b ∷ drop (suc (index_after t k)) (x ∷ s))
unfolding index_after
split_by b x s true k e h rest = rw (eqb-true x b e)
split_by b x s false k e h rest = ap (λ (l : List ℕ). x ∷ l) (rest (omega arith))

split : (b : ℕ) (s : List ℕ) → index_of b s < length s → s ≡ take (index_of b s) s ++ (b ∷ drop (suc (index_of b s)) s)
unfolding index_of
split b [] h = absurd (omega arith)
split b (x ∷ s) h = split_by b x s (eqb x b) (index_of b s) refl h (split b s)

-- no b stands before the first b
none_before_by : (b x : ℕ) (s : List ℕ) (t : Bool) (k : ℕ) → eqb x b ≡ t → index_of b (take k s) ≡ length (take k s)
    → index_of b (take (index_after t k) (x ∷ s)) ≡ length (take (index_after t k) (x ∷ s))
unfolding index_of index_after
none_before_by b x s true k e rest = refl
none_before_by b x s false k e rest = rw (e, rest)

none_before : (b : ℕ) (s : List ℕ) → index_of b (take (index_of b s) s) ≡ length (take (index_of b s) s)
unfolding index_of
none_before b [] = refl
none_before b (x ∷ s) = none_before_by b x s (eqb x b) (index_of b s) refl (none_before b s)

-- of the bytes from f to t, the first k, and those behind the next one
module _ (s : List ℕ) (f t k : ℕ) (here : f + k < t) (within : t ≤ length s) where
  first_part : take (f + k - f) (drop f s) ≡ take k (slice f t s)
  first_part =
      let e : f + k - f ≡ k = omega arith in
      rw (e, part_of s f t (omega arith) within, take-take k (t - f) (drop f s) (omega arith))

  last_part : t ≤ size → slice (min (f + k + 1) (min t size)) (min t size) s ≡ drop (suc k) (slice f t s)
  unfolding slice
  last_part small =
      let e : min t size ≡ t = omega arith in
      let d : min (f + k + 1) t ≡ f + suc k = omega arith in
      rw (e, d) (sym (drop-drop (suc k) f (take t s)))

module _ (s : List ℕ) (i : Input) (long : length s ≡ size) where
  unread_length : length (unread s i) ≡ stop_of i - start_of i
  unfolding slice
  unread_length = length-slice (start_of i) (stop_of i) s (omega arith)

  module _ (newline : end_of s i < stop_of i) where
    handed_out : step_of s i ≡ line_of i (end_of s i) (end_of s i + 1)
    handed_out = rw (lt-ltb (end_of s i) (stop_of i) newline)

    line : line_in s (step_of s i) ≡ take (index_of 10 (unread s i)) (unread s i)
    line = rw handed_out (first_part s (start_of i) (stop_of i) (index_of 10 (unread s i)) newline (omega arith))

    left : unread s (step_of s i).input ≡ drop (suc (index_of 10 (unread s i))) (unread s i)
    left = rw handed_out (last_part s (start_of i) (stop_of i) (index_of 10 (unread s i)) newline (omega arith) (omega arith))

    -- the unread bytes are the line that is handed out, its newline, and what is then unread
    pub line_taken : unread s i ≡ line_in s (step_of s i) ++ (10 ∷ unread s (step_of s i).input)
    line_taken = rw (line, left) (split 10 (unread s i) (omega (arith, unread_length)))

    -- there is no newline in the line
    pub one_line : index_of 10 (line_in s (step_of s i)) ≡ length (line_in s (step_of s i))
    one_line = rw line (none_before 10 (unread s i))

  -- after a read the unread bytes are still the first ones, unless they are of a line that is too long
  pub unread_stays : (new : List ℕ) (r : Input) → over_of i ≡ false → Refilled s i new r → take (length (unread s i)) (unread new r) ≡ unread s i
  unfolding slice
  unread_stays new r fine w =
      let n = length (unread s i) in
      let k : kept_of i ≡ n = rw fine (sym unread_length) in
      let front : take n new ≡ unread s i = rw k at w.kept ∙ take-length (unread s i) in
      let m : min (kept_of i + w.came) size ≡ n + w.came = omega (arith, k, w.fits) in
      let z : min 0 (n + w.came) ≡ 0 = omega arith in
      rw (w.next, m, z) (take-take n (n + w.came) new (omega arith) ∙ front)

module _ (s : List ℕ) (at : ℕ) (within : at ≤ length s) where
  here : min at (length s) ≡ at
  here = omega arith

  word : bytes_at s at ≡ take (index_of 32 (drop at s)) (drop at s)
  unfolding word_at
  word =
      let e : at + index_of 32 (drop at s) - at ≡ index_of 32 (drop at s) = omega arith in
      rw (here, e)

  next : (word_at s at).next ≡ at + suc (index_of 32 (drop at s))
  unfolding word_at
  next = rw here (omega arith)

  end : (word_at s at).end ≡ at + index_of 32 (drop at s)
  unfolding word_at
  end = rw here

  -- from a word that a space ends on, the line is the word, the space, and the line from the next word on
  pub word_taken : (word_at s at).end < length s → drop at s ≡ bytes_at s at ++ (32 ∷ drop (word_at s at).next s)
  word_taken h =
      let k = index_of 32 (drop at s) in
      let some : k < length (drop at s) = simp length-drop (omega (arith, end)) in
      rw (word, next, ← drop-drop (suc k) at s) (split 32 (drop at s) some)

  -- there is no space in a word
  pub one_word : index_of 32 (bytes_at s at) ≡ length (bytes_at s at)
  one_word = rw word (none_before 32 (drop at s))

-- a word starts before the next one
pub next_later : (s : List ℕ) (at : ℕ) → min at (length s) < (word_at s at).next
unfolding word_at
next_later s at = omega arith
