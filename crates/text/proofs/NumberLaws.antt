-- Laws on numbers in decimal: the loop that reads a word finds the number that the word says, and the digits that are written are the number's.
use Prim.Native.Nat.{ℕ, zero, suc, ◌^◌, ◌+◌, ◌-◌, ◌*◌, ◌/◌, ◌%◌, ◌<◌, ◌≤◌}
use native.Mathlib.Numerals.{add-one}
use native.Mathlib.Nat.{pow-suc}
use native.Mathlib.Omega.{arith}
use mathlib.Core.Path.{◌≡◌, refl, sym, ap, ◌∙◌}
use mathlib.Core.Bool.{Bool, true, false, cond, ◌&&◌, true≢false}
use mathlib.Core.List.{List, [], ◌∷◌, ◌++◌, append-nil, append_assoc}
use lib.Dec.{leb}
use lib.ListN.{length, take, drop, get_or, set, length-set, drop_of_length-le}
use lib.Seq.{drop-cons, drop-set-lt}
use Rattle.std.specs.Bool.{IsTrue}
use Rattle.std.proofs.Common.{get_or-set_same}
use Rattle.std.proofs.lemmas.List.{take_rest}
use borrow.Author.Tests.{lt-ltb, le-ltb, le-leb, lt-leb, leb-true, leb-false}
use Rattle.text.specs.Digits.{hex_digit_ascii}
use Rattle.text.specs.Numbers.{Number, digit_of, all_digits, value_of, no_number, number_of, digits_of, decimal_text}

-- what the loop of `decimal` answers where it has read the number v and s is left
abbrev on_from : ℕ → ℕ → List ℕ → Number
on_from limit v [] = record { ok = true; value = v }
on_from limit v (b ∷ s) = cond (leb (digit_of b) 9 && leb (v * 10 + digit_of b) limit) (on_from limit (v * 10 + digit_of b) s) no_number

-- what it should answer there
abbrev said : ℕ → ℕ → List ℕ → Number
said limit v s = cond (all_digits s && leb (value_of v s) limit) (record { ok = true; value = value_of v s }) no_number

-- a further digit never makes the number smaller, so the loop may stop as soon as it is past the limit
value_grows : (v : ℕ) (s : List ℕ) → v ≤ value_of v s
value_grows v [] = omega arith
value_grows v (b ∷ s) = omega (arith, value_grows (v * 10 + digit_of b) s)

neither : (x : Bool) (n : ℕ) → ◌≡◌ {A = Number} no_number (cond (x && false) (record { ok = true; value = n }) no_number)
neither true n = refl
neither false n = refl

one_digit : (limit m : ℕ) (s : List ℕ) (good fits : Bool) → leb m limit ≡ fits → (m ≤ limit → on_from limit m s ≡ said limit m s)
    → cond (good && fits) (on_from limit m s) no_number
    ≡ cond ((good && all_digits s) && leb (value_of m s) limit) (record { ok = true; value = value_of m s }) no_number
one_digit limit m s false fits f h = refl
one_digit limit m s true true f h = h (leb-true _ _ f)
one_digit limit m s true false f h =
    let big : leb (value_of m s) limit ≡ false = lt-leb (value_of m s) limit (omega (arith, leb-false m limit f, value_grows m s)) in
    rw big (neither (all_digits s) (value_of m s))

on_from_said : (limit v : ℕ) (s : List ℕ) → v ≤ limit → on_from limit v s ≡ said limit v s
on_from_said limit v [] h = rw (le-leb v limit h)
on_from_said limit v (b ∷ s) h =
    one_digit limit (v * 10 + digit_of b) s (leb (digit_of b) 9) (leb (v * 10 + digit_of b) limit) refl (on_from_said limit (v * 10 + digit_of b) s)

loop_finds : (limit : ℕ) (s : List ℕ) → 0 < length s → on_from limit 0 s ≡ number_of limit s
unfolding number_of
loop_finds limit s h = on_from_said limit 0 s (omega arith) ∙ rw (lt-ltb _ _ h)

pub empty_is_none : (limit : ℕ) (s : List ℕ) → length s ≡ 0 → ¬ IsTrue (number_of limit s).ok
unfolding number_of
empty_is_none limit s h = rw (le-ltb 0 (length s) (omega arith)) (λ e. true≢false (sym e))

stopped_by : (p q : Bool) (n : Number) → (p ≡ true → q ≡ true → ⊥) → ¬ IsTrue (cond (p && q) n no_number).ok
stopped_by true true n f = absurd (f refl refl)
stopped_by true false n f = λ e. true≢false (sym e)
stopped_by false q n f = λ e. true≢false (sym e)

-- where the loop of `decimal` stands in a word: it has read the number v from the first i digits, and the rest decides
pub record Reading (limit : ℕ) (s : List ℕ) (v i : ℕ) : Type 0 where
  pub small : v ≤ limit
  pub decides : number_of limit s ≡ on_from limit v (drop i s)

pub start : (limit : ℕ) (s : List ℕ) → 0 < length s → Reading limit s 0 0
start limit s h = record { small = omega arith; decides = sym (loop_finds limit s h) }

-- a turn of the loop, and the ways out of it
module _ {limit v i : ℕ} {s : List ℕ} (c : Reading limit s v i) where
  module _ (d : ℕ) (h : i < length s) (e : d ≡ digit_of (get_or s i 0)) where
    opened : number_of limit s ≡ cond (leb d 9 && leb (v * 10 + d) limit) (on_from limit (v * 10 + d) (drop (suc i) s)) no_number
    opened = c.decides ∙ ap (on_from limit v) (drop-cons s i 0 h) ∙ rw (← e)

    pub digit_read : (d ≤ 9) × (v * 10 + d ≤ limit) → Reading limit s (v * 10 + d) (i + 1)
    digit_read (small, fits) = record { small = fits; decides = opened ∙ rw (le-leb _ _ small, le-leb _ _ fits, add-one i) }

    pub stopped : ¬ ((d ≤ 9) × (v * 10 + d ≤ limit)) → ¬ IsTrue (number_of limit s).ok
    stopped n = rw opened (stopped_by (leb d 9) (leb (v * 10 + d) limit) _ (λ p q. n (leb-true _ _ p, leb-true _ _ q)))

  pub all_read : length s ≤ i → IsTrue (number_of limit s).ok × (v ≡ (number_of limit s).value)
  all_read h = let e = c.decides ∙ rw (drop_of_length-le s {i = i} h) in rw e (refl, refl)

-- where the loop of `output::decimal` stands: the digits of n are those of rest, of which there are at most at, and then those that are written
pub record Written (n at rest : ℕ) (out : List ℕ) : Type 0 where
  pub some : 0 < at
  pub within : at ≤ length out
  pub small : rest < 10 ^ at
  pub whole : decimal_text n ≡ digits_of at rest ++ drop at out

pub unwritten : (n : ℕ) (out : List ℕ) → n < 2 ^ 64 → length out ≡ 20 → Written n 20 n out
unfolding decimal_text
unwritten n out h long =
    record {
      some = omega arith;
      within = omega arith;
      small = omega arith;
      whole = rw (drop_of_length-le out {i = 20} (omega arith)) (sym (append-nil (digits_of 20 n)));
    }

-- a number that is not 0 has a digit
has_digit : (at m : ℕ) → m < 10 ^ at → 0 < m → 0 < at
has_digit zero m h l = absurd (omega arith)
has_digit (suc at) m h l = omega arith

-- a digit that is stored in front of those that are written
stored_in_front : (out : List ℕ) (f d : ℕ) → f < length out → drop f (set out f d) ≡ d ∷ drop (suc f) out
stored_in_front out f d h =
    drop-cons (set out f d) f 0 (simp length-set (omega arith)) ∙ rw (get_or-set_same out f d 0 h, drop-set-lt (suc f) out f d (omega arith))

-- a turn of the loop writes the last digit of rest, and the digit that is left is written behind it
module _ {n at rest : ℕ} {out : List ℕ} (w : Written n at rest out) (f : ℕ) (e : at ≡ suc f) where
  pub digit_written : 9 < rest → Written n f (rest / 10) (set out f (hex_digit_ascii (rest % 10)))
  digit_written large =
      let low : rest < 10 ^ f * 10 = rw (e, pow-suc 10 f) at w.small in
      let fewer : rest / 10 < 10 ^ f = omega arith in
      let room : f < length out = omega (arith, w.within) in
      record {
        some = has_digit f (rest / 10) fewer (omega arith);
        within = simp length-set (omega arith);
        small = fewer;
        whole =
            rw (e, le-ltb rest 10 large, append_assoc) at w.whole ∙ rw (stored_in_front out f (hex_digit_ascii (rest % 10)) room);
      }

  pub last_written : rest ≤ 9 → drop f (set out f (hex_digit_ascii rest)) ≡ decimal_text n
  last_written small =
      let room : f < length out = omega (arith, w.within) in
      stored_in_front out f (hex_digit_ascii rest) room ∙ sym (w.whole ∙ rw (e, lt-ltb rest 10 (omega arith)))

-- what is lent of the digits is all that stands from index k on
pub text_at_end : (digits : List ℕ) (k n : ℕ) → length digits ≡ 20 → drop k digits ≡ decimal_text n → take (20 - k) (drop k digits) ≡ decimal_text n
text_at_end digits k n long e = rw long at (take_rest digits k) ∙ e
