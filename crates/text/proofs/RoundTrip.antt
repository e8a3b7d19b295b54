-- What is written can be read back: the digits of a number say that number, and the hex text of some bytes says those bytes.
use Prim.Native.Nat.{ℕ, zero, suc, ◌^◌, ◌+◌, ◌*◌, ◌/◌, ◌%◌, ◌<◌, ◌≤◌}
use native.Mathlib.Nat.{pow-suc}
use native.Mathlib.Omega.{arith}
use mathlib.Core.Path.{◌≡◌, refl, sym, ◌∙◌}
use mathlib.Core.Bool.{Bool, true, false, cond, ◌&&◌, ◌||◌, and_assoc}
use mathlib.Core.List.{List, [], ◌∷◌, ◌++◌}
use lib.Dec.{ltb, leb}
use lib.ListN.{length, get_or, length-append}
use borrow.Author.Tests.{lt-ltb, le-ltb, le-leb, lt-leb, ltb-true, ltb-false}
use Rattle.text.specs.Digits.{hex_digit_ascii}
use Rattle.text.specs.Numbers.{digit_of, all_digits, value_of, number_of, digits_of, decimal_text}
use Rattle.text.proofs.PayloadLaws.{hex_length}
use Rattle.text.specs.Payloads.{nibble_of, byte_of, all_pairs, from_hex, is_dash, is_hex, is_payload, payload_bytes, to_hex, hex_text}

digit_back : (d : ℕ) → d < 10 → digit_of (hex_digit_ascii d) ≡ d
digit_back d h =
    rw (lt-ltb d 10 h, le-ltb (48 + d) 48 (omega arith), le-ltb 57 (48 + d) (omega arith)) (omega arith)

all_digits_append : (s t : List ℕ) → all_digits (s ++ t) ≡ (all_digits s && all_digits t)
all_digits_append [] t = refl
all_digits_append (b ∷ s) t = rw (all_digits_append s t) (sym (and_assoc (leb (digit_of b) 9) (all_digits s) (all_digits t)))

value_append : (v : ℕ) (s t : List ℕ) → value_of v (s ++ t) ≡ value_of (value_of v s) t
value_append v [] t = refl
value_append v (b ∷ s) t = value_append (v * 10 + digit_of b) s t

-- the digits of n say n
record Says (s : List ℕ) (n : ℕ) : Type 0 where
  some : 0 < length s
  good : all_digits s ≡ true
  value : value_of 0 s ≡ n

says_digit : (n : ℕ) → n < 10 → Says (hex_digit_ascii n ∷ []) n
says_digit n h =
    let e = digit_back n h in
    record { some = omega arith; good = rw (e, le-leb n 9 (omega arith)); value = rw e (omega arith) }

says_more : (s : List ℕ) (n : ℕ) → Says s (n / 10) → Says (s ++ (hex_digit_ascii (n % 10) ∷ [])) n
says_more s n w =
    let e : digit_of (hex_digit_ascii (n % 10)) ≡ n % 10 = digit_back (n % 10) (omega arith) in
    record {
      some = simp length-append (omega arith);
      good = all_digits_append s (hex_digit_ascii (n % 10) ∷ []) ∙ rw (w.good, e, le-leb (n % 10) 9 (omega arith));
      value = value_append 0 s (hex_digit_ascii (n % 10) ∷ []) ∙ rw (w.value, e) (omega arith);
    }

digits_say_by : (f n : ℕ) (t : Bool) → ltb n 10 ≡ t → (10 ≤ n → Says (digits_of f (n / 10)) (n / 10))
    → Says (cond t (hex_digit_ascii n ∷ []) (digits_of f (n / 10) ++ (hex_digit_ascii (n % 10) ∷ []))) n
digits_say_by f n true e more = says_digit n (ltb-true n 10 e)
digits_say_by f n false e more = says_more (digits_of f (n / 10)) n (more (ltb-false n 10 e))

digits_say : (f n : ℕ) → n < 10 ^ suc f → Says (digits_of (suc f) n) n
digits_say zero n h = digits_say_by zero n (ltb n 10) refl (λ large. absurd (omega arith))
digits_say (suc f) n h =
    let m : n < 10 ^ suc f * 10 = rw (pow-suc 10 (suc f)) at h in
    digits_say_by (suc f) n (ltb n 10) refl (λ large. digits_say f (n / 10) (omega arith))

-- reading the decimal digits of a number gives the number
pub decimal_back : (n limit : ℕ) → n < 2 ^ 64 → n ≤ limit → number_of limit (decimal_text n) ≡ record { ok = true; value = n }
unfolding number_of decimal_text
decimal_back n limit h m =
    let w : Says (digits_of 20 n) n = digits_say 19 n (omega arith) in
    rw (lt-ltb 0 _ w.some, w.good, w.value, le-leb n limit m)

nibble_back_by : (d : ℕ) (t : Bool) → ltb d 10 ≡ t → d < 16 → nibble_of (cond t (48 + d) (87 + d)) ≡ d
nibble_back_by d true e h =
    let s : d < 10 = ltb-true d 10 e in
    rw (le-ltb (48 + d) 48 (omega arith), le-leb (48 + d) 57 (omega arith)) (omega arith)
nibble_back_by d false e h =
    let l : 10 ≤ d = ltb-false d 10 e in
    rw (le-ltb (87 + d) 48 (omega arith), lt-leb (87 + d) 57 (omega arith))
    (rw (le-ltb (87 + d) 97 (omega arith), le-leb (87 + d) 102 (omega arith)) (omega arith))

nibble_back : (d : ℕ) → d < 16 → nibble_of (hex_digit_ascii d) ≡ d
nibble_back d h = nibble_back_by d (ltb d 10) refl h

byte_back : (b : ℕ) → b < 256 → byte_of (hex_digit_ascii (b / 16)) (hex_digit_ascii (b % 16)) ≡ b
byte_back b h =
    rw (nibble_back (b / 16) (omega arith), nibble_back (b % 16) (omega arith))
    (rw (le-ltb 15 (b / 16) (omega arith), le-ltb 15 (b % 16) (omega arith)) (omega arith))

pairs_back : (s : List ℕ) → ((i : ℕ) → get_or s i 0 < 256) → (all_pairs (to_hex s) ≡ true) × (from_hex (to_hex s) ≡ s)
pairs_back [] h = (refl, refl)
pairs_back (b ∷ s) h =
    let e : byte_of (hex_digit_ascii (b / 16)) (hex_digit_ascii (b % 16)) ≡ b = byte_back b (h 0) in
    let r = pairs_back s (λ i. h (suc i)) in
    (rw (e, le-leb b 255 (omega (arith, h 0)), r.0), rw (e, r.1))

either : (a : Bool) → (a || true) ≡ true
either true = refl
either false = refl

dash_none : (a : Bool) → cond (a && false) (from_hex (45 ∷ [])) [] ≡ []
dash_none true = refl
dash_none false = refl

-- reading the hex text of no more bytes than there is room for gives the bytes
pub hex_back : (most : ℕ) (s : List ℕ) → ((i : ℕ) → get_or s i 0 < 256) → length s ≤ most
    → (is_payload most (hex_text s) ≡ true) × (payload_bytes most (hex_text s) ≡ s)
unfolding is_payload payload_bytes
hex_back most [] h m = (refl, dash_none (leb 1 (2 * most)))
hex_back most (b ∷ s) h m =
    let r = pairs_back (b ∷ s) h in
    let n = hex_length (b ∷ s) in
    let t = to_hex (b ∷ s) in
    let x : is_hex most t ≡ true = rw (lt-ltb 0 (length t) (omega arith), le-leb (length t) (2 * most) (omega arith), r.0) in
    (rw x (either (is_dash t)), rw x r.1)
