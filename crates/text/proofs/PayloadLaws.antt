-- Laws on payloads in hex: the loop that reads digits finds the bytes that they say, and the loop that writes digits writes the bytes' text.
use Prim.Native.Nat.{ℕ, suc, ◌+◌, ◌*◌, ◌/◌, ◌%◌, ◌<◌, ◌≤◌}
use native.Mathlib.Nat.{not-le_of_lt}
use native.Mathlib.Numerals.{add-one}
use native.Mathlib.Omega.{arith}
use mathlib.Core.Path.{◌≡◌, refl, sym, ap, ◌∙◌}
use mathlib.Core.Bool.{Bool, true, false, cond, ◌&&◌, true≢false}
use mathlib.Core.Logic.{◌≢◌}
use mathlib.Core.List.{List, [], ◌∷◌, ◌++◌, append_assoc}
use lib.Dec.{ltb, leb, eqb}
use lib.ListN.{length, take, drop, get_or, set}
use lib.ListN.{length-set, length-append, take-append-drop}
use lib.Seq.{take-suc, take-suc-set, drop-drop, drop-set-lt}
use Rattle.std.specs.Prelude.{Option, Some, None}
use Rattle.std.specs.Bool.{IsTrue}
use Rattle.std.specs.Option.{SomeIff}
use borrow.Author.Tests.{le-leb, lt-leb, leb-true, eqb-true, ne_eqb}
use Rattle.text.specs.Words.{same_bytes}
use Rattle.text.specs.Digits.{hex_digit_ascii}
use Rattle.text.specs.Payloads.{byte_of, all_pairs, from_hex, is_dash, is_hex, is_payload, over, payload_bytes, to_hex, hex_text}
use Rattle.text.specs.Payloads.{payload_of}
use Rattle.text.specs.Output.{Wrote}
use Rattle.text.proofs.WordLaws.{both}
use Rattle.text.proofs.OutputLaws.{then, stored}

two : (p t : List ℕ) → length p ≡ 2 → p ++ t ≡ get_or p 0 0 ∷ (get_or p 1 0 ∷ t)
two [] t h = absurd (omega arith)
two (a ∷ []) t h = absurd (omega arith)
two (a ∷ (b ∷ [])) t h = refl
two (a ∷ (b ∷ (d ∷ p))) t h = absurd (omega arith)

short_says_none : (s : List ℕ) → length s < 2 → from_hex s ≡ []
short_says_none [] h = refl
short_says_none (a ∷ []) h = refl
short_says_none (a ∷ (b ∷ s)) h = absurd (omega arith)

no_more : (s : List ℕ) → length s ≡ 0 → s ≡ []
no_more [] h = refl
no_more (a ∷ s) h = absurd (omega arith)

neither : (a b : Bool) → b ≡ false → false ≡ (a && b)
neither true b h = sym h
neither false b h = refl

-- an odd number of digits are no pairs
pub odd : (s : List ℕ) → 0 < length s % 2 → false ≡ all_pairs s
odd [] h = absurd (omega arith)
odd (a ∷ []) h = refl
odd (a ∷ (b ∷ s)) h = neither (leb (byte_of a b) 255) (all_pairs s) (sym (odd s (omega arith)))

-- where the loop of `are_pairs` stands in a word: the rest decides, and is of an even number of digits
pub record Pairing (s rest : List ℕ) : Type 0 where
  pub even : length rest % 2 ≡ 0
  pub decides : all_pairs s ≡ all_pairs rest

pub unpaired : (s : List ℕ) → length s % 2 ≡ 0 → Pairing s s
unpaired s h = record { even = h; decides = refl }

-- a turn of that loop, over the pair p, and the ways out of it
module _ {s rest : List ℕ} (c : Pairing s rest) where
  module _ (p t : List ℕ) (e : rest ≡ p ++ t) (n : length p ≡ 2) where
    opened : all_pairs s ≡ (leb (byte_of (get_or p 0 0) (get_or p 1 0)) 255 && all_pairs t)
    opened = c.decides ∙ ap all_pairs (e ∙ two p t n)

    pub no_byte : 255 < byte_of (get_or p 0 0) (get_or p 1 0) → false ≡ all_pairs s
    no_byte v = sym (opened ∙ rw (lt-leb _ _ v))

    pub pair_good : byte_of (get_or p 0 0) (get_or p 1 0) ≤ 255 → Pairing s t
    pair_good v =
        let m = ap length e in
        record { even = omega (arith, c.even, m, length-append p t); decides = opened ∙ rw (le-leb _ _ v) }

  pub pairs_good : length rest < 2 → true ≡ all_pairs s
  pairs_good h = sym (c.decides ∙ ap all_pairs (no_more rest (omega (arith, c.even))))

further : (s : List ℕ) (k n : ℕ) → drop (suc n) (drop k s) ≡ drop n (drop (suc k) s)
further s k n =
    let e : k + suc n ≡ suc k + n = omega arith in
    drop-drop (suc n) k s ∙ ap (λ (m : ℕ). drop m s) e ∙ sym (drop-drop n (suc k) s)

-- where the loop of `decode` stands in a word: it has written k bytes, and the bytes of the rest go behind them
pub record Decoding (s old new rest : List ℕ) (k : ℕ) : Type 0 where
  pub good : all_pairs rest ≡ true
  pub long : length new ≡ length old
  pub count : length (from_hex s) ≡ k + length (from_hex rest)
  pub whole : over (from_hex s) old ≡ take k new ++ over (from_hex rest) (drop k new)

pub nothing_decoded : (s old : List ℕ) → all_pairs s ≡ true → Decoding s old old s 0
nothing_decoded s old g = record { good = g; long = refl; count = omega arith; whole = refl }

-- pairs are twice as many digits as bytes
pub half : (s : List ℕ) → all_pairs s ≡ true → length s ≡ 2 * length (from_hex s)
half [] g = refl
half (a ∷ []) g = absurd (true≢false (sym g))
half (a ∷ (b ∷ s)) g = omega (arith, half s (both (leb (byte_of a b) 255) (all_pairs s) g).1)

-- a turn of that loop, over the pair p, and its end
module _ {s old new rest : List ℕ} {k : ℕ} (c : Decoding s old new rest k) where
  module _ (p t : List ℕ) (e : rest ≡ p ++ t) (n : length p ≡ 2) where
    both_good : (leb (byte_of (get_or p 0 0) (get_or p 1 0)) 255 && all_pairs t) ≡ true
    both_good = sym (ap all_pairs (e ∙ two p t n)) ∙ c.good

    pub small : byte_of (get_or p 0 0) (get_or p 1 0) ≤ 255
    small = leb-true _ _ (both _ (all_pairs t) both_good).0

    pub room : all_pairs s ≡ true → length s ≤ 2 * length old → k < length new
    room g m = omega (arith, c.count, c.long, ap length (ap from_hex (e ∙ two p t n)), half s g)

    pub pair_decoded : (v : ℕ) → k < length new → v ≡ byte_of (get_or p 0 0) (get_or p 1 0) → Decoding s old (set new k v) t (k + 1)
    pair_decoded v fits b =
        let d : from_hex rest ≡ v ∷ from_hex t = ap from_hex (e ∙ two p t n) ∙ rw b in
        let l = from_hex t in
        record {
          good = (both (leb (byte_of (get_or p 0 0) (get_or p 1 0)) 255) _ both_good).1;
          long = simp length-set c.long;
          count = c.count ∙ ap (λ (u : List ℕ). k + length u) d ∙ omega arith;
          whole =
              c.whole ∙ ap (λ (u : List ℕ). take k new ++ over u (drop k new)) d
              ∙ rw (add-one k, take-suc-set new k v fits, drop-set-lt (suc k) new k v (omega arith), further new k (length l))
              (sym (append_assoc (take k new) (v ∷ []) (over l (drop (suc k) new))));
        }

  pub all_decoded : length rest < 2 → (k ≡ length (from_hex s)) × (new ≡ over (from_hex s) old)
  all_decoded h =
      let d : from_hex rest ≡ [] = short_says_none rest h in (
        sym (c.count ∙ ap (λ (u : List ℕ). k + length u) d ∙ omega arith),
        sym (c.whole ∙ ap (λ (u : List ℕ). take k new ++ over u (drop k new)) d ∙ take-append-drop k new),
      )

one_digit_no_pairs : (s : List ℕ) → length s ≡ 1 → all_pairs s ≡ false
one_digit_no_pairs [] h = absurd (omega arith)
one_digit_no_pairs (a ∷ []) h = refl
one_digit_no_pairs (a ∷ (b ∷ s)) h = absurd (omega arith)

never : (a b : Bool) → (a && (b && false)) ≡ false
never true true = refl
never true false = refl
never false b = refl

-- the answer is the word's, and what was lent has the bytes at its front
abbrev Answers : ℕ → List ℕ → List ℕ → List ℕ → Option ℕ → Type 0
Answers most s old new r =
    SomeIff r (IsTrue (payload_of most s).ok) (payload_of most s).len × (new ≡ over (payload_bytes most s) old)

not_true : false ≢ true
not_true e = true≢false (sym e)

and_true : (a : Bool) → (a && true) ≡ a
and_true true = refl
and_true false = refl

and_false : (a : Bool) → (a && false) ≡ false
and_false true = refl
and_false false = refl

-- which words are payloads, by the ways through `hex`
module _ (most : ℕ) (s old : List ℕ) where
  pub none : is_dash s ≡ false → is_hex most s ≡ false → Answers most s old old None
  unfolding payload_of is_payload payload_bytes
  none d h = (rw (d, h) not_true, rw h)

  pub dash_empty : is_dash s ≡ true → Answers most s old old (Some 0)
  unfolding payload_of is_payload payload_bytes
  dash_empty d =
      let p : all_pairs s ≡ false = one_digit_no_pairs s (eqb-true _ _ (both (eqb (length s) 1) (eqb (get_or s 0 0) 45) d).0) in
      let h : is_hex most s ≡ false = rw p (never (ltb 0 (length s)) (leb (length s) (2 * most))) in
      (rw (d, h) (refl, refl), rw h)

  pub pairs_are_hex : {new : List ℕ} {n : ℕ} → is_dash s ≡ false → is_hex most s ≡ true
      → (n ≡ length (from_hex s)) × (new ≡ over (from_hex s) old) → Answers most s old new (Some n)
  unfolding payload_of is_payload payload_bytes
  pairs_are_hex d h e = (rw (d, h) (refl, e.0), e.1 ∙ rw h)

  pub hex_pairs : is_hex most s ≡ true → (all_pairs s ≡ true) × (length s ≤ 2 * most)
  hex_pairs h =
      let b = both (leb (length s) (2 * most)) (all_pairs s) (both (ltb 0 (length s)) _ h).1 in
      (b.1, leb-true _ _ b.0)

-- `-` is the word that `hex` tells apart
pub dash_same : (s : List ℕ) → same_bytes s (45 ∷ []) ≡ is_dash s
dash_same [] = refl
dash_same (a ∷ []) = and_true (eqb a 45)
dash_same (a ∷ (b ∷ s)) = rw (ne_eqb (suc (suc (length s))) 1 (omega arith)) (and_false (eqb a 45))

half_as_long : (s : List ℕ) → length (from_hex s) + length (from_hex s) ≤ length s
half_as_long [] = omega arith
half_as_long (a ∷ []) = omega arith
half_as_long (a ∷ (b ∷ s)) = omega (arith, half_as_long s)

short_by : (most : ℕ) (s : List ℕ) (t : Bool) → is_hex most s ≡ t → length (cond t (from_hex s) []) ≤ most
short_by most s true h =
    let m : length s ≤ 2 * most = leb-true _ _ (both (leb (length s) (2 * most)) (all_pairs s) (both (ltb 0 (length s)) _ h).1).0 in
    omega (arith, half_as_long s)
short_by most s false h = omega arith

-- no payload is longer than what is asked
pub short_found : (most : ℕ) (s : List ℕ) → (payload_of most s).len ≤ most
unfolding payload_of payload_bytes
short_found most s = short_by most s (is_hex most s) refl

to_hex_append : (s t : List ℕ) → to_hex (s ++ t) ≡ to_hex s ++ to_hex t
to_hex_append [] t = refl
to_hex_append (b ∷ s) t = rw (to_hex_append s t)

-- a turn of the loop of `put_hex`
pub pair_written : {old out : List ℕ} {at to : ℕ} (s : List ℕ) (i a b : ℕ) → i < length s → to + 1 < length out
    → a ≡ hex_digit_ascii (get_or s i 0 / 16) → b ≡ hex_digit_ascii (get_or s i 0 % 16)
    → Wrote old at (to_hex (take i s)) out to → Wrote old at (to_hex (take (i + 1) s)) (set (set out to a) (to + 1) b) (to + 2)
pair_written {old} {out} {at} {to} s i a b h room p q w =
    let e : to_hex (take (i + 1) s) ≡ (to_hex (take i s) ++ (a ∷ [])) ++ (b ∷ []) =
    rw (add-one i, take-suc s i 0 h, to_hex_append (take i s) (get_or s i 0 ∷ []), ← p, ← q)
    (sym (append_assoc (to_hex (take i s)) (a ∷ []) (b ∷ []))) in
    let n : to + 1 + 1 ≡ to + 2 = omega arith in
    rw (e, ← n) (then (then w (stored out to a (omega arith))) (stored (set out to a) (to + 1) b (simp length-set (omega arith))))

pub hex_length : (s : List ℕ) → length (to_hex s) ≡ 2 * length s
hex_length [] = refl
hex_length (b ∷ s) = omega (arith, hex_length s)

pub some_text : (s : List ℕ) → 0 < length s → hex_text s ≡ to_hex s
some_text [] h = absurd (not-le_of_lt h (omega arith))
some_text (b ∷ s) h = refl

pub text_length : (s : List ℕ) → 0 < length s → length (hex_text s) ≡ 2 * length s
text_length s h = ap length (some_text s h) ∙ hex_length s
