-- Numbers of so many bytes, the lowest first.
use mathlib.Core.Path.{◌≡◌, refl, sym, ap, ◌∙◌}
use mathlib.Core.List.{List, [], ◌∷◌, ◌++◌}
use mathlib.Core.Bool.{Bool, true, false, cond, false≢true}
use Prim.Native.Nat.{ℕ, zero, suc, ◌+◌, ◌/◌, ◌^◌, ◌≤◌, ◌<◌}
use native.Mathlib.Nat.{pow-suc}
use native.Mathlib.Omega.{arith}
use lib.ListN.{length, get_or, take, drop}
use Rattle.std.proofs.Common.{get_or-take, get_or-drop}
use lib.Dec.{eqb}
use Rattle.std.specs.Int.{w32, to_le_bytes, from_le_bytes}
use Rattle.wire.specs.Delivered.{little_endian, number_at, AreBytes}
use Rattle.wire.proofs.Variants.{at_each, told_apart}
use borrow.Author.Tests.{eqb-true, ltb-true}
use Rattle.heard.specs.declared.kind.Kind.{Kind}
use Rattle.heard.specs.declared.kind.Kind.TheVariants.{Counter}
use Rattle.heard.specs.Kinds.{counter_kind, count_bytes, is_known, kind_number}
use Rattle.heard.specs.contracts.kind.Kind.{enum}

either_small : (t : Bool) (a b most : ℕ) → a ≤ most → b ≤ most → cond t a b ≤ most
either_small true a b most p q = p
either_small false a b most p q = q

-- the count of every kind
pub four_at_most : (kind : ℕ) → count_bytes kind ≤ 4
unfolding count_bytes
four_at_most kind = either_small (eqb kind counter_kind) 2 0 4 (omega arith) (omega arith)

-- every kind of the code is known
pub kind_known : (kind : Kind) → is_known (kind_number kind) ≡ true
unfolding count_bytes
kind_known = at_each enum (λ k. is_known (kind_number k)) refl

-- the bytes of the count of a kind whose number was read
pub kind_here : (kind : Kind) (number there width : ℕ) → kind_number kind ≡ number → number ≡ there → width ≡ count_bytes (kind_number kind)
    → (width ≡ count_bytes there) × (0 < count_bytes there)
kind_here kind number there width e f w =
    let same = ap count_bytes (e ∙ f) in
    let known = ltb-true _ _ (kind_known kind) in
    (w ∙ same, omega (arith, same, known))

kind_by : (number : ℕ) (t : Bool) → eqb number counter_kind ≡ t → is_known number ≡ true → (kind : Kind) × (kind_number kind ≡ number)
unfolding count_bytes
kind_by number true e known = (Counter, sym (eqb-true _ _ e))
kind_by number false e known = absurd (false≢true (rw e at known))

-- and every known number is that of a kind
pub kind_there : (number : ℕ) → is_known number ≡ true → (kind : Kind) × (kind_number kind ≡ number)
kind_there number = kind_by number (eqb number counter_kind) refl

pub kinds_distinct : (a b : Kind) → kind_number a ≡ kind_number b → a ≡ b
kinds_distinct = told_apart enum kind_number refl

-- ── reading ──
same_number : (k : ℕ) (xs ys : List ℕ) (i j : ℕ)
    → ((m p q : ℕ) → m < k → p ≡ i + m → q ≡ j + m → get_or xs p 0 ≡ get_or ys q 0) → number_at k xs i ≡ number_at k ys j
same_number zero xs ys i j same = refl
same_number (suc k) xs ys i j same =
    let first = same 0 i j (omega arith) (omega arith) (omega arith) in
    let others = same_number k xs ys (suc i) (suc j) (λ m p q less e f. same (suc m) p q (omega arith) (omega arith) (omega arith)) in
    omega (arith, first, others)

pub number_in_part : (k : ℕ) (bytes : List ℕ) (at : ℕ) → number_at k (take k (drop at bytes)) 0 ≡ number_at k bytes at
number_in_part k bytes at =
    same_number k (take k (drop at bytes)) bytes 0 at λ m p q less e f.
    let here : at + p ≡ q = omega arith in
    get_or-take k (drop at bytes) p 0 (omega arith) ∙ get_or-drop at bytes p 0 ∙ rw here

-- so many bytes, before zeros
four_bytes : (part : List ℕ) → length part ≤ 4 → from_le_bytes w32 (part ++ drop (length part) (0 ∷ 0 ∷ 0 ∷ 0 ∷ [])) ≡ number_at (length part) part 0
four_bytes [] few = omega arith
four_bytes (a ∷ []) few = omega arith
four_bytes (a ∷ b ∷ []) few = omega arith
four_bytes (a ∷ b ∷ c ∷ []) few = omega arith
four_bytes (a ∷ b ∷ c ∷ d ∷ []) few = omega arith
four_bytes (a ∷ b ∷ c ∷ d ∷ e ∷ part) few = absurd (omega arith)

pub number_in_four : (part : List ℕ) (k : ℕ) → length part ≡ k → k ≤ 4 → from_le_bytes w32 (part ++ drop k (0 ∷ 0 ∷ 0 ∷ 0 ∷ [])) ≡ number_at k part 0
number_in_four part k e few = rw (← e) (four_bytes part (omega arith))

pub number_small : (k : ℕ) (bytes : List ℕ) (at : ℕ) → AreBytes bytes → number_at k bytes at < 256 ^ k
number_small zero bytes at low = omega arith
number_small (suc k) bytes at low = omega (arith, pow-suc 256 k, low at, number_small k bytes (suc at) low)

-- ── writing ──
third : (n : ℕ) → n / 65536 ≡ n / 256 / 256
third n = omega arith

fourth : (n : ℕ) → n / 16777216 ≡ n / 256 / 256 / 256
fourth n = omega arith

pub low_bytes : (width n : ℕ) → width ≤ 4 → take width (to_le_bytes w32 n) ≡ little_endian width n
low_bytes zero n few = refl
low_bytes (suc zero) n few = refl
low_bytes (suc (suc zero)) n few = refl
low_bytes (suc (suc (suc zero))) n few = rw (third n) refl
low_bytes (suc (suc (suc (suc zero)))) n few = rw (third n, fourth n) refl
low_bytes (suc (suc (suc (suc (suc width))))) n few = absurd (omega arith)
