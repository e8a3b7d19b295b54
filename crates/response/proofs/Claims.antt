-- Claims on the bus: their bounds, and that they never fall as the waiting time grows.
use mathlib.Core.Path.{◌≡◌, refl, ap}
use mathlib.Core.List.{List, [], ◌∷◌}
use Prim.Native.Nat.{ℕ, suc, ◌+◌, ◌-◌, ◌*◌, ◌/◌, ◌≤◌, ◌<◌}
use native.Mathlib.Nat.{zero-mul, add-zero, div-le_self, div-mul-le_self, le-div_iff_mul-le, lt-div-mul-add, div-le_of_le-mul}
use native.Mathlib.Nat.{le_trans, mul-le-mul, mul-le-mul_left, mul-le-mul_right, mul_left_comm, add-mul}
use native.Mathlib.Numerals.{add-one}
use native.Mathlib.Omega.{arith}
use lib.ListN.{length, get_or, drop, drop_of_length-le}
use lib.Seq.{drop-cons}
use Rattle.std.proofs.lemmas.List.Sums.{sum_by-cons}
use Rattle.response.specs.Streams.{most}
use Rattle.response.specs.Waiting.{ceiling}
use Rattle.response.specs.declared.claim.Claim.{Claim}
use Rattle.response.specs.Claims.{claimed, InRange, whole, ClaimedFrom}
use Rattle.response.specs.Recurrence.{asked, NoneBelow}

-- what a claim in range asks at most, within the waiting times in range
abbrev pub most_claimed : ℕ
most_claimed = 3000000000000

pub ceiling_most : (a b : ℕ) → ceiling a b ≤ a + (b - 1)
ceiling_most a b = div-le_self (a + (b - 1)) b

-- how often a claim is made, times any number in range
pub times_most : {cost period lead : ℕ} → InRange cost period lead → (w x : ℕ) → w ≤ most → x ≤ most → ceiling (w + lead) period * x ≤ most_claimed
times_most {cost} {period} {lead} q w x small high = le_trans (mul-le-mul (ceiling_most (w + lead) period) high) (omega arith)

pub claimed_most : {cost period lead : ℕ} → InRange cost period lead → (w : ℕ) → w ≤ most → claimed cost period lead w ≤ most_claimed
claimed_most {cost} q w small = times_most q w cost small q.cost_most

pub ceiling_mono : {a b : ℕ} (t : ℕ) → 1 ≤ t → a ≤ b → ceiling a t ≤ ceiling b t
ceiling_mono {a} {b} t pos h = (le-div_iff_mul-le pos).1 (omega (arith, div-mul-le_self (a + (t - 1)) t))

-- a period more than there are never fits in between
pub ceiling_covers : (a t : ℕ) → 1 ≤ t → a ≤ ceiling a t * t
ceiling_covers a t pos = omega (arith, lt-div-mul-add {a = a + (t - 1)} pos)

pub claimed_mono : {cost period lead : ℕ} → InRange cost period lead → (w v : ℕ) → w ≤ v → claimed cost period lead w ≤ claimed cost period lead v
claimed_mono {cost} {period} {lead} q w v h = mul-le-mul_right cost (ceiling_mono period q.period_least (omega arith))

-- ── from a waiting time on ──
-- as often as it was claimed already
pub claimed_already : {cost period lead : ℕ} → InRange cost period lead → (w : ℕ) → w ≤ most → ClaimedFrom cost period lead w (claimed cost period lead w) 0
claimed_already q w small = record {
  bounds = λ v h. rw (zero-mul, add-zero) (mul-le-mul_left whole (claimed_mono q w v h));
  fixed_most = claimed_most q w small;
  share_most = omega arith;
}

share_bound : {cost period lead : ℕ} → InRange cost period lead → (v : ℕ) → whole * cost / period * (v + 1) ≤ whole * claimed cost period lead v
share_bound {cost} {period} {lead} q v =
    let share = whole * cost / period in
    let times = ceiling (v + lead) period in
    let long : v + 1 ≤ times * period = omega (arith, ceiling_covers (v + lead) period q.period_least, q.lead_least) in
    le_trans (mul-le-mul_left share long)
    (rw (mul_left_comm share times period, mul_left_comm whole times cost) (mul-le-mul_left times (div-mul-le_self (whole * cost) period)))

-- a share of the bus: cost in each period
pub claimed_share : {cost period lead : ℕ} → InRange cost period lead → (w : ℕ) → ClaimedFrom cost period lead w 0 (whole * cost / period)
claimed_share {cost} {period} {lead} q w = record {
  bounds = λ v h. omega (arith, share_bound q v);
  fixed_most = omega arith;
  share_most = le_trans (div-le_self (whole * cost) period) (mul-le-mul_left whole q.cost_most);
}

-- ── the claims on the bus ──
abbrev pub claimed_by : (w : ℕ) → Claim → ℕ
claimed_by w claim = claimed claim.cost claim.period claim.lead w

pub asked-none : (w : ℕ) → asked [] w ≡ 0
unfolding asked
asked-none w = refl

pub asked-cons : (claim : Claim) (claims : List Claim) (w : ℕ) → asked (claim ∷ claims) w ≡ claimed_by w claim + asked claims w
unfolding asked
asked-cons claim claims w = sum_by-cons (claimed_by w) claim claims

-- each asks for no more than `most_claimed`
pub asked_most : (claims : List Claim) (w : ℕ) → w ≤ most → asked claims w ≤ length claims * most_claimed
asked_most [] w small = rw asked-none (omega arith)
asked_most (claim ∷ claims) w small = rw asked-cons (omega (arith, asked_most claims w small, claimed_most claim.in_range w small))

pub asked_mono : (claims : List Claim) (w v : ℕ) → w ≤ v → asked claims w ≤ asked claims v
asked_mono [] w v h = rw (asked-none w, asked-none v) (omega arith)
asked_mono (claim ∷ claims) w v h =
    rw (asked-cons claim claims w, asked-cons claim claims v) (omega (arith, asked_mono claims w v h, claimed_mono claim.in_range w v h))

-- ── what the first i claims ask for from a waiting time on, with what they are added to ──
pub record AskedFrom (claims : List Claim) (blocking w i fixed share : ℕ) : Type 0 where
  pub bounds : (v : ℕ) → w ≤ v → whole * fixed + share * (v + 1) + whole * asked (drop i claims) v ≤ whole * (blocking + asked claims v)
  pub fixed_most : fixed ≤ blocking + i * most_claimed
  pub share_most : share ≤ i * (whole * most)

module _ {claims : List Claim} {blocking w : ℕ} where
  pub asked_from_none : AskedFrom claims blocking w 0 blocking 0
  asked_from_none = record { bounds = λ v h. rw zero-mul (omega arith); fixed_most = omega arith; share_most = omega arith }

  pub asked_from_more : {i fixed share f s : ℕ} {claim : Claim} → AskedFrom claims blocking w i fixed share → i < length claims
      → claim ≡ get_or claims i claim → ClaimedFrom claim.cost claim.period claim.lead w f s
      → AskedFrom claims blocking w (i + 1) (fixed + f) (share + s)
  asked_from_more {i} {fixed} {share} {f} {s} {claim} before less is this = record {
    bounds = λ v h.
        let first : asked (drop i claims) v ≡ claimed_by v claim + asked (drop (i + 1) claims) v =
        rw (drop-cons claims i claim less, ← is, asked-cons claim (drop (suc i) claims) v, add-one) refl in
        rw (add-mul share s (v + 1)) (omega (arith, before.bounds v h, this.bounds v h, first));
    fixed_most = omega (arith, before.fixed_most, this.fixed_most);
    share_most = omega (arith, before.share_most, this.share_most);
  }

  module _ {i fixed share : ℕ} (from : AskedFrom claims blocking w i fixed share) (all : length claims ≤ i) where
    at_solution : (v : ℕ) → w ≤ v → v ≡ blocking + asked claims v → whole * fixed + share * (v + 1) ≤ whole * v
    at_solution v h e =
        let none : asked (drop i claims) v ≡ 0 = rw (drop_of_length-le claims {i = i} all) (asked-none v) in
        omega (arith, from.bounds v h, none)

    pub none_below_fixed : NoneBelow claims blocking w fixed
    none_below_fixed v h e = omega (arith, at_solution v h e)

    -- more than the whole bus is asked for
    pub none_at_all : (r : ℕ) → whole ≤ share → NoneBelow claims blocking w r
    none_at_all r full v h e = absurd (omega (arith, at_solution v h e, mul-le-mul_right (v + 1) full))

    pub none_below_share : share < whole → NoneBelow claims blocking w ((whole * fixed + share) / (whole - share))
    none_below_share some v h e =
        let back : whole - share + share ≡ whole = omega arith in
        div-le_of_le-mul (whole - share) (omega (arith, at_solution v h e, ap (λ (x : ℕ). x * v) back))
