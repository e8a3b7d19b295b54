-- The claims on the bus before a stream, gathered from a list: that they are in range, and that they ask for what the equation says.
use mathlib.Core.Path.{◌≡◌, refl, ap, ◌∙◌, fun_ext}
use mathlib.Core.Bool.{Bool, true, false, cond}
use mathlib.Core.List.{List, [], ◌∷◌}
use Prim.Native.Nat.{ℕ, suc, ◌+◌, ◌*◌, ◌≤◌, ◌<◌}
use native.Mathlib.Nat.{mul-le-mul, mul-zero, mul_assoc, mul_left_comm, max-le}
use native.Mathlib.Numerals.{add-one}
use native.Mathlib.Omega.{arith}
use lib.ListN.{length, set, take, drop, length-set}
use lib.Seq.{take-suc-set}
use lib.Dec.{eqb}
use Rattle.std.proofs.lemmas.List.Sums.{sum_by_push}
use Rattle.response.specs.declared.streams.StreamRecord.{StreamRecord}
use Rattle.response.specs.declared.streams.Errors.{Errors}
use Rattle.response.specs.declared.claim.Claim.{Claim}
use Rattle.response.specs.Streams.{most, at, legal_record, LegalRecord, LegalErrors, LegalRecords}
use Rattle.response.specs.Waiting.{ceiling, goes_before, blocking, interference, demand, solves, timely}
use Rattle.response.specs.Claims.{InRange}
use Rattle.response.specs.Recurrence.{asked, solves_with, cost_before, ClaimsOf}
use Rattle.response.proofs.Limits.{record_tells}
use Rattle.response.proofs.Claims.{claimed_by, asked-none}
use Rattle.response.proofs.Listed.{interference_from, interference_past}

-- ── the claims are in range ──
cost_most : (b : Bool) (x : ℕ) → x ≤ most → cond b x 0 ≤ most
cost_most true x h = h
cost_most false x h = omega arith

pub stream_claim : (j s : StreamRecord) → LegalRecord j → InRange (cost_before s j) j.t 1
stream_claim j s r = record {
  cost_most = cost_most (goes_before j s) j.c r.c.1;
  period_least = r.t.0;
  period_most = r.t.1;
  lead_least = omega arith;
  lead_most = omega arith;
}

pub errors_most : (errors : Errors) → LegalErrors errors → errors.n * errors.inaccessibility ≤ 160000
errors_most errors e = mul-le-mul e.n e.inaccessibility

-- ── what they ask for ──
-- one more claim behind the first k
asked_more : (claims : List Claim) (k : ℕ) (claim : Claim) (w : ℕ) → k < length claims
    → asked (take (k + 1) (set claims k claim)) w ≡ asked (take k claims) w + claimed_by w claim
unfolding asked
asked_more claims k claim w less = rw (add-one k, take-suc-set claims k claim less) (sum_by_push (claimed_by w) (take k claims) claim)

masked : (b : Bool) (x y : ℕ) → x * cond b y 0 ≡ cond b (x * y) 0
masked true x y = refl
masked false x y = mul-zero x

-- the claims of the first k streams ask for what is not asked for by those that are left
pub record Gathered (streams : List StreamRecord) (s : StreamRecord) (k : ℕ) (claims : List Claim) : Type 0 where
  pub long : length claims ≡ 65
  pub ask : (w : ℕ) → asked (take k claims) w + interference (drop k streams) s w ≡ interference streams s w

module _ {streams : List StreamRecord} {s : StreamRecord} where
  pub none_gathered : {claims : List Claim} → length claims ≡ 65 → Gathered streams s 0 claims
  none_gathered long = record { long = long; ask = λ w. omega (arith, asked-none w) }

  module _ {k : ℕ} {claims : List Claim} (g : Gathered streams s k claims) where
    pub one_gathered : (claim : Claim) → k < length streams → k ≤ 64 → claim.cost ≡ cost_before s (at streams k) → claim.period ≡ (at streams k).t
        → claim.lead ≡ 1 → Gathered streams s (k + 1) (set claims k claim)
    one_gathered claim less small cost period lead = record {
      long = length-set claims k claim ∙ g.long;
      ask = λ w.
          let this : claimed_by w claim ≡ cond (goes_before (at streams k) s) (ceiling (w + 1) (at streams k).t * (at streams k).c) 0 =
          rw (cost, period, lead) (masked (goes_before (at streams k) s) _ _) in
          omega (arith, g.ask w, g.long, asked_more claims k claim w, interference_from streams k less s w, this);
    }

    -- with the claim of the errors behind them
    pub all_gathered : (errors : Errors) (claim : Claim) → length streams ≤ k → k ≤ 64 → claim.cost ≡ errors.n * errors.inaccessibility
        → claim.period ≡ errors.period → claim.lead ≡ s.c → ClaimsOf streams errors s (take (k + 1) (set claims k claim))
    all_gathered errors claim past small cost period lead = record {
      ask = λ w.
          let this : claimed_by w claim ≡ errors.n * ceiling (w + s.c) errors.period * errors.inaccessibility =
          rw (cost, period, lead, mul_assoc, mul_left_comm (ceiling (w + s.c) errors.period)) refl in
          omega (arith, g.ask w, g.long, asked_more claims k claim w, interference_past streams k past s w, this);
    }

-- ── what the recurrence is called with ──
pub blocking_most : (streams : List StreamRecord) (s : StreamRecord) → LegalRecords streams → blocking streams s ≤ most
unfolding blocking
blocking_most streams s legal = of_each streams legal.each
  where
    of_each : (l : List StreamRecord) → ((k : ℕ) → k < length l → LegalRecord (at l k)) → blocking l s ≤ most
    of_each [] each = omega arith
    of_each (j ∷ l) each =
        max-le (cost_most (goes_before s j) j.c (each 0 (omega arith)).c.1) (of_each l (λ k h. each (suc k) (omega arith)))

pub timely_most : (s : StreamRecord) → legal_record s ≡ true → timely s ≤ most
timely_most s legal_s = let r = (record_tells s).says legal_s in omega (arith, r.c.0, r.d.1)

-- the claims make the equation
pub same_equation : {streams : List StreamRecord} {errors : Errors} {s : StreamRecord} {claims : List Claim}
    → ClaimsOf streams errors s claims → solves_with claims (blocking streams s) ≡ solves streams errors s
unfolding solves_with demand
same_equation {streams} {errors} {s} claims = fun_ext (λ w. rw (claims.ask w) (ap (eqb w) (omega arith)))
