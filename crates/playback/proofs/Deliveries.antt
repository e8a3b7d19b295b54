-- What a history of calls delivers: call by call, and nothing in a quiet stretch.
use Rattle.std.proofs.Common.{◌≡◌, ℕ, zero, suc, ◌+◌, ◌-◌, ◌*◌, ◌/◌, ◌%◌, ◌<◌, ◌≤◌, Bool, true, false, ltb, List, [], ◌∷◌, ◌++◌, replicate, sym, refl, ap, ◌∙◌}
use Rattle.std.proofs.Common.{append_assoc, arith, ltb-false, ltb-true}
use native.Mathlib.Nat.{div-add-mod}
use lib.ListN.{replicate-append-replicate}
use Rattle.heard.specs.Records.{Heard}
use Rattle.heard.specs.Recordings.{Record}
use Rattle.node.specs.declared.Node.{Node}
use Rattle.node.specs.Clock.{period, unbounded}
use Rattle.node.specs.Calls.{Call, outcome, after_from, Answer, answers_from}
use Rattle.playback.specs.Deliveries.{Delivery, delivered_by, deliveries_from, room}
use Rattle.playback.specs.Gaps.{gap_from}
use Rattle.playback.specs.Replays.{calls_from}
use Rattle.playback.specs.Quiet.{quiet, standing, ticks, silent}
use Rattle.playback.specs.Steps.{in64}
use Rattle.playback.proofs.Stretches.{jump_is_ticking}

deliveries_behind : (n : Node) (xs ys : List Call) → deliveries_from n (xs ++ ys) ≡ deliveries_from n xs ++ deliveries_from (after_from unbounded n xs) ys
deliveries_behind n [] ys = refl
deliveries_behind n (c ∷ xs) ys =
    let o = outcome unbounded c n in
    ap (λ (l : List Delivery). delivered_by o ++ l) (deliveries_behind o.node xs ys)
    ∙ sym (append_assoc (delivered_by o) (deliveries_from o.node xs) (deliveries_from (after_from unbounded o.node xs) ys))

abbrev first_bytes : List Answer → List ℕ
first_bytes [] = []
first_bytes (a ∷ later) = a.bytes

abbrev others : List Answer → List Answer
others [] = []
others (a ∷ later) = later

silence_delivers_nothing : (k : ℕ) (n : Node) → answers_from unbounded n (ticks k) ≡ replicate k silent → deliveries_from n (ticks k) ≡ []
silence_delivers_nothing zero n e = refl
silence_delivers_nothing (suc k) n e =
    let o = outcome unbounded (Call.tick room) n in
    let none : o.bytes ≡ [] = ap first_bytes e in
    rw none (silence_delivers_nothing k o.node (ap others e))

-- a quiet stretch is jumped over
pub jump_delivers_nothing : (most k : ℕ) (n : Node) (cs : List Call) → k ≤ quiet unbounded most n
    → deliveries_from n (ticks k ++ cs) ≡ deliveries_from (standing (n.counter + k) n) cs
jump_delivers_nothing most k n cs h =
    let (node, answers) = jump_is_ticking most k n h in
    deliveries_behind n (ticks k) cs ∙ rw (silence_delivers_nothing k n answers, node)

-- ── the ticks before a record ──
-- some of them are over, and the others are left
remainder_is : (x q r : ℕ) → x ≡ period * q + r → r < period → x % period ≡ r
remainder_is x q r e low = omega arith

module _ (count r j g whole : ℕ) (e : period * whole + g ≡ count + (period - r)) (few : j ≤ g) where
  less_left : r + j < period → count + (period - (r + j)) ≡ period * whole + (g - j)
  less_left low = omega arith

  rolled_over : (s : ℕ) → s + period ≡ r + j → s < period → r < period → count + (period - s) ≡ period * (whole + 1) + (g - j)
  rolled_over s over low small = omega arith

pub gap_left : (now j : ℕ) (h : Heard) → j ≤ gap_from now h → gap_from (now + j) h ≡ gap_from now h - j
unfolding gap_from
gap_left now j h few = go (ltb (now % period + j) period) refl
  where
    whole : ℕ
    whole = (h.count + (period - now % period)) / period

    left : ℕ
    left = (h.count + (period - now % period)) % period

    parts : period * whole + left ≡ h.count + (period - now % period)
    parts = div-add-mod (h.count + (period - now % period)) period

    go : (t : Bool) → ltb (now % period + j) period ≡ t → (h.count + (period - (now + j) % period)) % period ≡ left - j
    go true t =
        let same : (now + j) % period ≡ now % period + j = omega (arith, ltb-true (now % period + j) period t) in
        remainder_is (h.count + (period - (now + j) % period)) whole (left - j)
        (rw same (less_left h.count (now % period) j left whole parts few (ltb-true (now % period + j) period t))) (omega arith)
    go false t =
        let same : (now + j) % period + period ≡ now % period + j = omega (arith, ltb-false (now % period + j) period t) in
        remainder_is (h.count + (period - (now + j) % period)) (whole + 1) (left - j)
        (rolled_over h.count (now % period) j left whole parts few ((now + j) % period) same (omega arith) (omega arith)) (omega arith)

-- 64 bits are enough to tell
pub gap_in_64 : (now : ℕ) (h : Heard) → gap_from (in64 now) h ≡ gap_from now h
unfolding gap_from
gap_in_64 now h = omega arith

pub calls_in_parts : (now j : ℕ) (r : Record) (rest : List Record) → j ≤ gap_from now r.0
    → calls_from now (r ∷ rest) ≡ ticks j ++ calls_from (now + j) (r ∷ rest)
calls_in_parts now j (h, payload) rest few =
    let gap = gap_from now h in
    let split : gap ≡ j + (gap - j) = omega arith in
    let end : now + gap ≡ now + j + (gap - j) = omega arith in
    let here = Call.hear h.id h.dlc payload room in
    rw (gap_left now j h few)
    (rw (← end)
    (ap (λ (l : List Call). l ++ (here ∷ calls_from (now + gap) rest))
    (ap (λ (k : ℕ). ticks k) split ∙ sym (replicate-append-replicate j (gap - j) (Call.tick room)))
    ∙ append_assoc (ticks j) (ticks (gap - j)) (here ∷ calls_from (now + gap) rest)))
