-- The code's playback holds a node whose ticks are counted without bound; jumping, ticking and hearing keep that.
use Rattle.std.proofs.Common.{◌≡◌, ℕ, ◌+◌, ◌-◌, ◌%◌, ◌≤◌, min, Bool, true, false, cond, List, [], ◌∷◌, map, length, sym, refl, ap, ◌∙◌, arith, le-ltb}
use native.Mathlib.Nat.{mod-add-mod}
use Rattle.wire.specs.declared.ids.BusId.{BusId}
use Rattle.node.specs.declared.slots.Slot.{Slot}
use Rattle.node.specs.declared.Node.{Node}
use Rattle.node.specs.Hear.{hear_room, hear}
use Rattle.node.specs.Tick.{age_of, tick_room, tick}
use Rattle.node.specs.Clock.{period, unbounded, rolled}
use Rattle.node.specs.Calls.{Call, outcome, roll_slot, roll, roll_outcome}
use Rattle.node.specs.Reachable.{longest, KeptSlot, All, Kept}
use Rattle.node.proofs.rollover.SameAnswers.{age_rolls, kept_counted, rolls}
use Rattle.node.proofs.tick.Cases.{tick_cases}
use Rattle.playback.specs.declared.Playback.{Playback}
use Rattle.playback.specs.Deliveries.{room}
use Rattle.playback.specs.Quiet.{with_slot, quiet_in, quiet, standing}
use Rattle.playback.specs.Steps.{in64, jumped}
use Rattle.playback.proofs.Held.{kept_standing}

pub record Holds (u : Node) (at : ℕ) (p : Playback) : Type 0 where
  pub kept : Kept u
  pub node : p.node ≡ roll u
  pub ticks : p.ticks ≡ in64 u.counter
  pub taken : p.taken ≡ in64 at

-- ── the counter that rolls over tells how long a node is quiet ──
slot_rolls : (now others : ℕ) (x : Slot) → KeptSlot now x → with_slot rolled (now % period) (roll_slot x) others ≡ with_slot unbounded now x others
unfolding with_slot
slot_rolls now others x k = go x.message.held refl
  where
    by : (held : Bool) → (age : ℕ) → ℕ
    by held age = cond held (min (longest x.settings x.message - age) others) others

    go : (held : Bool) → x.message.held ≡ held → by held (age_of rolled (now % period) (roll_slot x)) ≡ by held (now - x.message.stamp)
    go false e = refl
    go true e =
        let stamped = k.message.stamped e in
        let counted = kept_counted now x k e in
        ap (by true) (sym (age_rolls now x.message.stamp stamped (omega arith)))

slots_roll : (now most : ℕ) (xs : List Slot) → All (KeptSlot now) xs → quiet_in rolled (now % period) most (map roll_slot xs) ≡ quiet_in unbounded now most xs
unfolding quiet_in
slots_roll now most [] ks = refl
slots_roll now most (x ∷ xs) (k, ks) = rw (slots_roll now most xs ks) (slot_rolls now (quiet_in unbounded now most xs) x k)

pub quiet_rolls : (most : ℕ) (u : Node) → Kept u → quiet rolled most (roll u) ≡ quiet unbounded most u
quiet_rolls most u kept = slots_roll u.counter most u.slots kept.each

-- ── the outputs that are lent are long enough, and no call looks at more of them ──
pub tick_room_law : (output : List ℕ) (n : Node) → tick_room ≤ length output → tick unbounded output n ≡ tick unbounded room n
tick_room_law output n long =
    (tick_cases output unbounded n).accepted_if (record { room = long })
    ∙ sym ((tick_cases room unbounded n).accepted_if (record { room = omega arith }))

pub hear_room_law : (id : BusId) (dlc : ℕ) (payload output : List ℕ) (n : Node) → tick_room ≤ length output
    → hear id dlc payload output n ≡ hear id dlc payload room n
unfolding hear
hear_room_law id dlc payload output n long = let enough : hear_room ≤ length output = omega arith in rw (le-ltb (length output) hear_room enough)

-- ── what the playback holds ──
module _ (u : Node) (at : ℕ) (p : Playback) (holds : Holds u at p) where
  pub jump_holds : (most k : ℕ) → k ≤ quiet unbounded most u → Holds (standing (u.counter + k) u) at (jumped k p)
  jump_holds most k h =
      record {
        kept = kept_standing most k u holds.kept h;
        node = rw (holds.node, mod-add-mod u.counter period k);
        ticks = rw holds.ticks (mod-add-mod u.counter 18446744073709551616 k);
        taken = holds.taken;
      }

  -- the node's own calls, with either count
  pub call_holds : (c : Call) → outcome rolled c p.node ≡ roll_outcome (outcome unbounded c u)
  call_holds c = ap (outcome rolled c) holds.node ∙ rolls c u holds.kept
