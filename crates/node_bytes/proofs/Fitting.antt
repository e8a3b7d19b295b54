-- Which nodes fit the widths of their fields: that of any bytes, and those that calls make.
use mathlib.Core.Path.{◌≡◌, refl, ◌∙◌}
use mathlib.Core.Bool.{Bool, true, false}
use mathlib.Core.Logic.{◌⊎◌, inl, inr}
use mathlib.Core.List.{List}
use Prim.Native.Nat.{ℕ, zero, suc, ◌≤◌}
use native.Mathlib.Omega.{arith}
use lib.ListN.{length-map}
use Rattle.wire.specs.declared.settings.Settings.{Settings}
use Rattle.wire.specs.Settings.{max_deliver_delay, PlainNumbers, ImdNumbers, TwoMessageNumbers}
use Rattle.wire.specs.Delivered.{AreBytes, number_at}
use Rattle.wire.proofs.LegalSettings.{legal_tells}
use Rattle.node.specs.declared.slots.Slot.{Slot}
use Rattle.node.specs.declared.Node.{Node}
use Rattle.node.specs.Nodes.{slot_count}
use Rattle.node.specs.Clock.{unbounded, rolled}
use Rattle.node.specs.Calls.{after, roll_slot, roll}
use Rattle.node.specs.Reachable.{KeptSlot, All, Kept}
use Rattle.node.proofs.slots.Table.{all_map}
use Rattle.node.proofs.kept.EveryCall.{kept}
use Rattle.node.proofs.rollover.SameAnswers.{rolled_node}
use Rattle.node_bytes.specs.Layout.{slot_start, counter_at}
use Rattle.node_bytes.specs.Decoding.{slot_from, slots_at, decode}
use Rattle.node_bytes.specs.Widths.{Fits16, Fits32, SettingsFit, SlotFits, NodeFits}
use Rattle.node_bytes.specs.Laws.{DecodedFits, CallsFit, RoundTripOfCalls}
use Rattle.node_bytes.proofs.ByIndex.{decoded_length}
use Rattle.node_bytes.proofs.NodeRoundTrip.{round_trip}

-- ── of any bytes ──
module _ (bytes : List ℕ) (low : AreBytes bytes) where
  two_fit : (at : ℕ) → Fits16 (number_at 2 bytes at)
  two_fit at = omega (arith, low at, low (suc at))

  four_fit : (at : ℕ) → Fits32 (number_at 4 bytes at)
  four_fit at = omega (arith, low at, low (suc at), low (suc (suc at)), low (suc (suc (suc at))))

  pub slot_fits : (at : ℕ) → SlotFits (slot_from bytes at)
  unfolding slot_from
  slot_fits at =
      record {
        stream = four_fit _;
        settings = record { role = low _; class = low _; rd = two_fit _; dc = two_fit _; ra = two_fit _; dd = two_fit _ };
        message = record { stamp = two_fit _; len = low _; eight_bytes = refl };
      }

  slots_fit : (k i : ℕ) → All SlotFits (slots_at k bytes i)
  unfolding slots_at
  slots_fit zero i = tt
  slots_fit (suc k) i = (slot_fits (slot_start i), slots_fit k (suc i))

  each_fits : All SlotFits (decode bytes).slots
  unfolding decode
  each_fits = slots_fit slot_count 0

  counter_fits : Fits16 (decode bytes).counter
  unfolding decode
  counter_fits = two_fit counter_at

pub decoded_fits : DecodedFits
decoded_fits bytes low = record { slots_32 = decoded_length bytes; each = each_fits bytes low; counter = counter_fits bytes low }

-- ── of nodes that calls make ──
role_small : (role : ℕ) → (role ≡ 0) ⊎ (role ≡ 1) → role ≤ 1
role_small role (inl e) = omega arith
role_small role (inr e) = omega arith

numbers_small : (s : Settings) → (PlainNumbers s ⊎ ImdNumbers s) ⊎ TwoMessageNumbers s
    → (s.class ≤ 2) × (s.rd ≤ max_deliver_delay) × (s.dc ≤ max_deliver_delay) × (s.ra ≤ max_deliver_delay) × (s.dd ≤ max_deliver_delay)
numbers_small s (inl (inl h)) = omega arith
numbers_small s (inl (inr h)) = omega arith
numbers_small s (inr h) = omega arith

module _ (now : ℕ) (x : Slot) (k : KeptSlot now x) where
  -- a slot in use has lawful settings, and a free one has none
  settings_fit : (used : Bool) → x.used ≡ used → Fits32 x.stream.0 × SettingsFit x.settings
  settings_fit true e =
      let l = (legal_tells x.stream x.settings).says (k.lawful e) in
      let role = role_small x.settings.role l.role in
      let numbers = numbers_small x.settings l.numbers in (
        omega (arith, l.stream),
        record { role = omega arith; class = omega arith; rd = omega arith; dc = omega arith; ra = omega arith; dd = omega arith },
      )
  settings_fit false e =
      rw (k.free e)
      (omega arith, record { role = omega arith; class = omega arith; rd = omega arith; dc = omega arith; ra = omega arith; dd = omega arith })

  kept_fits : SlotFits (roll_slot x)
  kept_fits =
      let own = settings_fit x.used refl in
      record {
        stream = own.0;
        settings = own.1;
        message = record { stamp = omega arith; len = omega (arith, k.message.short); eight_bytes = k.message.eight_bytes };
      }

pub rolled_fits : (u : Node) → Kept u → NodeFits (roll u)
rolled_fits u k =
    record {
      slots_32 = length-map u.slots roll_slot ∙ k.slots_32;
      each = all_map (KeptSlot u.counter) SlotFits roll_slot (kept_fits u.counter) u.slots k.each;
      counter = omega arith;
    }

pub calls_fit : CallsFit
calls_fit h = rw (rolled_node h) (rolled_fits (after unbounded h) (kept h))

pub round_trip_of_calls : RoundTripOfCalls
round_trip_of_calls h = round_trip (after rolled h) (calls_fit h)
