-- A node that hears no frame: no receive slot of it ever holds a message, so none is ever due. Only hearing makes a receiver hold one.
use Prim.Native.Nat.{ℕ}
use mathlib.Core.Path.{◌≡◌, refl}
use mathlib.Core.Bool.{Bool, true, false, cond, and-eq-true_iff}
use mathlib.Core.List.{List, [], ◌∷◌}
use Rattle.wire.specs.declared.ids.Stream.{Stream}
use Rattle.wire.specs.declared.settings.Settings.{Settings}
use Rattle.node.specs.declared.slots.Slot.{Slot}
use Rattle.node.specs.declared.Node.{Node}
use Rattle.node.specs.Slots.{slot_for, empty, first, is_of, is_receiver, is_sender}
use Rattle.node.specs.Nodes.{fresh, slot_count, slot_of, Outcome}
use Rattle.node.specs.Reachable.{All}
use Rattle.node.specs.Clock.{Clock, unbounded}
use Rattle.node.specs.SetUp.{set_up}
use Rattle.node.specs.Request.{request, requested}
use Rattle.node.specs.NextFrame.{next_frame, give, given_out, has_frame, lowest_code, lowest_given}
use Rattle.node.specs.Tick.{late, due, hold_over, dropped, delivered, hold_ended, lapsed, tick, age_of, tick_slot, due_slots}
use Rattle.node.specs.Calls.{after_from}
use Rattle.node.proofs.Choices.{contrary, refuted}
use Rattle.node.proofs.Cases.{by_case}
use Rattle.node.proofs.set_up.Cases.{set_up_cases}
use Rattle.node.proofs.tick.Cases.{tick_cases}
use Rattle.node.proofs.request.Cases.{request_cases}
use Rattle.node.proofs.next_frame.Cases.{next_cases}
use Rattle.node.proofs.slots.Table.{all_map, all_replicate, all_on_first}
use Rattle.node.proofs.slots.InOrder.{all_in_place}
use Rattle.node.proofs.tick.Tests.{due_tells}
use Rattle.node.proofs.kept.EachSlot.{not_sender}
use Rattle.bench.specs.SetUp.{Part, set_ups}

-- ── one slot ──
-- as a receive slot it holds no message
abbrev pub Unheld : Slot → Type 0
Unheld x = is_receiver x ≡ true → x.message.held ≡ false

not_due : (age : ℕ) (x : Slot) → Unheld x → due age x ≡ false
not_due age x u =
    refuted (due age x)
    (λ e. let d = (due_tells age x).says e in contrary d.held (u ((and-eq-true_iff x.used _).1 (d.used, d.receiver))))

unheld_lapsed : (age : ℕ) (x : Slot) → Unheld x → Unheld (lapsed age x)
unfolding lapsed
unheld_lapsed age x u = by_tests (late age x) (due age x) (hold_over age x)
  where
    by_tests : (l d o : Bool) → Unheld (cond l (dropped x) (cond d (delivered x) (cond o (hold_ended x) x)))
    by_tests true d o = λ r. refl
    by_tests false true o = λ r. refl
    by_tests false false true = λ r. refl
    by_tests false false false = u

-- a request changes a slot that is no receiver's
unheld_requested : (now : ℕ) (payload : List ℕ) (x : Slot) → is_sender x ≡ true → Unheld (requested now payload x)
unfolding requested
unheld_requested now payload x own r =
    contrary ((and-eq-true_iff x.used _).0 own).1 (not_sender x.settings ((and-eq-true_iff x.used _).0 r).1)

unheld_given_out : (code : ℕ) (x : Slot) → Unheld x → Unheld (given_out code x)
unfolding given_out
unheld_given_out code x u = u

-- ── the node ──
-- no receive slot holds a message
abbrev pub NoneHeld : Node → Type 0
NoneHeld n = All Unheld n.slots

pub none_fresh : NoneHeld fresh
none_fresh = all_replicate Unheld slot_count empty (λ r. refl)

-- so nothing is due
pub none_due : (clock : Clock) (now : ℕ) (xs : List Slot) → All Unheld xs → due_slots clock now xs ≡ []
unfolding due_slots
none_due clock now [] us = refl
none_due clock now (x ∷ xs) us = rw (not_due (age_of clock now x) x us.0) (none_due clock now xs us.1)

-- every call but hear keeps it so
module _ (n : Node) (k : NoneHeld n) where
  pub none_set_up : (s : Stream) (settings : Settings) → NoneHeld (set_up s settings n).node
  none_set_up s settings =
      by_case (λ (o : Outcome). NoneHeld o.node) (λ r why. k)
      (λ h. all_in_place Unheld (slot_for s settings) (λ r. refl) n.slots k) (set_up_cases s settings n).case

  pub none_request : (s : Stream) (payload : List ℕ) → NoneHeld (request s payload n).node
  none_request s payload =
      by_case (λ (o : Outcome). NoneHeld o.node) (λ r why. k)
      (λ h. all_on_first Unheld (is_of s) (requested n.counter payload) n.slots k
      (λ here u. unheld_requested n.counter payload (slot_of s n) h.own))
      (request_cases payload s n).case

  pub none_next_frame : (output : List ℕ) → NoneHeld (next_frame output n).node
  unfolding give
  none_next_frame output =
      by_case (λ (o : Outcome). NoneHeld o.node) (λ r why. k)
      (λ h. let x = first has_frame n.slots in
      all_on_first Unheld has_frame lowest_given n.slots k (λ here u. unheld_given_out (lowest_code x) x u))
      (next_cases output n).case

  pub none_tick : (clock : Clock) (output : List ℕ) → NoneHeld (tick clock output n).node
  none_tick clock output =
      let now = clock.next n.counter in
      by_case (λ (o : Outcome). NoneHeld o.node) (λ r why. k)
      (λ h. all_map Unheld Unheld (tick_slot clock now) (λ x. unheld_lapsed (age_of clock now x) x) n.slots k) (tick_cases output clock n).case

pub none_set_ups : (part : Part) (n : Node) → NoneHeld n → NoneHeld (after_from unbounded n (set_ups part))
none_set_ups [] n k = k
none_set_ups (e ∷ es) n k = none_set_ups es (set_up e.stream e.settings n).node (none_set_up n k e.stream e.settings)
