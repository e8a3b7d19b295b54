-- `Node::set_up` meets its contract: each return cites the way through the definition.
use Rattle.std.proofs.Common.{◌≡◌, List, sym, refl, ap, ◌∙◌, arith, ltb-true, ltb-false}
use Rattle.node.specs.declared.slots.Slot.{Slot}
use Rattle.node.specs.Slots.{is_free, is_of}
use Rattle.node.specs.Nodes.{with_slots, as_answered}
use Rattle.node.specs.Calls.{Call}
use Rattle.node.proofs.Answering.{was_missed, was_found, hands_on}
use Rattle.node.proofs.slots.Finding.{no_slot, is_there, place_found, place_missed}
use Rattle.node.proofs.rollover.Promises.{promised}
use Rattle.node.proofs.set_up.Placing.{none_moved, moved_in}
use Rattle.node.proofs.set_up.Ways.{bad_settings, stream_taken, table_full, place_before, stream_set}
use Rattle.node.proofs.Node.set_up.Goals as goal

pub returns-then-not-legal : goal.returns-then-not-legal
returns-then-not-legal c =
    let a = c.args in
    let p = promised (Call.set_up a.stream a.settings) a.self.now as_answered
    (bad_settings _ _ _ (sym c.legal.ensures ∙ c.if-not-legal.true)) (refl, refl) in
    record { exact = p.0; unbounded = p.1 }

pub returns-then-is_some : goal.returns-then-is_some
returns-then-is_some c =
    let a = c.args in
    let there = ltb-true _ _ (is_there (is_of a.stream) a.self.now.slots c.place_of.ensures ∙ (sym c.is_some.ensures ∙ c.if-is_some.true)) in
    let p = promised (Call.set_up a.stream a.settings) a.self.now as_answered
    (stream_taken _ _ _ (sym c.legal.ensures ∙ c.if-not-legal.false) _ refl there) (refl, refl) in
    record { exact = p.0; unbounded = p.1 }

pub returns-in_err-free : goal.returns-in_err-free
returns-in_err-free c =
    let a = c.args in
    let new = ltb-false _ _ (is_there (is_of a.stream) a.self.now.slots c.place_of.ensures ∙ (sym c.is_some.ensures ∙ c.if-is_some.false)) in
    let missed = was_missed _ _ c.in_err-free.ensures.value in
    let full = place_missed is_free a.self.now.slots c.free_place.ensures missed.1 in
    let p = promised (Call.set_up a.stream a.settings) a.self.now as_answered
    (table_full _ _ _ (sym c.legal.ensures ∙ c.if-not-legal.false) _ refl new _ refl full)
    (hands_on _ c.from_residual.ensures.1 missed.0, refl) in
    record { exact = p.0; unbounded = p.1 }

pub loop-i-init : goal.loop-i-init
loop-i-init c =
    let a = c.args in
    let new = ltb-false _ _ (is_there (is_of a.stream) a.self.now.slots c.place_of.ensures ∙ (sym c.is_some.ensures ∙ c.if-is_some.false)) in
    let free = place_found is_free a.self.now.slots c.free_place.ensures (was_found _ _ c.in_ok-free.ensures.value) in
    let good = sym c.legal.ensures ∙ c.if-not-legal.false in
    let place = rw c.place_above.ensures.place at c.unwrap_or-place.ensures in (
      place_before a.stream a.settings a.self.now good _ refl new _ free.0 free.1 _ place,
      omega arith,
      ap (λ (l : List Slot). with_slots l a.self.now) (sym (rw (← free.0) at (none_moved a.self.now.slots (rw free.0 at free.1)))),
    )

pub loop-i-preserved : goal.loop-i-preserved
loop-i-preserved c =
    let a = c.args in
    let (place, at_most, moved) = c.loop-i.invariant in
    let free = place_found is_free a.self.now.slots c.free_place.ensures (was_found _ _ c.in_ok-free.ensures.value) in (
      omega arith,
      omega arith,
      moved_in a.self.now c.loop-i.self c.loop-i.i no_slot moved (omega arith) (omega (arith, free.0)) (omega (arith, free.0, free.1)),
    )

pub returns : goal.returns
returns c =
    let a = c.args in
    let last : c.loop-i.i ≡ c.unwrap_or-place.result = omega (arith, c.loop-i.invariant.0) in
    let new = ltb-false _ _ (is_there (is_of a.stream) a.self.now.slots c.place_of.ensures ∙ (sym c.is_some.ensures ∙ c.if-is_some.false)) in
    let free = place_found is_free a.self.now.slots c.free_place.ensures (was_found _ _ c.in_ok-free.ensures.value) in
    let good = sym c.legal.ensures ∙ c.if-not-legal.false in
    let place = rw c.place_above.ensures.place at c.unwrap_or-place.ensures in
    let moved = rw last at c.loop-i.invariant.2 in
    let p = promised (Call.set_up a.stream a.settings) a.self.now as_answered
    (stream_set _ _ _ good _ refl new _ free.0 free.1 _ place _ moved _ c.set_up.ensures)
    (refl, refl) in
    record { exact = p.0; unbounded = p.1 }
