-- `store_slot` meets its contract: the slot that is there is set; setting one past the last changes no node.
use mathlib.Core.Path.{sym, ◌∙◌}
use Rattle.node_bytes.proofs.Lent.{is_slot_law, stores, stores_nothing, past_the_last}
use Rattle.node_bytes.proofs.slots.store_slot.Goals as goal

pub put_slot-requires : goal.put_slot-requires
put_slot-requires c =
    let a = c.args in
    is_slot_law a.bytes.now a.i (sym c.is_slot.ensures ∙ c.if-is_slot.true)

pub returns-then-is_slot : goal.returns-then-is_slot
returns-then-is_slot c =
    let put = c.put_slot.ensures in
    let a = c.args in
    let e = sym c.is_slot.ensures ∙ c.if-is_slot.true in
    record { bytes = put.0 ∙ sym (stores a.bytes.now a.i a.slot e); decoded = λ _. put.1 }

pub returns-else-is_slot : goal.returns-else-is_slot
returns-else-is_slot c =
    let a = c.args in
    let none = sym c.is_slot.ensures ∙ c.if-is_slot.false in
    record { bytes = sym (stores_nothing a.bytes.now a.i a.slot none); decoded = λ e. sym (past_the_last a.bytes.now a.i a.slot none e) }
