-- `put_slot` meets its contract: four rows, one behind the other, and what they do to the node. That the slot's numbers fit is known of its type.
use borrow.Author.Rules.{rules}
use Rattle.node_bytes.specs.Widths.{SlotFits}
use mathlib.Core.Path.{◌≡◌, ap, ◌∙◌}
use lib.Seq.{sets}
use Rattle.node_bytes.specs.Decoding.{decode}
use Rattle.node_bytes.specs.Encoding.{encode_slot}
use Rattle.node_bytes.proofs.Places.{rows_stored}
use Rattle.node_bytes.proofs.Stored.{decode_stored}
use Rattle.node_bytes.specs.Layout.{slot_start}
use Rattle.node_bytes.proofs.slots.put_slot.Goals as goal
use Rattle.node_bytes.proofs.slots.put_slot.Goals.{Start}

fits : (c : Start) → SlotFits c.args.slot
fits c =
    record {
      stream = search rules;
      settings = record { role = search rules; class = search rules; rd = search rules; dc = search rules; ra = search rules; dd = search rules };
      message = record { stamp = search rules; len = search rules; eight_bytes = search rules };
    }

-- the rows, one behind the other
pub returns : goal.returns
returns c =
    let a = c.args in
    let fit = fits (goal.at.returns c).Start in
    let written : c.put_eight-4.new.out ≡ sets a.bytes.now (slot_start a.i) (encode_slot a.slot) =
    rw (
      c.put_eight-4.ensures.0,
      c.put_eight-3.ensures.0,
      c.reach_row.ensures,
      c.put_eight-2.ensures.0,
      c.state_row.ensures,
      c.put_eight.ensures.0,
      c.key_row.ensures,
    )
    (rows_stored a.bytes.now (slot_start a.i) a.slot fit.message.eight_bytes) in
    (written, ap decode written ∙ decode_stored a.bytes.now a.i a.slot c.requires.0 c.requires.1 fit)
