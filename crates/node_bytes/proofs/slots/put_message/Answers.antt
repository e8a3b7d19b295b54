-- `put_message` meets its contract: its parts are stored each in its place, and what they do to the node. That its numbers fit is known of its type.
use borrow.Author.Rules.{rules}
use native.Mathlib.Omega.{arith}
use mathlib.Core.Path.{◌≡◌, ap, ◌∙◌}
use lib.ListN.{length, length-set}
use Rattle.node_bytes.specs.Layout.{node_size}
use Rattle.node_bytes.specs.Widths.{MessageFits}
use Rattle.node_bytes.specs.Decoding.{decode}
use Rattle.node_bytes.proofs.MessageStored.{messaged, messaged_length, messaged_decoded}
use Rattle.node_bytes.proofs.slots.put_message.Goals as goal
use Rattle.node_bytes.proofs.slots.put_message.Goals.{After-put_eight, After-put_two, Start}

fits : (c : Start) → MessageFits c.args.message
fits c = record { stamp = search rules; len = search rules; eight_bytes = search rules }

pub put_two-requires : goal.put_two-requires
put_two-requires c = simp length-set (omega arith)

-- the buffer is as long as it was, with the stamp stored
stamped : (c : After-put_two) → length c.put_two.new.out ≡ node_size
stamped c =
    ap length c.put_two.ensures ∙ simp length-set c.before.before.before.before.requires.0

pub bounds-bytes-at-2 : goal.bounds-bytes-at-2
bounds-bytes-at-2 c = omega (arith, stamped (goal.at.bounds-bytes-at-2 c).After-put_two)

pub bounds-bytes-at-3 : goal.bounds-bytes-at-3
bounds-bytes-at-3 c = simp length-set (omega (arith, stamped (goal.at.bounds-bytes-at-3 c).After-put_two))

pub put_eight-requires : goal.put_eight-requires
put_eight-requires c = simp length-set (omega (arith, stamped (goal.at.put_eight-requires c).After-put_two))

written : (c : After-put_eight)
    → c.put_eight.new.out ≡ messaged c.before.before.before.before.before.before.before.before.before.before.args.bytes.now c.before.before.before.before.before.before.before.before.before.before.args.i c.before.before.before.before.before.before.before.before.before.before.requires.0 c.before.before.before.before.before.before.before.before.before.before.requires.1 c.before.before.before.before.before.before.before.before.before.before.args.message (fits c.before.before.before.before.before.before.before.before.before.before)
written c =
    rw (c.put_eight.ensures.0, c.before.before.before.flag-2.ensures, c.before.before.before.before.before.before.put_two.ensures, c.before.before.before.before.before.before.before.before.flag.ensures)

pub shape_of-bytes : goal.shape_of-bytes
shape_of-bytes c =
    let a = c.args in
    ap length (written (goal.at.shape_of-bytes c).After-put_eight) ∙ messaged_length a.bytes.now a.i c.requires.0 c.requires.1 a.message (fits (goal.at.shape_of-bytes c).Start)

pub returns : goal.returns
returns c =
    let a = c.args in
    (ap length (written (goal.at.returns c).After-put_eight) ∙ messaged_length a.bytes.now a.i c.requires.0 c.requires.1 a.message (fits (goal.at.returns c).Start), ap decode (written (goal.at.returns c).After-put_eight) ∙ messaged_decoded a.bytes.now a.i c.requires.0 c.requires.1 a.message (fits (goal.at.returns c).Start))
