-- `put_parts` meets its contract: the message is stored, and then three flags, and what both do to the node.
use mathlib.Core.Path.{◌≡◌, ◌∙◌}
use lib.ListN.{length}
use Rattle.node_bytes.specs.Layout.{node_size}
use Rattle.node_bytes.proofs.PendingStored.{flags_set_length, flags_set_decoded}
use Rattle.node_bytes.proofs.PartsStored.{parts_decoded}
use Rattle.node_bytes.proofs.slots.put_parts.Goals as goal

pub returns : goal.returns
returns c =
    let a = c.args in
    let between = c.put_message.new.bytes in
    let whole : length between ≡ node_size = c.put_message.ensures.0 ∙ c.requires.0 in
    let long = flags_set_length between a.i whole c.requires.1 a.pending in
    let left = flags_set_decoded between a.i whole c.requires.1 a.pending in
    let stored = parts_decoded a.bytes.now between _ a.i a.message a.pending c.requires.1 c.put_message.ensures.1 left in
    let same = rw (c.flag.ensures, c.flag-2.ensures, c.flag-3.ensures) at c.put_same.ensures in
    (same.0 ∙ long ∙ c.put_message.ensures.0, same.1 ∙ stored)
