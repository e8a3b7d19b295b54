-- `put_abort` meets its contract: one flag is stored, and what it does to the node.
use lib.ListN.{length-set}
use Rattle.node_bytes.proofs.PendingStored.{aborted_decoded}
use Rattle.node_bytes.proofs.slots.put_abort.Goals as goal

pub returns : goal.returns
returns c =
    let a = c.args in
    rw c.flag.ensures (length-set a.bytes.now _ _, aborted_decoded a.bytes.now a.i c.requires.0 c.requires.1 a.abort)
