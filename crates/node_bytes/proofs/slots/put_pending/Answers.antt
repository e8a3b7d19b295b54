-- `put_pending` meets its contract: three flags are stored where they change, and what they do to the node.
use native.Mathlib.Omega.{arith}
use mathlib.Core.Path.{◌≡◌, ap, ◌∙◌}
use mathlib.Core.Bool.{Bool}
use mathlib.Core.List.{List}
use lib.ListN.{length}
use Prim.Native.Nat.{ℕ, ◌+◌}
use Rattle.node_bytes.specs.Layout.{payload_pending_at, confirmation_pending_at, slot_start, node_size}
use Rattle.node_bytes.specs.Decoding.{decode}
use Rattle.node_bytes.proofs.PendingStored.{flagged, flagged_length, pended, pended_length, pended_decoded}
use Rattle.node_bytes.proofs.slots.put_pending.Goals as goal

-- the buffer is as long as it was, with a flag stored
one_longer : (bytes : List ℕ) {after : List ℕ} (at : ℕ) (p q : Bool) → length bytes ≡ node_size → after ≡ flagged bytes at p q → length after ≡ node_size
one_longer bytes at p q long e = ap length e ∙ flagged_length bytes at p q ∙ long

pub put_flag-requires-2 : goal.put_flag-requires-2
put_flag-requires-2 c =
    let a = c.args in
    omega (arith, one_longer a.bytes.now (payload_pending_at + slot_start a.i) a.old.payload a.new.payload c.requires.0 c.put_flag.ensures)

pub put_flag-requires-3 : goal.put_flag-requires-3
put_flag-requires-3 c =
    let a = c.args in
    let one = one_longer a.bytes.now (payload_pending_at + slot_start a.i) a.old.payload a.new.payload c.requires.0 c.put_flag.ensures in
    omega (arith, one_longer c.put_flag.new.out (confirmation_pending_at + slot_start a.i) a.old.confirmation a.new.confirmation one c.put_flag-2.ensures)

pub shape_of-bytes : goal.shape_of-bytes
shape_of-bytes c =
    let a = c.args in
    let written : c.put_flag-3.new.out ≡ pended a.bytes.now a.i c.requires.0 c.requires.1 a.old a.new =
    rw (c.put_flag-3.ensures, c.put_flag-2.ensures, c.put_flag.ensures) in
    ap length written ∙ pended_length a.bytes.now a.i c.requires.0 c.requires.1 a.old a.new

pub returns : goal.returns
returns c =
    let a = c.args in
    let written : c.put_flag-3.new.out ≡ pended a.bytes.now a.i c.requires.0 c.requires.1 a.old a.new =
    rw (c.put_flag-3.ensures, c.put_flag-2.ensures, c.put_flag.ensures) in
    (ap length written ∙ pended_length a.bytes.now a.i c.requires.0 c.requires.1 a.old a.new, ap decode written ∙ pended_decoded a.bytes.now a.i c.requires.0 c.requires.1 a.old a.new c.requires.2)
