-- `copy_up` meets its contract: four rows are copied to their places, and what that does to the node.
use native.Mathlib.Omega.{arith}
use mathlib.Core.Path.{◌≡◌, ap, ◌∙◌}
use mathlib.Core.List.{List}
use Prim.Native.Nat.{ℕ, ◌+◌}
use lib.ListN.{length}
use lib.Seq.{sets, length-sets}
use Rattle.node_bytes.specs.Layout.{slot_size, slot_start}
use Rattle.node_bytes.specs.Decoding.{bytes_at, decode}
use Rattle.node_bytes.proofs.Places.{rows_copied}
use Rattle.node_bytes.proofs.Stored.{decode_copied}
use Rattle.node_bytes.proofs.slots.copy_up.Goals as goal

pub returns : goal.returns
returns c =
    let bytes : List ℕ = c.args.bytes.now in
    let i : ℕ = c.args.i in
    let row : List ℕ = bytes_at slot_size bytes (slot_start i) in
    let next : slot_size + slot_start i ≡ slot_start (i + 1) = omega arith in
    let written : c.put_eight-4.new.out ≡ sets bytes (slot_start (i + 1)) row =
    rw (
      c.put_eight-4.ensures.0,
      c.put_eight-3.ensures.0,
      c.put_eight-2.ensures.0,
      c.put_eight.ensures.0,
      c.eight_at-payload.ensures,
      c.eight_at-reach.ensures,
      c.eight_at-state.ensures,
      c.eight_at-key.ensures,
    )
    (rows_copied bytes bytes (slot_size + slot_start i) (slot_start i) ∙ ap (λ (at : ℕ). sets bytes at row) next) in (
      ap (λ (l : List ℕ). length l) written ∙ length-sets bytes (slot_start (i + 1)) row ∙ c.requires.0,
      ap decode written ∙ decode_copied bytes (i + 1) i c.requires.0 c.requires.1,
    )
