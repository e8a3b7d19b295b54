-- `of_at` meets its contract: a slot of another stream is not the stream's, and of its own the flag answers.
use borrow.Author.Tests.{eq-eqb, ne_eqb}
use mathlib.Core.Path.{◌≡◌, ◌∙◌}
use mathlib.Core.Bool.{false, and-true, and-false}
use Prim.Native.Nat.{ℕ}
use Rattle.wire.specs.declared.ids.Stream.{Stream}
use Rattle.node.specs.declared.slots.Slot.{Slot}
use Rattle.node.specs.Slots.{is_of}
use Rattle.node_bytes.specs.Decoding.{slot_from, slot_at}
use Rattle.node_bytes.proofs.slots.of_at.Goals as goal

module _ (stream : Stream) (x : Slot) {n : ℕ} (read : n ≡ x.stream.0) where
  of_another : (n ≡ stream.0 → ⊥) → false ≡ is_of stream x
  of_another other = rw (← read, ne_eqb _ _ other) (simp and-false)

  of_its_own : n ≡ stream.0 → x.used ≡ is_of stream x
  of_its_own e = rw (← read, eq-eqb _ _ e) (simp and-true)

pub returns-then-four_at-stream : goal.returns-then-four_at-stream
unfolding slot_from
returns-then-four_at-stream c =
    let a = c.args in
    of_another a.stream (slot_at a.bytes.now a.i) c.four_at.ensures c.if-four_at-stream.true

pub returns : goal.returns
unfolding slot_from
returns c =
    let a = c.args in
    c.flag_at.ensures ∙ of_its_own a.stream (slot_at a.bytes.now a.i) c.four_at.ensures c.if-four_at-stream.false
