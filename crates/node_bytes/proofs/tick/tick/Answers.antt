-- `tick` meets its contract. The loop goes up through the slots, with those passed lapsed and their records written: a slot
-- that is due is delivered, and another has lapsed.
use mathlib.Core.Path.{refl, sym, ap, ◌∙◌}
use Prim.Native.Nat.{◌+◌, ◌≤◌}
use lib.ListN.{length}
use lib.Seq.{length-sets}
use Rattle.wire.specs.Delivered.{little_endian}
use Rattle.node.specs.Slots.{empty}
use Rattle.node.specs.Hear.{hear_room}
use Rattle.node.specs.Clock.{rolled}
use Rattle.node.specs.Nodes.{as_ticked}
use Rattle.node.specs.Calls.{Call}
use Rattle.node_bytes.specs.Decoding.{decode}
use Rattle.node_bytes.proofs.Calling.{not_a_node, call_refused}
use Rattle.node.proofs.tick.Ways.{tick_refused}
use Rattle.node.proofs.tick.OnePass.{has_room}
use Rattle.node_bytes.specs.Layout.{counter_at}
use Rattle.node_bytes.proofs.ByIndex.{decoded_counter}
use Rattle.node_bytes.proofs.CallingTick.{ticking_at_first, stays_lapses, dropped_lapses, due_lapses}
use Rattle.node_bytes.proofs.CallingTick.{tick_is_done}
use Rattle.node_bytes.proofs.tick.tick.Goals as goal
use Rattle.node_bytes.proofs.tick.tick.Goals.{In-loop-i, in-Stays, in-Dropped, in-Due}

-- ── refused ──
pub returns-then-bytes-ne-NODE_SIZE : goal.returns-then-bytes-ne-NODE_SIZE
returns-then-bytes-ne-NODE_SIZE c =
    let a = c.args in
    let t = not_a_node (Call.tick a.out.now) a.bytes.now as_ticked a.out.now c.if-bytes-ne-NODE_SIZE.true in
    record { answer = t.0; output = t.1.0; leaves = t.1.1 }

pub returns-then-out-lt-TICK_ROOM : goal.returns-then-out-lt-TICK_ROOM
returns-then-out-lt-TICK_ROOM c =
    let a = c.args in
    let t = call_refused (Call.tick a.out.now) a.bytes.now as_ticked a.out.now c.if-bytes-ne-NODE_SIZE.false
    (tick_refused rolled (decode a.bytes.now) a.out.now c.if-out-lt-TICK_ROOM.true) refl refl refl in
    record { answer = t.0; output = t.1.0; leaves = t.1.1 }

-- ── the slots ──
pub loop-i-init : goal.loop-i-init
loop-i-init c =
    let whole = c.if-bytes-ne-NODE_SIZE.false in
    let bytes = c.args.bytes.now in
    let stays = ap length c.put_counter.ensures.0 ∙ length-sets bytes counter_at (little_endian 2 c.next-now.result) in
    ticking_at_first _ _ _ (stays ∙ whole) c.if-out-lt-TICK_ROOM.false

-- the longest record fits behind those that are written
room : (c : In-loop-i) → c.before.loop-i.written + hear_room ≤ length c.before.loop-i.out
room c = has_room c.before.loop-i.invariant.writing empty c.loop-i-test.true

pub loop-i-preserved : goal.loop-i-preserved
loop-i-preserved c =
    let t = c.loop-i.invariant in
    let h = c.loop-i-test.true in
    let l = c.lapse_at.ensures in
    elim c.match-lapse_at.branch [
      | in-Stays w ↦ rw (w.bytes-is, w.out-is, w.written-is, w.dropped-is, w.delivered-is) (stays_lapses t h _ _ l w.in-Stays.is)
      | in-Dropped w ↦ rw (w.bytes-is, w.out-is, w.written-is, w.dropped-is, w.delivered-is) (dropped_lapses t h _ _ l w.in-Dropped.is)
      | in-Due w ↦ rw (w.bytes-is, w.out-is, w.written-is, w.dropped-is, w.delivered-is) (due_lapses t h _ _ l w.in-Due.is _ _ _ w.deliver_at-written.ensures)
    ]

-- ── done ──
pub returns : goal.returns
returns c =
    let a = c.args in
    let bytes = a.bytes.now in
    let counts = c.next-now.ensures ∙ ap rolled.next (c.counter_of.ensures ∙ sym (decoded_counter bytes)) in
    let t = tick_is_done a.out.now bytes c.if-bytes-ne-NODE_SIZE.false c.if-out-lt-TICK_ROOM.false _ counts _ c.put_counter.ensures.1 c.loop-i.invariant
    c.loop-i-test.false in
    record { answer = t.0; output = t.1.0; leaves = t.1.1 }
