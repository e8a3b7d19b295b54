-- `Node::tick` meets its contract. The loop goes up through the slots, with those passed lapsed and their records written: a slot
-- that is due is delivered and has its record written, one that is late is dropped, a hold that is over ends, and the others stay.
use Rattle.std.proofs.Common.{sym, refl, ◌∙◌}
use Rattle.node.specs.Nodes.{as_ticked}
use Rattle.node.specs.Clock.{rolled}
use Rattle.node.specs.Calls.{Call}
use Rattle.node.proofs.slots.Finding.{no_slot}
use Rattle.node.proofs.tick.Stirring.{due_is_not_late, late_is_dropped, due_is_delivered, over_is_ended, still_stays, young_is_still}
use Rattle.node.proofs.tick.OnePass.{all_lapsed, slot_as_it_was, one_stays, one_lapses}
use Rattle.node.proofs.tick.OnePass.{all_counted, one_late, one_due, one_neither}
use Rattle.node.proofs.tick.OnePass.{all_written, one_is_not_due, one_is_written}
use Rattle.node.proofs.tick.Ways.{tick_refused, tick_done}
use Rattle.node.proofs.rollover.Promises.{promised_written, promised_exact}
use Rattle.node.proofs.Node.tick.Goals as goal
use Rattle.node.proofs.Node.tick.Goals.{then-due, else-due+then-late, else-due+else-late+then-hold_over, else-due+else-late+else-hold_over}

-- ── refused ──
pub returns-then-out-lt-TICK_ROOM : goal.returns-then-out-lt-TICK_ROOM
returns-then-out-lt-TICK_ROOM c =
    let a = c.args in
    let p = promised_written (Call.tick a.out.now) a.self.now as_ticked a.out.now
    (tick_refused rolled _ _ c.if-out-lt-TICK_ROOM.true) (refl, refl, refl) in
    record { exact = p.0; unbounded = p.1 }

-- ── the slots ──
pub loop-i-preserved-then-not-may_stir : goal.loop-i-preserved-then-not-may_stir
loop-i-preserved-then-not-may_stir c =
    let l = c.loop-i.invariant in
    let h = c.loop-i-test.true in
    let age = c.age-a.ensures in
    let still = young_is_still _ _ (sym c.may_stir.ensures ∙ c.if-not-may_stir.true) in
    let same = slot_as_it_was l.lapsing no_slot h in
    record {
      lapsing = one_stays l.lapsing no_slot h _ age (still_stays _ _ still);
      writing = one_is_not_due l.writing no_slot h _ same _ age still.not_due;
      counting = one_neither l.counting no_slot h _ same _ age still.not_late still.not_due;
    }

pub loop-i-preserved : goal.loop-i-preserved
loop-i-preserved c =
    let l = c.loop-i.invariant in
    let h = c.loop-i-test.true in
    let age = c.age-a.ensures in
    let same = slot_as_it_was l.lapsing no_slot h in
    elim c.if-due.branch [
      | then-due w ↦
          let due = sym c.due.ensures ∙ w.if-due.true in
          record {
            lapsing = rw w.self-is (one_lapses l.lapsing no_slot h _ age _ (w.delivered.ensures ∙ due_is_delivered _ _ due));
            writing =
                rw (w.out-is, w.written-is)
                (one_is_written l.writing no_slot h _ same _ age _ w.all_bytes-bytes.ensures _ w.payload_length-n.ensures due _ _
                (w.write_record-written.ensures.answer, w.write_record-written.ensures.output));
            counting = rw (w.dropped-is, w.delivered-is) (one_due l.counting no_slot h _ same _ age (due_is_not_late _ _ due) due);
          }
      | else-due+then-late w ↦
          let not_due = sym c.due.ensures ∙ w.if-due.false in
          let late = sym w.late.ensures ∙ w.if-late.true in
          record {
            lapsing = rw w.self-is (one_lapses l.lapsing no_slot h _ age _ (w.dropped.ensures ∙ late_is_dropped _ _ late));
            writing = rw (w.out-is, w.written-is) (one_is_not_due l.writing no_slot h _ same _ age not_due);
            counting = rw (w.dropped-is, w.delivered-is) (one_late l.counting no_slot h _ same _ age late not_due);
          }
      | else-due+else-late+then-hold_over w ↦
          let not_due = sym c.due.ensures ∙ w.if-due.false in
          let not_late = sym w.late.ensures ∙ w.if-late.false in
          let over = sym w.hold_over.ensures ∙ w.if-hold_over.true in
          record {
            lapsing = rw w.self-is (one_lapses l.lapsing no_slot h _ age _ (w.hold_ended.ensures ∙ over_is_ended _ _ not_late not_due over));
            writing = rw (w.out-is, w.written-is) (one_is_not_due l.writing no_slot h _ same _ age not_due);
            counting = rw (w.dropped-is, w.delivered-is) (one_neither l.counting no_slot h _ same _ age not_late not_due);
          }
      | else-due+else-late+else-hold_over w ↦
          let not_due = sym c.due.ensures ∙ w.if-due.false in
          let not_late = sym w.late.ensures ∙ w.if-late.false in
          let not_over = sym w.hold_over.ensures ∙ w.if-hold_over.false in
          let stays = still_stays _ _ (record { not_late = not_late; not_due = not_due; not_over = not_over }) in
          record {
            lapsing = rw w.self-is (one_stays l.lapsing no_slot h _ age stays);
            writing = rw (w.out-is, w.written-is) (one_is_not_due l.writing no_slot h _ same _ age not_due);
            counting = rw (w.dropped-is, w.delivered-is) (one_neither l.counting no_slot h _ same _ age not_late not_due);
          }
    ]

-- ── done ──
pub returns : goal.returns
returns c =
    let a = c.args in
    let l = c.loop-i.invariant in
    let node = all_lapsed l.lapsing c.loop-i-test.false in
    let records = all_written l.writing c.loop-i-test.false in
    let counts = all_counted l.counting c.loop-i-test.false in
    let p = promised_exact (Call.tick a.out.now) a.self.now as_ticked a.out.now
    (tick_done rolled _ _ c.if-out-lt-TICK_ROOM.false _ c.next-now.ensures _ _ _ _ _ node records counts) in
    record { exact = p.0; unbounded = p.1 }
