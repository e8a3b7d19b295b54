-- `Playback::step` meets its contract: each return is one of the ways of a step (`Ways.antt`).
use Rattle.std.proofs.Common.{refl, arith}
use Rattle.heard.specs.Answers.{was_read}
use Rattle.heard.specs.Reading.{refused}
use Rattle.heard.specs.Replies.{Refused}
use Rattle.heard.proofs.Passed.{within}
use Rattle.playback.proofs.Ways.{nothing_left, not_read, no_room, to_a_tick, to_the_record, does, fault_changes_nothing}
use Rattle.playback.proofs.Playback.step.Goals as goal

pub returns-then-ended-is_empty : goal.returns-then-ended-is_empty
returns-then-ended-is_empty c =
    let none = rw c.is_empty.ensures at c.if-ended-is_empty.true in
    does _ _ _ _ (nothing_left _ _ _ _ none) (refl, refl, refl)

pub returns-in-Err : goal.returns-in-Err
returns-in-Err c =
    let more = rw c.is_empty.ensures at c.if-ended-is_empty.false in
    let same = fault_changes_nothing _ (Refused c.in-Err.reply) c.args.ended _ in
    does _ _ _ _ (not_read _ _ _ _ more (refused c.in-Err.reply 0) c.in-Err.ensures refl) (c.at_fault.ensures, same.0, same.1)

pub returns-then-out-lt-ROOM : goal.returns-then-out-lt-ROOM
returns-then-out-lt-ROOM c =
    let more = rw c.is_empty.ensures at c.if-ended-is_empty.false in
    does _ _ _ _ (no_room _ _ _ _ more (was_read c.in-Ok.read) c.in-Ok.ensures refl (omega arith)) (refl, refl, refl)

pub returns-then-still-gap : goal.returns-then-still-gap
returns-then-still-gap c =
    let more = rw c.is_empty.ensures at c.if-ended-is_empty.false in
    does _ _ _ _
    (to_a_tick _ _ _ _ more (was_read c.in-Ok.read) c.in-Ok.ensures refl (omega arith) _ _ (c.gap-gap.ensures _ refl) c.quiet-still.ensures _ c.jump.ensures
    c.if-still-gap.true)
    c.tick_step.ensures

pub hear_step-requires : goal.hear_step-requires
hear_step-requires c =
    let w = within c.args.window.now 0 (was_read c.in-Ok.read) c.in-Ok.ensures refl in
    (w.next, w.inside)

pub returns : goal.returns
returns c =
    let more = rw c.is_empty.ensures at c.if-ended-is_empty.false in
    does _ _ _ _
    (to_the_record _ _ _ _ more (was_read c.in-Ok.read) c.in-Ok.ensures refl (omega arith) _ _ (c.gap-gap.ensures _ refl) c.quiet-still.ensures _ c.jump.ensures
    c.if-still-gap.false)
    c.hear_step.ensures
