-- `put_record` meets its contract: the header is stored, and the payload copied behind it.
use Rattle.std.proofs.Common.{◌≡◌, ◌∙◌, refl, ap, take, length, ◌+◌, ◌-◌, arith, length-take-le}
use Rattle.std.proofs.lemmas.List.{take_all}
use Rattle.wire.proofs.Records.{stored, room_behind}
use Rattle.wire.proofs.delivered.put_record.Goals as goal

pub returns-then-n-eq-MAX_PAYLOAD : goal.returns-then-n-eq-MAX_PAYLOAD
returns-then-n-eq-MAX_PAYLOAD c =
    let a = c.args in
    let full = c.if-n-eq-MAX_PAYLOAD.true in
    let whole : take 8 a.payload.now ≡ a.payload.now = take_all 8 a.payload.now (omega arith) in
    let head = c.copy.ensures.whole (length-take-le 8 a.out.now (omega arith)) in
    let eight = c.first_eight.ensures ∙ whole in
    let room = room_behind c.copy.new.out a.out.now 8 (ap length head) (omega arith) in
    let tail = c.copy-then-n-eq-MAX_PAYLOAD.ensures.whole (omega (arith, room, ap length eight, full)) in
    rw (tail, head, eight, c.to_le_bytes.ensures, full) (stored a.stream a.payload.now a.out.now 8 full (omega arith))

pub returns-else-n-eq-MAX_PAYLOAD : goal.returns-else-n-eq-MAX_PAYLOAD
returns-else-n-eq-MAX_PAYLOAD c =
    let a = c.args in
    let left : 8 + length a.payload.now - 8 ≡ length a.payload.now = omega arith in
    let head = c.copy.ensures.whole (length-take-le 8 a.out.now (omega arith)) in
    let room = room_behind c.copy.new.out a.out.now (8 + length a.payload.now - 8) (ap length head) (omega arith) in
    let tail = c.copy-else-n-eq-MAX_PAYLOAD.ensures.whole (omega (arith, room, left)) in
    rw (tail, head, c.to_le_bytes.ensures, left) (stored a.stream a.payload.now a.out.now _ refl c.requires.0)
