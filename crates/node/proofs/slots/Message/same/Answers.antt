-- `Message::same` meets its contract: where the lengths agree, the bytes before the loop's turn i were the same.
use Rattle.std.proofs.Common.{◌≡◌, ◌≤◌, length, sym, ◌∙◌, arith, length-take, rules}
use Rattle.node.proofs.slots.Payloads.{differ_in_length, same_so_far, another_byte, same_to_the_end}
use Rattle.node.proofs.slots.Payloads.{message_of_another_length, message_of_equal_length}
use Rattle.node.proofs.slots.Message.same.Goals as goal
use Rattle.node.proofs.slots.Message.same.Goals.{Start}

eight_bytes : (c : Start) → length c.args.self.bytes ≡ 8
eight_bytes c = search rules

pub returns-then-payload-len : goal.returns-then-payload-len
returns-then-payload-len c =
    let a = c.args in
    sym (message_of_another_length a.self a.payload.now (λ e. c.if-payload-len.true (e ∙ sym c.from-len.ensures)))

pub returns-then-len-gt-MAX_LEN : goal.returns-then-len-gt-MAX_LEN
returns-then-len-gt-MAX_LEN c =
    let m = c.args.self in
    let payload = c.args.payload.now in
    let cut = length-take m.len m.bytes in
    sym (message_of_equal_length m payload (c.if-payload-len.false ∙ c.from-len.ensures) ∙ differ_in_length _ payload (λ e. omega (arith, eight_bytes (goal.at.returns-then-len-gt-MAX_LEN c).Start)))

pub returns-then-self-i : goal.returns-then-self-i
returns-then-self-i c =
    let m = c.args.self in
    let payload = c.args.payload.now in
    let as_long = c.if-payload-len.false ∙ c.from-len.ensures in
    let enough : m.len ≤ length m.bytes = omega (arith, eight_bytes (goal.at.returns-then-self-i c).Start) in
    sym (message_of_equal_length m payload as_long
    ∙ another_byte m.len m.bytes payload enough as_long c.loop-i.i (omega arith) c.loop-i.invariant c.if-self-i.true)

pub loop-i-preserved : goal.loop-i-preserved
loop-i-preserved c =
    let m = c.args.self in
    let payload = c.args.payload.now in
    let as_long = c.if-payload-len.false ∙ c.from-len.ensures in
    let enough : m.len ≤ length m.bytes = omega (arith, eight_bytes (goal.at.loop-i-preserved c).Start) in
    same_so_far m.len m.bytes payload enough as_long c.loop-i.i (omega arith) c.loop-i.invariant c.if-self-i.false

pub returns : goal.returns
returns c =
    let m = c.args.self in
    let payload = c.args.payload.now in
    let as_long = c.if-payload-len.false ∙ c.from-len.ensures in
    let enough : m.len ≤ length m.bytes = omega (arith, eight_bytes (goal.at.returns c).Start) in
    sym (message_of_equal_length m payload as_long
    ∙ same_to_the_end m.len m.bytes payload enough as_long c.loop-i.i (omega arith) c.loop-i.invariant)
