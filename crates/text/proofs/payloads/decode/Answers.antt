-- `text::payloads::decode` meets its contract.
use native.Mathlib.Nat.{not-le_of_lt}
use native.Mathlib.Omega.{arith}
use mathlib.Core.Path.{◌∙◌}
use Rattle.text.proofs.PayloadLaws.{small, room, pair_decoded, all_decoded, half}
use Rattle.text.proofs.payloads.decode.Goals as goal

pub loop-k-preserved-in-Some-byte : goal.loop-k-preserved-in-Some-byte
loop-k-preserved-in-Some-byte c =
    let h = c.in-Some.ensures.steps in
    let l = c.loop-k.invariant in
    let n = h.0.1.1 ∙ l.whole in
    let k = room l.decoding _ _ h.0.1.0 n c.requires.0 c.requires.1 in
    record {
      whole = h.0.0 ∙ l.whole;
      decoding = rw (h.1, h.2) (pair_decoded l.decoding _ _ h.0.1.0 n _ k c.in-Some-byte.ensures);
    }

pub loop-k-preserved : goal.loop-k-preserved
loop-k-preserved c =
    let h = c.in-Some.ensures.steps in
    let l = c.loop-k.invariant in
    let n = h.0.1.1 ∙ l.whole in
    absurd (not-le_of_lt c.in_default.ensures (small l.decoding _ _ h.0.1.0 n))

pub returns : goal.returns
returns c =
    let l = c.loop-k.invariant in
    let h = c.in-None.ensures.steps.0.1.0 in
    let e = all_decoded l.decoding (omega arith) in
    (omega (arith, half c.args.word.now c.requires.0), e.1)
