-- `text::payloads::decode` meets its contract. The invariant: what is written stands before what is left.
use mathlib.Core.Path.{◌≡◌}
use Rattle.std.specs.Slice.Iter.{chunks_exact_rest, chunks_exact_size}
use Rattle.text.proofs.PayloadLaws.{Decoding}
use Rattle.text.proofs.payloads.decode.Given as goal

abbrev pub invariant-loop-k : goal.invariant-loop-k
invariant-loop-k l = record {
  whole : chunks_exact_size l.k-iterator.iter ≡ 2;
  decoding : Decoding l.word l.initial.into l.into (chunks_exact_rest l.k-iterator.iter) l.k-iterator.count;
}
