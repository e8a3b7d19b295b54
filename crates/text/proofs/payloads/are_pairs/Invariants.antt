-- `text::payloads::are_pairs` meets its contract. The invariant: the rest of the word decides.
use mathlib.Core.Path.{◌≡◌}
use Rattle.std.specs.Slice.Iter.{chunks_exact_rest, chunks_exact_size}
use Rattle.text.proofs.PayloadLaws.{Pairing}
use Rattle.text.proofs.payloads.are_pairs.Given as goal

abbrev pub invariant-loop-pair : goal.invariant-loop-pair
invariant-loop-pair l = record { whole : chunks_exact_size l.pair-iterator ≡ 2; pairing : Pairing l.word (chunks_exact_rest l.pair-iterator) }
