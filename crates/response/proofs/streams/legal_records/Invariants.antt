-- What the loop of `legal_records` keeps: the test of the list is that of the records from k on.
use lib.ListN.{drop}
use mathlib.Core.Path.{◌≡◌}
use Rattle.response.specs.Streams.{legal_records}
use Rattle.response.proofs.streams.legal_records.Given as goal

abbrev pub invariant-loop-k : goal.invariant-loop-k
invariant-loop-k l = legal_records l.streams ≡ legal_records (drop l.k l.streams)
