-- `harness::records::put_all` ends: a record ends within the bytes and past its start, and the measure is the bytes that are left.
use Rattle.std.proofs.Common.{◌-◌, length}
use Rattle.harness.proofs.records.put_all.Given as goal

abbrev pub decreases-loop-record : goal.decreases-loop-record
decreases-loop-record l = length l.records - l.at
