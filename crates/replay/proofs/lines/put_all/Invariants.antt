-- `replay::lines::put_all` ends: the measure is the bytes that are left.
use Rattle.std.proofs.Common.{◌-◌, length}
use Rattle.replay.proofs.lines.put_all.Given as goal

abbrev pub decreases-loop-record : goal.decreases-loop-record
decreases-loop-record l = length l.records - l.at
