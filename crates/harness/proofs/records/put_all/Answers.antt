-- `harness::records::put_all` ends: a record ends within the bytes and past its start, and the measure is the bytes that are left.
use Rattle.std.proofs.Common.{arith}
use Rattle.wire.proofs.Reading.{answered_within}
use Rattle.harness.proofs.records.put_all.Goals as goal

pub loop-record-smaller : goal.loop-record-smaller
loop-record-smaller c =
    let w = answered_within _ _ c.in-Ok.record c.in-Ok.ensures in
    omega arith
