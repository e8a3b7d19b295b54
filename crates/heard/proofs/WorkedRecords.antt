-- The worked records are read and written as their tables say.
use mathlib.Core.Path.{refl}
use Rattle.heard.specs.Kinds.{count_bytes}
use Rattle.heard.specs.Records.{record_of}
use Rattle.heard.specs.Reading.{heard_at}
use Rattle.heard.specs.Writing.{writing}
use Rattle.heard.specs.WorkedRecords.{read_rows, ReadAsWorked, write_rows, WrittenAsWorked}

pub read_as_worked : ReadAsWorked
unfolding read_rows heard_at count_bytes
read_as_worked = refl

pub written_as_worked : WrittenAsWorked
unfolding write_rows writing record_of count_bytes
written_as_worked = refl
