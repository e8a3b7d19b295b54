-- How often the node is ticked before a record is heard. A further kind of record, with a count of its own, is added here and in `src/gap.rt`.
use Rattle.std.specs.Prelude.{ℕ, ◌+◌, ◌-◌, ◌%◌}
use Rattle.heard.specs.Records.{Heard}
use Rattle.node.specs.Clock.{period}

-- counter in the record minus node's counter, modulo 65,536; after so many ticks the node's counter is their number modulo 65,536
unfoldable pub gap_from : (ticks : ℕ) → Heard → ℕ
gap_from ticks h = (h.count + (period - ticks % period)) % period
