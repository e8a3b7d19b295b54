-- `slot_at` meets its contract: each part is what stands at its place.
use Rattle.node_bytes.specs.Decoding.{slot_from}
use Rattle.node_bytes.proofs.slots.slot_at.Goals as goal

pub returns : goal.returns
unfolding slot_from
returns c =
    rw (
      c.four_at.ensures,
      c.settings_from.ensures,
      c.message_from.ensures,
      c.pending_from.ensures,
      c.flag_at.ensures,
    )
