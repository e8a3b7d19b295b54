-- `settings_from` meets its contract: each number is what stands at its place.
use Rattle.node_bytes.proofs.slots.settings_from.Goals as goal

pub returns : goal.returns
returns c =
    rw (
      c.of.ensures,
      c.two_at.ensures,
      c.two_at-2.ensures,
      c.two_at-3.ensures,
      c.two_at-4.ensures,
    )
