-- `frame_at` meets its contract: without a pending flag there is no frame, and else the slot's own test answers.
use Rattle.std.proofs.Common.{◌≡◌, rules, false, sym, ap, ◌∙◌}
use Rattle.node.specs.NextFrame.{has_frame}
use Rattle.node_bytes.proofs.slots.frame_at.Goals as goal

pub returns-then-not-pending_at : goal.returns-then-not-pending_at
returns-then-not-pending_at c =
    let none : c.pending_at.result ≡ false = search rules in rw (sym c.pending_at.ensures ∙ none)

pub returns : goal.returns
returns c = c.has_frame.ensures ∙ ap has_frame c.slot_at-s.ensures
