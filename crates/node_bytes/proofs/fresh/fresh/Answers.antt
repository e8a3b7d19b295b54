-- `fresh` meets its contract: zeros are the fresh node.
use mathlib.Core.Path.{sym, ◌∙◌}
use Rattle.node_bytes.specs.Lent.{fresh_reply, fresh_in}
use Rattle.node_bytes.proofs.Lent.{cleared_is_fresh}
use Rattle.node_bytes.proofs.fresh.fresh.Goals as goal

pub returns-then-is_node : goal.returns-then-is_node
unfolding fresh_reply
returns-then-is_node c =
    let a = c.args in
    let e = sym c.is_node.ensures ∙ c.if-is_node.true in
    record { answer = rw e; bytes = c.clear.ensures ∙ cleared_is_fresh a.bytes.now e }

pub returns : goal.returns
unfolding fresh_reply fresh_in
returns c =
    let none = sym c.is_node.ensures ∙ c.if-is_node.false in
    record { answer = rw none; bytes = rw none }
