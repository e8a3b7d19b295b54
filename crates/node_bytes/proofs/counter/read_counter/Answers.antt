-- `read_counter` meets its contract: the test that led to each return decides which answer is due.
use mathlib.Core.Path.{sym, ◌∙◌}
use Rattle.node_bytes.specs.Lent.{read_counter}
use Rattle.node_bytes.proofs.Lent.{is_node_law}
use Rattle.node_bytes.proofs.counter.read_counter.Goals as goal

pub counter_of-requires : goal.counter_of-requires
counter_of-requires c = is_node_law c.args.bytes.now (sym c.is_node.ensures ∙ c.if-is_node.true)

pub returns-then-is_node : goal.returns-then-is_node
unfolding read_counter
returns-then-is_node c = rw (sym c.is_node.ensures ∙ c.if-is_node.true) c.counter_of.ensures

pub returns : goal.returns
unfolding read_counter
returns c = rw (sym c.is_node.ensures ∙ c.if-is_node.false)
