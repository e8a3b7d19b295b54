-- `store_counter` meets its contract: the test that led to each return decides what is left.
use mathlib.Core.Path.{sym, ◌∙◌}
use mathlib.Core.Bool.{false≢true}
use Rattle.node_bytes.specs.Lent.{store_counter}
use Rattle.node_bytes.proofs.Lent.{is_node_law}
use Rattle.node_bytes.proofs.counter.store_counter.Goals as goal

pub put_counter-requires : goal.put_counter-requires
put_counter-requires c =
    is_node_law c.args.bytes.now (sym c.is_node.ensures ∙ c.if-is_node.true)

pub returns-then-is_node : goal.returns-then-is_node
unfolding store_counter
returns-then-is_node c =
    let put = c.put_counter.ensures in
    let e = sym c.is_node.ensures ∙ c.if-is_node.true in
    record { bytes = rw e put.0; decoded = λ _. put.1 }

pub returns-else-is_node : goal.returns-else-is_node
unfolding store_counter
returns-else-is_node c =
    let none = sym c.is_node.ensures ∙ c.if-is_node.false in
    record { bytes = rw none; decoded = λ e. absurd (false≢true (sym none ∙ e)) }
