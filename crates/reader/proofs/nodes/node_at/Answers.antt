-- `nodes::node_at` meets its contract: each answer is a law on a node's first bits.
use Rattle.reader.proofs.Beginnings.{short_leaf, leaf_node, lone_child, chain_node, side_node}
use Rattle.reader.proofs.nodes.node_at.Goals as goal

pub returns-in_err-x : goal.returns-in_err-x
returns-in_err-x c = rw c.from_residual.ensures (short_leaf _ _ c.in_err-x.ensures)

pub returns-then-first-lt128 : goal.returns-then-first-lt128
returns-then-first-lt128 c = leaf_node _ _ _ c.in_ok-x.ensures c.if-first-lt128.true

pub returns-then-more-eq0 : goal.returns-then-more-eq0
returns-then-more-eq0 c = lone_child _ _ _ c.in_ok-x.ensures c.if-first-lt128.false c.if-more-eq0.true

pub returns-then-first-lt192 : goal.returns-then-first-lt192
returns-then-first-lt192 c = chain_node _ _ _ c.in_ok-x.ensures c.if-first-lt128.false c.if-more-eq0.false c.if-first-lt192.true

pub returns : goal.returns
returns c = side_node _ _ _ c.in_ok-x.ensures c.if-first-lt128.false c.if-more-eq0.false c.if-first-lt192.false
