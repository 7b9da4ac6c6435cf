-- `numbering::numbered` meets its contract. The invariant: the nodes from the present one on are to come.
use native.Mathlib.Omega.{arith}
use Rattle.gangs.proofs.Nodes.{ready_first, ready_node, ready_last}
use Rattle.gangs.proofs.numbering.numbered.Goals as goal

pub loop-token-init : goal.loop-token-init
loop-token-init c = λ t l. ready_first t _ _ l _

pub take-present-requires : goal.take-present-requires
take-present-requires c =
    let (t, l) = c.requires.1 in
    (c.requires.0, (t, _, ready_node t _ _ l _ _ _ (omega arith) _ c.from.ensures (c.loop-token.invariant t l)))

pub loop-token-preserved : goal.loop-token-preserved
loop-token-preserved c = λ t l.
    c.take-present.ensures t _ (ready_node t _ _ l _ _ _ (omega arith) _ c.from.ensures (c.loop-token.invariant t l))

pub returns : goal.returns
returns c = λ t l. rw c.from-2.ensures (ready_last t _ _ l _ _ _ (omega arith) (c.loop-token.invariant t l))
