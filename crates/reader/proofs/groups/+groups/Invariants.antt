-- The measure of the readers of groups is twice the bits left of the bytes, and one more for a reader of several children. The invariant of
-- the loops: some children are read, and what may stand there after them may stand after all.
use Rattle.poset.specs.Tree.{series, parallel}
use Rattle.reader.proofs.Calls.{child_measure, children_measure}
use Rattle.reader.proofs.Children.{Run}
use Rattle.reader.proofs.groups.+groups.Given as goal

abbrev pub decreases-chain : goal.decreases-chain
decreases-chain l = children_measure l.bytes.now l.done l.groups

abbrev pub decreases-chain_child : goal.decreases-chain_child
decreases-chain_child l = child_measure l.bytes.now l.done l.groups

abbrev pub decreases-side : goal.decreases-side
decreases-side l = children_measure l.bytes.now l.done l.groups

abbrev pub decreases-side_child : goal.decreases-side_child
decreases-side_child l = child_measure l.bytes.now l.done l.groups

abbrev pub invariant-chain-loop-i : goal.invariant-chain-loop-i
invariant-chain-loop-i l =
    Run series l.bytes l.count l.more l.done l.groups l.fn.lists l._i 0 0 l.lists l.here l.there l.part

abbrev pub invariant-side-loop-i : goal.invariant-side-loop-i
invariant-side-loop-i l =
    Run parallel l.bytes l.count l.more l.done l.groups l.fn.lists l._i l.size l.least l.lists l.here l.there l.part
