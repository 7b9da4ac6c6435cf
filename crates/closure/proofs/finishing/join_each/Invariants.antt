-- `closure::finishing::join_each` meets its contract.
use lib.ListN.{length}
use Rattle.relation.specs.Table.{members}
use Rattle.closure.proofs.Joining.{Joined}
use Rattle.closure.proofs.finishing.join_each.Given as goal

abbrev pub invariant-loop-v : goal.invariant-loop-v
invariant-loop-v l = Joined l.rows l.initial.whole l.initial.rest l.initial.joins l.whole l.rest l.joins

abbrev pub decreases-loop-v : goal.decreases-loop-v
decreases-loop-v l = length (members l.rest)
