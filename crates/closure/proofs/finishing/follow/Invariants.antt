-- `closure::finishing::follow` meets its contract.
use Rattle.relation.specs.Table.{holds}
use Rattle.closure.proofs.Search.{Searching, remaining}
use Rattle.closure.proofs.finishing.follow.Given as goal

abbrev pub invariant-loop-more : goal.invariant-loop-more
invariant-loop-more l =
    Searching (holds l.t) l.initial.made l.initial.left l.initial.joins l.made l.stack l.jobs l.met l.joins l.at l.depth

abbrev pub decreases-loop-more : goal.decreases-loop-more
decreases-loop-more l = remaining l.jobs l.depth
