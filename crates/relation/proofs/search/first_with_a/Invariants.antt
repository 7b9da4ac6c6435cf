-- `relation::search::first_with_a` meets its contract.
use lib.ListN.{length}
use Rattle.relation.specs.Table.{holds, members}
use Rattle.relation.proofs.Sought.{Beside}
use Rattle.relation.proofs.search.first_with_a.Given as goal

abbrev pub invariant-loop-b : goal.invariant-loop-b
invariant-loop-b l = Beside l.n (holds l.after) l.a l.bs

abbrev pub decreases-loop-b : goal.decreases-loop-b
decreases-loop-b l = length (members l.bs)
