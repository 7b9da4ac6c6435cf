-- `relation::reduction::write_each` meets its contract.
use lib.ListN.{length}
use Rattle.relation.specs.Table.{members}
use Rattle.relation.proofs.Listing.{Lined}
use Rattle.relation.proofs.reduction.write_each.Given as goal

abbrev pub invariant-loop-v : goal.invariant-loop-v
invariant-loop-v l = Lined l.u l.at l.initial.rest l.initial.area l.area l.k l.rest

abbrev pub decreases-loop-v : goal.decreases-loop-v
decreases-loop-v l = length (members l.rest)
