-- `relation::reduction::beyond` meets its contract.
use lib.ListN.{length}
use Rattle.relation.specs.Table.{holds, members}
use Rattle.relation.proofs.Covers.{Swept}
use Rattle.relation.proofs.reduction.beyond.Given as goal

abbrev pub invariant-loop-rest : goal.invariant-loop-rest
invariant-loop-rest l = Swept l.n (holds l.t) l.u l.far l.rest

abbrev pub decreases-loop-rest : goal.decreases-loop-rest
decreases-loop-rest l = length (members l.rest)
