-- `closure::passes::range` meets its contract.
use Rattle.relation.specs.Table.{holds}
use Rattle.closure.proofs.Warshall.{Ranged}
use Rattle.closure.proofs.passes.range.Given as goal

abbrev pub invariant-loop-row : goal.invariant-loop-row
invariant-loop-row l = Ranged (holds l.t) l.jobs l.n l.row-index
