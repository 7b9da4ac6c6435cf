-- `relation::arcs::greatest` meets its contract.
use Rattle.relation.proofs.Flat.{Bounded}
use Rattle.relation.proofs.arcs.greatest.Given as goal

abbrev pub invariant-loop-number : goal.invariant-loop-number
invariant-loop-number l = Bounded l.list l.top l.number-index
