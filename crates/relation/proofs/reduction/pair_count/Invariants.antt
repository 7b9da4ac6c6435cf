-- `relation::reduction::pair_count` meets its contract.
use Rattle.relation.proofs.Listing.{Counted}
use Rattle.relation.proofs.reduction.pair_count.Given as goal

abbrev pub invariant-loop-row : goal.invariant-loop-row
invariant-loop-row l = Counted l.t l.n l.count l.row-index
