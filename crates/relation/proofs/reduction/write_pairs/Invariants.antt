-- `relation::reduction::write_pairs` meets its contract.
use Rattle.relation.proofs.Listing.{Laid}
use Rattle.relation.proofs.reduction.write_pairs.Given as goal

abbrev pub invariant-loop-u : goal.invariant-loop-u
invariant-loop-u l = Laid l.t l.n l.initial.area l.area l.at l.u
