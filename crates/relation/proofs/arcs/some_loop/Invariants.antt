-- `relation::arcs::some_loop` meets its contract.
use Rattle.relation.specs.Arcs.{loop}
use Rattle.relation.proofs.Flat.{Noticed}
use Rattle.relation.proofs.arcs.some_loop.Given as goal

abbrev pub invariant-loop-k : goal.invariant-loop-k
invariant-loop-k l = Noticed loop l.arcs l.some l.k
