-- `relation::search::first_n` meets its contract.
use Prim.Native.Nat.{◌-◌}
use Rattle.poset.proofs.Searches.{at_a}
use Rattle.relation.specs.Table.{holds}
use Rattle.relation.proofs.Lists.{Looked}
use Rattle.relation.proofs.search.first_n.Given as goal

abbrev pub invariant-loop-a : goal.invariant-loop-a
invariant-loop-a l = Looked (at_a l.n (holds l.after)) l.n l.a

abbrev pub decreases-loop-a : goal.decreases-loop-a
decreases-loop-a l = l.n - l.a
