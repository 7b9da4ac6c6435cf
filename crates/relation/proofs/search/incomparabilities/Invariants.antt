-- `relation::search::incomparabilities` meets its contract.
use Prim.Native.Nat.{◌-◌}
use Rattle.relation.specs.Table.{holds, apart}
use Rattle.relation.proofs.Tables.{Filled}
use Rattle.relation.proofs.search.incomparabilities.Given as goal

abbrev pub invariant-loop-u : goal.invariant-loop-u
invariant-loop-u l = Filled (apart l.n (holds l.after)) l.r l.n l.u

abbrev pub decreases-loop-u : goal.decreases-loop-u
decreases-loop-u l = l.n - l.u
