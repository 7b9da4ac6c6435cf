-- `relation::reduction::reduced` meets its contract.
use Rattle.poset.specs.Order.{covers}
use Rattle.relation.specs.Table.{holds}
use Rattle.relation.proofs.Tables.{Filled}
use Prim.Native.Nat.{◌-◌}
use Rattle.relation.proofs.reduction.reduced.Given as goal

abbrev pub invariant-loop-u : goal.invariant-loop-u
invariant-loop-u l = Filled (covers l.n (holds l.t)) l.r l.n l.u

abbrev pub decreases-loop-u : goal.decreases-loop-u
decreases-loop-u l = l.n - l.u
