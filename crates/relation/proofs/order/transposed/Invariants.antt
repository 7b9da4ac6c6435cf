-- `relation::order::transposed` meets its contract.
use Prim.Native.Nat.{◌-◌}
use Rattle.relation.proofs.Exchanging.{Turned}
use Rattle.relation.proofs.order.transposed.Given as goal

abbrev pub invariant-loop-e : goal.invariant-loop-e
invariant-loop-e l = Turned l.initial.r l.r l.w l.e

abbrev pub decreases-loop-e : goal.decreases-loop-e
decreases-loop-e l = l.w - l.e
