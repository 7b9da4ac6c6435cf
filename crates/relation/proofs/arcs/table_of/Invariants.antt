-- `relation::arcs::table_of` meets its contract.
use Prim.Native.Nat.{◌-◌}
use Rattle.relation.proofs.Flat.{Built}
use Rattle.relation.proofs.arcs.table_of.Given as goal

abbrev pub invariant-loop-i : goal.invariant-loop-i
invariant-loop-i l = Built l.arcs l.quarter l.t l.i

abbrev pub decreases-loop-i : goal.decreases-loop-i
decreases-loop-i l = l.last - l.i
