-- `closure::passes::table` meets its contract.
use Prim.Native.Nat.{◌-◌}
use Rattle.closure.specs.Columns.{columns}
use Rattle.relation.proofs.Tables.{Filled}
use Rattle.closure.proofs.passes.table.Given as goal

abbrev pub invariant-loop-i : goal.invariant-loop-i
invariant-loop-i l = Filled (columns l.low l.high) l.r l.n l.i

abbrev pub decreases-loop-i : goal.decreases-loop-i
decreases-loop-i l = l.n - l.i
