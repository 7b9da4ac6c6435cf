-- `closure::passes::passed` meets its contract.
use Prim.Native.Nat.{◌-◌}
use Rattle.closure.specs.Columns.{columns}
use Rattle.closure.proofs.Warshall.{Closed}
use Rattle.closure.proofs.passes.passed.Given as goal

abbrev pub invariant-loop-k : goal.invariant-loop-k
invariant-loop-k l = Closed (columns l.initial.low l.initial.high) l.low l.high l.n l.count l.k

abbrev pub decreases-loop-k : goal.decreases-loop-k
decreases-loop-k l = l.n - l.k
