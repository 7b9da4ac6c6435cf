-- `closure::passes::split` meets its contract.
use Prim.Native.Nat.{◌-◌}
use Rattle.closure.proofs.Columns.{Worked, Word}
use Rattle.closure.proofs.passes.split.Given as goal

abbrev pub invariant-loop-i : goal.invariant-loop-i
invariant-loop-i l = Worked (Word l.t 0) l.initial.low l.low l.n l.i × Worked (Word l.t 1) l.initial.high l.high l.n l.i

abbrev pub decreases-loop-i : goal.decreases-loop-i
decreases-loop-i l = l.n - l.i
