-- `closure::passes::spread` meets its contract.
use Prim.Native.Nat.{◌-◌}
use mathlib.Core.Path.{◌≡◌}
use Rattle.closure.proofs.Columns.{Worked, Grown, tally}
use Rattle.closure.proofs.passes.spread.Given as goal

abbrev pub invariant-loop-i : goal.invariant-loop-i
invariant-loop-i l =
    Worked (Grown l.initial.col l.at l.a l.initial.col) l.initial.col l.col l.n l.i
    × Worked (Grown l.initial.col l.at l.b l.initial.other) l.initial.other l.other l.n l.i × (l.joins ≡ tally l.initial.col l.at l.i)

abbrev pub decreases-loop-i : goal.decreases-loop-i
decreases-loop-i l = l.n - l.i
