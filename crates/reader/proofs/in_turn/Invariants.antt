-- The invariant of `in_turn`: the jobs passed are written, and the walk from the present one is what is left of it.
use Prim.Native.Nat.{◌-◌}
use Rattle.reader.proofs.Walks.{Walked}
use Rattle.reader.proofs.in_turn.Given as goal

abbrev pub invariant-loop-i : goal.invariant-loop-i
invariant-loop-i l = Walked l.next l.first l.count l.i l.job l.jobs

abbrev pub decreases-loop-i : goal.decreases-loop-i
decreases-loop-i l = l.count - l.i
