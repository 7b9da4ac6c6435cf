-- `sheet::lines_until` meets its contract. The loop's invariant: the arcs ahead of `at` are read and listed. Assumes nothing.
use Rattle.std.proofs.Common.{◌-◌, length}
use Rattle.sheet.proofs.Lines.{Going}
use Rattle.sheet.proofs.lines_until.Given as goal

abbrev pub invariant-loop-at : goal.invariant-loop-at
invariant-loop-at l = Going l.s l.ahead l.initial.list l.list l.at l.arcs

abbrev pub decreases-loop-at : goal.decreases-loop-at
decreases-loop-at l = length l.s - l.at
