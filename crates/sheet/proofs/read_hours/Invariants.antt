-- `sheet::read_hours` meets its contract. The loop's invariant: the hours ahead of `at` are read and listed. Assumes nothing.
use Rattle.sheet.proofs.Hours.{Timing}
use Rattle.sheet.proofs.read_hours.Given as goal

abbrev pub invariant-loop-job : goal.invariant-loop-job
invariant-loop-job l = Timing l.s l.count l.initial.hours l.hours l.at l.job
