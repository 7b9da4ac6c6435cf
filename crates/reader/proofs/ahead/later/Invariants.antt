-- The invariant of `ahead::later`: the jobs from the one that was taken last on are passed.
use Prim.Native.Nat.{◌-◌}
use lib.ListN.{length}
use Rattle.reader.proofs.Later.{Passed, later_from}
use Rattle.reader.proofs.ahead.later.Given as goal

abbrev pub invariant-loop-job : goal.invariant-loop-job
invariant-loop-job l = Passed (later_from l.jobs) l.jobs (length l.jobs - length l.yielded) l.rows l.passed
