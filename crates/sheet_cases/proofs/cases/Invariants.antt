use Rattle.std.proofs.Common.{length}
use Rattle.sheet_cases.proofs.cases.Given as goal

abbrev pub decreases-loop-name : goal.decreases-loop-name
decreases-loop-name g l = length l.rest
