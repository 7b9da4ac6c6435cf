-- `parts::outranks` meets its contract.
use mathlib.Core.Path.{sym}
use Rattle.poset.proofs.Ranks.{rank_same, rank_other}
use Rattle.reader.proofs.parts.outranks.Goals as goal

pub returns-then-size-jobs : goal.returns-then-size-jobs
returns-then-size-jobs c = sym (rank_same _ _ _ _ c.if-size-jobs.true)

pub returns-else-size-jobs : goal.returns-else-size-jobs
returns-else-size-jobs c = sym (rank_other _ _ _ _ c.if-size-jobs.false)
