-- `limits::counts` meets its contract: the count decides 3, how many arcs there are 4.
use mathlib.Core.Logic.{⊎_elim}
use native.Mathlib.Omega.{arith}
use Rattle.analysis.proofs.Steps.{some_jobs, count_none, count_above, count_many}
use Rattle.analysis.proofs.limits.counts.Goals as goal

pub returns-then-n-eq0 : goal.returns-then-n-eq0
returns-then-n-eq0 c = λ rs hours arcs size. ⊎_elim (λ e. count_none _ _ _ _ e) (λ l. count_above _ _ _ _ l.1) c.then-n-eq0.either

pub returns-then-count-gt4096 : goal.returns-then-count-gt4096
returns-then-count-gt4096 c =
    λ rs hours arcs size.
    count_many _ _ _ _ (some_jobs c.if-n-eq0.false) c.if-n-gt128.false (omega (arith, size, c.if-count-gt4096.true))
