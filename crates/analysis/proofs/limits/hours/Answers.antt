-- `limits::hours` meets its contract: how many hours there are decides 12, the first that is too large 13.
use mathlib.Core.Path.{sym, ◌∙◌}
use Rattle.analysis.proofs.Steps.{timed_12, timed_13}
use Rattle.analysis.proofs.limits.hours.Goals as goal

pub returns-then-hours-from : goal.returns-then-hours-from
returns-then-hours-from c = λ rs arcs. timed_12 _ _ _ _ (λ e. c.if-hours-from.true (e ∙ sym c.from.ensures))

pub returns-in-Some : goal.returns-in-Some
returns-in-Some c = λ rs arcs. timed_13 _ _ _ _ _ (c.if-hours-from.false ∙ c.from.ensures) (sym c.in-Some.ensures)
