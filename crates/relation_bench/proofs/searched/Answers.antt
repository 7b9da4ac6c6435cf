-- `relation_bench::searched` meets its contract.
use mathlib.Core.Path.{sym, ap, ◌∙◌}
use Rattle.relation_bench.specs.Steps.{packed}
use Rattle.relation_bench.proofs.searched.Goals as goal

pub returns-in-Some : goal.returns-in-Some
unfolding packed
returns-in-Some c = ap packed (sym c.in-Some.is ∙ c.first_n.ensures)

pub returns-in-None : goal.returns-in-None
unfolding packed
returns-in-None c = ap packed (sym c.in-None.is ∙ c.first_n.ensures)
