-- `relation_bench::acyclic` meets its contract.
use mathlib.Core.Path.{◌≡◌, refl}
use mathlib.Core.Bool.{Bool, true, false, not}
use Rattle.relation_bench.specs.Steps.{acyclic}
use Rattle.relation_bench.proofs.acyclic.Goals as goal

twice : (b : Bool) → b ≡ not (not b)
twice true = refl
twice false = refl

pub returns : goal.returns
unfolding acyclic
returns c = rw (← c.first_on_cycle.ensures, c.is_none.ensures) (twice c.is_none.result)
