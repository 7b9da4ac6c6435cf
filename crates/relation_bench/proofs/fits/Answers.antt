-- `relation_bench::fits` meets its contract.
use Rattle.relation_bench.specs.Steps.{fits}
use Rattle.relation_bench.proofs.fits.Goals as goal

pub returns-then-is_none : goal.returns-then-is_none
unfolding fits
returns-then-is_none c = rw (← c.first_outside.ensures, c.is_none.ensures, c.if-is_none.true)

pub returns-else-is_none : goal.returns-else-is_none
unfolding fits
returns-else-is_none c = rw (← c.first_outside.ensures, c.is_none.ensures, c.if-is_none.false)
