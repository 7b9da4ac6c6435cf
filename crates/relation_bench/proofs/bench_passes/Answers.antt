-- `relation_bench::bench_passes` meets its contract.
use native.Mathlib.Omega.{arith}
use mathlib.Core.Path.{◌≡◌, sym, ◌∙◌}
use mathlib.Core.Bool.{true}
use Rattle.relation.specs.Arcs.{pairs}
use Rattle.relation_bench.specs.Steps.{fits}
use Rattle.relation_bench.proofs.Refusals.{fits_within, fits_inside, passes_unfit, passes_fit}
use Rattle.relation_bench.proofs.bench_passes.Goals.{Else-not-fits}
use Rattle.relation_bench.proofs.bench_passes.Goals as goal

-- the arcs fit
fit : (c : goal.Else-not-fits) → fits c.args.n (pairs c.args.arcs.now) ≡ true
fit c = sym c.fits.ensures ∙ c.if-not-fits.false

pub returns-then-not-fits : goal.returns-then-not-fits
returns-then-not-fits c =
    let a = c.args in
    passes_unfit a.n (pairs a.arcs.now) (sym c.fits.ensures ∙ c.if-not-fits.true)

pub table_of-table-requires : goal.table_of-table-requires
table_of-table-requires c = λ a m. let w = fits_within _ _ (fit (goal.at.table_of-table-requires c).Else-not-fits) in omega (arith, w.1 a m, w.0)

pub passed-requires : goal.passed-requires
passed-requires c =
    let e = fits_inside _ _ (fit (goal.at.passed-requires c).Else-not-fits) c.table_of-table.result c.table_of-table.ensures in
    record { n_bound = rw c.from.ensures e.0; inside = rw c.from.ensures e.1 }

pub loop-init : goal.loop-init
loop-init c = rw (← c.from.ensures) c.passed.ensures.joins_after

pub passed-requires-in-loop : goal.passed-requires-in-loop
passed-requires-in-loop c =
    let e = fits_inside _ _ (fit (goal.at.passed-requires-in-loop c).Else-not-fits) c.table_of-table.result c.table_of-table.ensures in
    record { n_bound = rw c.from-in-loop.ensures e.0; inside = rw c.from-in-loop.ensures e.1 }

pub loop-preserved : goal.loop-preserved
loop-preserved c = rw (← c.from-in-loop.ensures) c.passed-in-loop.ensures.joins_after

pub returns : goal.returns
returns c =
    c.loop.invariant ∙ passes_fit _ _ (fit (goal.at.returns c).Else-not-fits) c.table_of-table.result c.table_of-table.ensures
