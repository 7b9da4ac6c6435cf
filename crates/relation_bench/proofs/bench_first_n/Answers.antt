-- `relation_bench::bench_first_n` meets its contract.
use mathlib.Core.Path.{◌≡◌, sym, ap, ◌∙◌}
use mathlib.Core.Bool.{true}
use Rattle.poset.specs.Order.{first_n_of}
use Rattle.relation.specs.Arcs.{pairs}
use Rattle.relation_bench.specs.Steps.{fits, packed}
use Rattle.relation_bench.proofs.Refusals.{fits_within, packed_unfit, packed_fit}
use Rattle.relation_bench.proofs.bench_first_n.Goals.{Else-not-fits}
use Rattle.relation_bench.proofs.bench_first_n.Goals as goal

-- the arcs fit
fit : (c : goal.Else-not-fits) → fits c.args.n (pairs c.args.arcs.now) ≡ true
fit c = sym c.fits.ensures ∙ c.if-not-fits.false

pub returns-then-not-fits : goal.returns-then-not-fits
returns-then-not-fits c =
    let a = c.args in
    packed_unfit a.n (pairs a.arcs.now) (sym c.fits.ensures ∙ c.if-not-fits.true)

pub closed-after-requires : goal.closed-after-requires
closed-after-requires c =
    let e = fits_within _ _ (fit (goal.at.closed-after-requires c).Else-not-fits) in
    record { n_bound = rw c.from.ensures e.0; within = rw c.from.ensures e.1 }

pub searched-requires : goal.searched-requires
searched-requires c = record {
  n_bound = rw c.from-2.ensures (fits_within _ _ (fit (goal.at.searched-requires c).Else-not-fits)).0;
  inside = rw (c.from-2.ensures, ← c.from.ensures) c.closed-after.ensures.inside;
}

pub returns : goal.returns
returns c =
    let a = c.args in
    rw c.from-2.ensures at c.searched.ensures
    ∙ ap (λ r. packed (first_n_of a.n r)) (rw c.from.ensures at c.closed-after.ensures.result_value)
    ∙ packed_fit a.n (pairs a.arcs.now) (fit (goal.at.returns c).Else-not-fits)
