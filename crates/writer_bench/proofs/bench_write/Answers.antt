-- `writer_bench::bench_write` meets its contract.
use Prim.Native.Nat.{◌*◌, ◌≤◌}
use native.Mathlib.Omega.{arith}
use mathlib.Core.Path.{◌≡◌, sym, ap, ◌∙◌}
use mathlib.Core.Bool.{true}
use Rattle.poset.specs.Order.{before}
use Rattle.poset.specs.Decompose.{tree_of}
use Rattle.relation.specs.Arcs.{pairs}
use Rattle.relation_bench.specs.Steps.{fits, acyclic}
use Rattle.relation_bench.proofs.Refusals.{fits_within, acyclic_strict}
use Rattle.writer.specs.Written.{written}
use Rattle.writer_bench.specs.Rounds.{count_of, alike}
use Rattle.writer_bench.proofs.Sums.{no_job, many_rounds, unfit, cyclic, all_written, alike_below}
use Rattle.writer_bench.proofs.bench_write.Goals.{Else-not-fits, Else-not-acyclic}
use Rattle.writer_bench.proofs.bench_write.Goals as goal

-- the arcs fit
module _ (c : goal.Else-not-fits) where
  one : 1 ≤ c.args.n
  one = omega (arith, c.if-n-lt1.false)

  few : c.args.rounds ≤ 1000000
  few = omega (arith, c.if-rounds-gt1000000.false)

  fit : fits c.args.n (pairs c.args.arcs.now) ≡ true
  fit = sym c.fits.ensures ∙ c.if-not-fits.false

  small : c.args.n ≤ 128
  small = (fits_within c.args.n (pairs c.args.arcs.now) fit).0

-- their closure has no cycle
order : (c : goal.Else-not-acyclic) → acyclic c.args.n (before c.args.n (pairs c.args.arcs.now)) ≡ true
order c =
    sym (rw c.from-jobs.ensures at c.acyclic.ensures ∙ ap (acyclic c.args.n) (rw c.from-jobs.ensures at c.closed-after.ensures.result_value))
    ∙ c.if-not-acyclic.false

pub returns-then-n-lt1 : goal.returns-then-n-lt1
returns-then-n-lt1 c =
    let a = c.args in
    no_job a.rounds a.n (pairs a.arcs.now) (omega (arith, c.if-n-lt1.true))

pub returns-then-rounds-gt1000000 : goal.returns-then-rounds-gt1000000
returns-then-rounds-gt1000000 c =
    let a = c.args in
    many_rounds a.rounds a.n (pairs a.arcs.now) (omega (arith, c.if-n-lt1.false)) (omega (arith, c.if-rounds-gt1000000.true))

pub returns-then-not-fits : goal.returns-then-not-fits
returns-then-not-fits c =
    let a = c.args in
    unfit a.rounds a.n (pairs a.arcs.now) (omega (arith, c.if-n-lt1.false)) (omega (arith, c.if-rounds-gt1000000.false))
    (sym c.fits.ensures ∙ c.if-not-fits.true)

pub closed-after-requires : goal.closed-after-requires
closed-after-requires c =
    let e = fits_within c.args.n (pairs c.args.arcs.now) (fit (goal.at.closed-after-requires c).Else-not-fits) in
    record { n_bound = rw c.from-jobs.ensures e.0; within = rw c.from-jobs.ensures e.1 }

pub acyclic-requires : goal.acyclic-requires
acyclic-requires c = rw c.from-jobs.ensures (small (goal.at.acyclic-requires c).Else-not-fits)

pub returns-then-not-acyclic : goal.returns-then-not-acyclic
returns-then-not-acyclic c =
    let a = c.args in
    let w = (goal.at.returns-then-not-acyclic c).Else-not-fits in
    cyclic a.rounds a.n (pairs a.arcs.now) (one w) (few w) (fit w)
    (sym (rw c.from-jobs.ensures at c.acyclic.ensures ∙ ap (acyclic a.n) (rw c.from-jobs.ensures at c.closed-after.ensures.result_value))
    ∙ c.if-not-acyclic.true)

pub transposed-under-requires : goal.transposed-under-requires
transposed-under-requires c =
    record { n_bound = rw c.from-jobs.ensures (small (goal.at.transposed-under-requires c).Else-not-fits); inside = c.closed-after.ensures.inside }

pub repeated-requires : goal.repeated-requires
repeated-requires c =
    let a = c.args in
    let w = (goal.at.repeated-requires c).Else-not-fits in
    let e = c.closed-after.ensures in
    record {
      n_nonzero = (rw c.from-jobs.ensures (omega (arith, one w)), rw c.from-jobs.ensures (small w), few w);
      strict = rw (e.result_value, c.from-jobs.ensures) (acyclic_strict a.n (pairs a.arcs.now) (order (goal.at.repeated-requires c).Else-not-acyclic));
      inside = e.inside;
      by_index = c.transposed-under.ensures;
      all_below = alike_below a.n (small w);
    }

pub returns : goal.returns
returns c =
    let a = c.args in
    let w = (goal.at.returns c).Else-not-fits in
    rw c.from-jobs.ensures at c.repeated.ensures
    ∙ ap (λ r. a.rounds * count_of (written a.n (alike a.n) (tree_of a.n r))) (rw c.from-jobs.ensures at c.closed-after.ensures.result_value)
    ∙ all_written a.rounds a.n (pairs a.arcs.now) (one w) (few w) (fit w) (order (goal.at.returns c).Else-not-acyclic)
