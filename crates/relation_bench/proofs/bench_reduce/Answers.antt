-- `relation_bench::bench_reduce` meets its contract.
use Prim.Native.Nat.{◌≤◌}
use native.Mathlib.Omega.{arith}
use mathlib.Core.Path.{◌≡◌, sym, ap, ◌∙◌}
use mathlib.Core.Bool.{true}
use lib.ListN.{length}
use Rattle.poset.specs.Order.{before, pairs_of, reduction}
use Rattle.poset.specs.Areas.{overlay, arc_bytes}
use Rattle.relation.specs.Table.{holds, Inside}
use Rattle.relation.specs.Arcs.{pairs}
use Rattle.relation.proofs.Chain.{reduced_inside}
use Rattle.relation_bench.specs.Steps.{fits, acyclic}
use Rattle.relation_bench.proofs.Refusals.{fits_within, acyclic_strict, covers_reduction}
use Rattle.relation_bench.proofs.Refusals.{no_arcs, reduced_unfit, reduced_cyclic, reduced_crowded, reduced_given}
use Rattle.relation_bench.proofs.bench_reduce.Goals as goal
use Rattle.relation_bench.proofs.bench_reduce.Goals.{Else-not-fits, After-acyclic, After-reduced-covers}

-- the arcs fit
module _ (c : goal.Else-not-fits) where
  fit : fits c.args.n (pairs c.args.arcs.now) ≡ true
  fit = sym c.fits.ensures ∙ c.if-not-fits.false

  small : c.args.n ≤ 128
  small = (fits_within c.args.n (pairs c.args.arcs.now) fit).0

-- their closure is looked through for a cycle
tested : (c : goal.After-acyclic) → c.acyclic.result ≡ acyclic c.args.n (before c.args.n (pairs c.args.arcs.now))
tested c = rw c.from-jobs.ensures at c.acyclic.ensures ∙ ap (acyclic c.args.n) (rw c.from-jobs.ensures at c.closed-after.ensures.result_value)

-- there is none, and the order is reduced
module _ (c : goal.After-reduced-covers) where
  order : acyclic c.args.n (before c.args.n (pairs c.args.arcs.now)) ≡ true
  order =
      sym (rw c.from-jobs.ensures at c.acyclic.ensures ∙ ap (acyclic c.args.n) (rw c.from-jobs.ensures at c.closed-after.ensures.result_value))
      ∙ c.if-not-acyclic.false

  inside : Inside c.args.n c.reduced-covers.result
  inside =
      reduced_inside c.args.n c.closed-after.result c.reduced-covers.result (rw c.from-jobs.ensures at c.closed-after.ensures.inside)
      (rw c.from-jobs.ensures at c.reduced-covers.ensures)

  same : pairs_of c.args.n (holds c.reduced-covers.result) ≡ reduction c.args.n (before c.args.n (pairs c.args.arcs.now))
  same =
      covers_reduction c.args.n (pairs c.args.arcs.now) c.closed-after.result c.reduced-covers.result
      (rw c.from-jobs.ensures at c.closed-after.ensures.result_value) (rw c.from-jobs.ensures at c.reduced-covers.ensures)

pub returns-then-not-fits : goal.returns-then-not-fits
returns-then-not-fits c =
    let a = c.args in
    let e = no_arcs a.area.now (reduced_unfit a.n (pairs a.arcs.now) (length a.area.now) (sym c.fits.ensures ∙ c.if-not-fits.true)) in
    record { value = e.0; area_after = e.1 }

pub closed-after-requires : goal.closed-after-requires
closed-after-requires c =
    let e = fits_within c.args.n (pairs c.args.arcs.now) (fit (goal.at.closed-after-requires c).Else-not-fits) in
    record { n_bound = rw c.from-jobs.ensures e.0; within = rw c.from-jobs.ensures e.1 }

pub acyclic-requires : goal.acyclic-requires
acyclic-requires c = rw c.from-jobs.ensures (small (goal.at.acyclic-requires c).Else-not-fits)

pub returns-then-not-acyclic : goal.returns-then-not-acyclic
returns-then-not-acyclic c =
    let a = c.args in
    let p = goal.at.returns-then-not-acyclic c in
    let e = no_arcs a.area.now
    (reduced_cyclic a.n (pairs a.arcs.now) (length a.area.now) (fit p.Else-not-fits) (sym (tested p.After-acyclic) ∙ c.if-not-acyclic.true)) in
    record { value = e.0; area_after = e.1 }

pub reduced-covers-requires : goal.reduced-covers-requires
reduced-covers-requires c =
    let p = goal.at.reduced-covers-requires c in
    let e = c.closed-after.ensures in
    record {
      n_bound = rw c.from-jobs.ensures (small p.Else-not-fits);
      strict = rw (e.result_value, c.from-jobs.ensures) (acyclic_strict c.args.n (pairs c.args.arcs.now) (sym (tested p.After-acyclic) ∙ c.if-not-acyclic.false));
      inside = e.inside;
    }

pub pair_count-count-requires : goal.pair_count-count-requires
pair_count-count-requires c =
    let p = goal.at.pair_count-count-requires c in
    record { n_bound = rw c.from-jobs.ensures (small p.Else-not-fits); inside = rw c.from-jobs.ensures (inside p.After-reduced-covers) }

pub returns-then-area-count : goal.returns-then-area-count
returns-then-area-count c =
    let a = c.args in
    let p = goal.at.returns-then-area-count c in
    let r = p.After-reduced-covers in
    let e = no_arcs a.area.now
    (reduced_crowded a.n (pairs a.arcs.now) (length a.area.now) (fit p.Else-not-fits) (order r)
    (omega (arith, c.if-area-count.true, rw c.from-jobs.ensures at c.pair_count-count.ensures, ap length (same r)))) in
    record { value = e.0; area_after = e.1 }

pub write_pairs-requires : goal.write_pairs-requires
write_pairs-requires c =
    let p = goal.at.write_pairs-requires c in
    record {
      n_bound = rw c.from-jobs.ensures (small p.Else-not-fits);
      inside = rw c.from-jobs.ensures (inside p.After-reduced-covers);
      t_in_bounds = omega (arith, c.if-area-count.false, c.pair_count-count.ensures);
    }

pub returns : goal.returns
returns c =
    let a = c.args in
    let p = goal.at.returns c in
    let r = p.After-reduced-covers in
    let e = same r
    ∙ reduced_given a.n (pairs a.arcs.now) (length a.area.now) (fit p.Else-not-fits) (order r)
    (omega (arith, c.if-area-count.false, rw c.from-jobs.ensures at c.pair_count-count.ensures, ap length (same r))) in
    record {
      value = rw c.from-jobs.ensures at c.pair_count-count.ensures ∙ ap length e;
      area_after = rw c.from-jobs.ensures at c.write_pairs.ensures ∙ ap (λ x. overlay (arc_bytes x) a.area.now) e;
    }
