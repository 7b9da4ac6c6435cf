-- `relation::reduction::write_pairs` meets its contract.
use native.Mathlib.Omega.{arith}
use lib.Seq.{length-take-le}
use Rattle.relation.proofs.Tables.{row_taken}
use Rattle.relation.proofs.Listing.{laid_none, laid_room, Laid-next, laid_end}
use Rattle.relation.proofs.reduction.write_pairs.Goals as goal

pub loop-u-init : goal.loop-u-init
loop-u-init c = laid_none c.args.t.now c.args.n c.args.area.now

pub write_row-at-requires : goal.write_row-at-requires
write_row-at-requires c =
    let l = c.loop-u in
    let (low, e) = row_taken c.args.t.now c.args.n l.u c.row-item.result (omega (arith, c.told-t, c.requires.n_bound))
    c.loop-u-test.true c.row-item.is in (
      omega (arith, low, c.requires.n_bound),
      rw e (laid_room c.args.t.now c.args.n c.args.area.now l.area l.at l.u l.invariant c.requires.n_bound c.requires.inside low
          c.requires.t_in_bounds),
    )

pub loop-u-preserved : goal.loop-u-preserved
loop-u-preserved c =
    let l = c.loop-u in
    let (low, e) = row_taken c.args.t.now c.args.n l.u c.row-item.result (omega (arith, c.told-t, c.requires.n_bound))
    c.loop-u-test.true c.row-item.is in
    Laid-next c.args.t.now c.args.n c.args.area.now l.area l.at l.u l.invariant c.requires.n_bound c.requires.inside low _ _
    (rw e at c.write_row-at.ensures.value) (rw e at c.write_row-at.ensures.area_after)

pub shape_of-area : goal.shape_of-area
shape_of-area c = c.loop-u.invariant.size

pub returns : goal.returns
returns c =
    let l = c.loop-u in
    laid_end c.args.t.now c.args.n c.args.area.now l.area l.at l.u l.invariant c.requires.t_in_bounds
    (omega (arith, c.loop-u-test.false, length-take-le c.args.n c.args.t.now (omega (arith, c.told-t, c.requires.n_bound))))
