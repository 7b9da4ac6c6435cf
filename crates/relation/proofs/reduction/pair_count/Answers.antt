-- `relation::reduction::pair_count` meets its contract.
use native.Mathlib.Omega.{arith}
use lib.Seq.{length-take-le}
use Rattle.relation.proofs.Tables.{row_taken}
use Rattle.relation.proofs.Listing.{counted_none, counted_next, counted_end}
use Rattle.relation.proofs.reduction.pair_count.Goals as goal

pub loop-row-init : goal.loop-row-init
loop-row-init c = counted_none c.args.t.now c.args.n

pub overflow_add-count : goal.overflow_add-count
overflow_add-count c = omega (arith, c.size-count.ensures.1, c.loop-row.invariant.small)

-- the row that is next is that of the job of this number, below n
pub loop-row-preserved : goal.loop-row-preserved
loop-row-preserved c =
    let l = c.loop-row in
    let (low, e) = row_taken c.args.t.now c.args.n l.row-index c.row-item.result (omega (arith, c.told-t, c.requires.n_bound)) c.loop-row-test.true c.row-item.is in
    counted_next c.args.t.now c.args.n l.count l.row-index l.invariant c.requires.n_bound c.requires.inside low _
    (rw e at c.size-count.ensures.0) c.size-count.ensures.1

pub returns : goal.returns
returns c =
    counted_end c.args.t.now c.args.n _ _ c.loop-row.invariant
    (omega (arith, c.loop-row-test.false, length-take-le c.args.n c.args.t.now (omega (arith, c.told-t, c.requires.n_bound))))
