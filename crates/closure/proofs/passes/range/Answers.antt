-- `closure::passes::range` meets its contract.
use native.Mathlib.Omega.{arith}
use lib.Seq.{length-take-le}
use Rattle.relation.specs.Table.{holds}
use Rattle.relation.proofs.Tables.{row_taken}
use Rattle.closure.proofs.Warshall.{ranged_none, ranged_next, ranged_end}
use Rattle.closure.proofs.passes.range.Goals as goal

pub loop-row-init : goal.loop-row-init
loop-row-init c = ranged_none (holds c.args.t.now) c.args.n

pub loop-row-preserved : goal.loop-row-preserved
unfolding holds
loop-row-preserved c =
    let l = c.loop-row in
    let (low, row) = row_taken c.args.t.now c.args.n l.row-index c.row-item.result (omega (arith, c.told-t, c.requires)) c.loop-row-test.true c.row-item.is in
    ranged_next (holds c.args.t.now) c.args.n l.jobs l.row-index l.invariant low c.union-jobs.result (rw row at c.union-jobs.ensures)

pub returns : goal.returns
returns c =
    let l = c.loop-row in
    ranged_end (holds c.args.t.now) c.args.n l.jobs l.row-index l.invariant
    (omega (arith, c.loop-row-test.false, length-take-le c.args.n c.args.t.now (omega (arith, c.told-t, c.requires))))
