-- `relation::reduction::inhabited_rows` meets its contract.
use Rattle.relation.specs.Table.{holds}
use Rattle.relation.proofs.Tables.{row_read}
use Rattle.relation.proofs.Covers.{chosen_none, chosen_next, chosen_end}
use borrow.Author.Rules.{rules}
use Rattle.relation.proofs.reduction.inhabited_rows.Invariants.{some}
use Rattle.relation.proofs.reduction.inhabited_rows.Goals as goal

pub loop-u-init : goal.loop-u-init
loop-u-init c = chosen_none (some c.args.t.now) c.args.start c.args.end (search rules)

pub loop-u-preserved : goal.loop-u-preserved
unfolding holds
loop-u-preserved c =
    let l = c.loop-u in
    let a = c.args in
    let e = row_read a.t.now l.u c.index-t-u.result (search rules) in
    chosen_next (some a.t.now) a.start a.end l.jobs l.u l.invariant (search rules) (search rules) _ c.mask.result
    (rw e at c.inhabited.ensures) c.mask.ensures

pub returns : goal.returns
returns c =
    let l = c.loop-u in
    let a = c.args in
    chosen_end (some a.t.now) a.start a.end l.jobs l.u l.invariant c.loop-u-test.false
