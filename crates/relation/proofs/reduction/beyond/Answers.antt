-- `relation::reduction::beyond` meets its contract.
use mathlib.Core.Path.{sym, ◌∙◌}
use borrow.Author.Rules.{rules}
use Rattle.relation.proofs.Tables.{has_blank, row_read}
use Rattle.relation.specs.Table.{holds}
use Rattle.relation.proofs.Covers.{Swept-none, swept_next, swept_less, swept_end}
use Rattle.relation.proofs.reduction.beyond.Goals as goal

pub loop-rest-init : goal.loop-rest-init
unfolding holds
loop-rest-init c =
    let e = row_read c.args.t.now c.args.u c.index-t-u.result (search rules) in
    Swept-none c.args.n (holds c.args.t.now) c.args.u c.requires.strict c.requires.inside c.requires.n_bound.0 _ _ c.args.dom has_blank
    c.requires.by_index (rw e at c.intersection-rest.ensures)

pub smallest-w-requires : goal.smallest-w-requires
smallest-w-requires c = sym c.inhabited.ensures ∙ c.loop-rest-test.true

pub largest-x-requires : goal.largest-x-requires
largest-x-requires c = sym c.inhabited.ensures ∙ c.loop-rest-test.true

pub without_smallest-requires : goal.without_smallest-requires
without_smallest-requires c =
    sym c.inhabited.ensures ∙ c.loop-rest-test.true

pub loop-rest-smaller : goal.loop-rest-smaller
loop-rest-smaller c =
    swept_less c.loop-rest.rest _ _ _ _ c.smallest-w.ensures c.without_smallest.ensures c.difference-rest.ensures

pub loop-rest-preserved : goal.loop-rest-preserved
unfolding holds
loop-rest-preserved c =
    let l = c.loop-rest in
    let t = c.args.t.now in
    let w = row_read t c.smallest-w.result c.index-t-w.result (search rules) in
    let x = row_read t c.largest-x.result c.index-t-x.result (search rules) in
    swept_next c.args.n (holds c.args.t.now) c.args.u c.requires.strict c.requires.inside l.far l.rest l.invariant _ _
    c.smallest-w.ensures c.largest-x.ensures.member _ _ _ _ (rw w at c.union.ensures) (rw x at c.union-joined.ensures)
    c.without_smallest.ensures c.difference-rest.ensures

pub returns : goal.returns
returns c =
    let l = c.loop-rest in
    swept_end c.args.n (holds c.args.t.now) c.args.u c.requires.strict c.requires.inside l.far l.rest l.invariant c.requires.n_bound.0
    (sym c.inhabited.ensures ∙ c.loop-rest-test.false)
