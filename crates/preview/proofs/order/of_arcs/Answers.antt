-- `order::of_arcs` meets its contract: the closure's first job before itself decides between 7 and the rest.
use mathlib.Core.Path.{◌≡◌, sym, ap, ◌∙◌}
use mathlib.Core.List.{◌++◌}
use Rattle.poset.specs.Order.{Strict}
use Rattle.relation.specs.Arcs.{pairs}
use Rattle.relation.specs.Table.{holds, Inside}
use Rattle.relation.proofs.Chain.{table_inside}
use Rattle.analysis.specs.Outcome.{decomposed}
use Rattle.analysis.proofs.Circles.{circle_outcome, order_outcome, closes, circle_of, order_asks}
use Rattle.preview.proofs.Answering.{same_answer, told_refused}
use Rattle.preview.proofs.order.of_arcs.Goals as goal
use Rattle.preview.proofs.order.of_arcs.Goals.{In_default}

-- what is asked of an order is so of the closure
asked : (c : goal.In_default) → Strict c.args.n (holds c.transitive_closure-after.result) × Inside c.args.n c.transitive_closure-after.result
asked c =
    let arcs = pairs c.args.list.now ++ pairs c.args.last.now in
    order_asks c.args.n arcs c.table_of.result _ c.table_of.ensures c.transitive_closure-after.ensures.by_index
    (table_inside c.args.n arcs c.table_of.result c.table_of.ensures c.requires.within) c.in_default.ensures

pub transitive_closure-after-requires-clause-inside : goal.transitive_closure-after-requires-clause-inside
transitive_closure-after-requires-clause-inside c =
    table_inside c.args.n (pairs c.args.list.now ++ pairs c.args.last.now) c.table_of.result c.table_of.ensures c.requires.within

pub returns-in-Some : goal.returns-in-Some
returns-in-Some c =
    let arcs = pairs c.args.list.now ++ pairs c.args.last.now in
    told_refused (circle_outcome _ _ _ _
    (circle_of c.args.n arcs c.table_of.result _ c.table_of.ensures c.transitive_closure-after.ensures.by_index c.in-Some.ensures))

pub of_order-requires : goal.of_order-requires
of_order-requires c =
    let a = asked (goal.at.of_order-requires c).In_default in
    record { n_nonzero = c.requires.n_nonzero; strict = a.0; inside = a.1; hours_len = c.requires.hours_len }

pub returns : goal.returns
returns c =
    let arcs = pairs c.args.list.now ++ pairs c.args.last.now in
    let closed = c.transitive_closure-after.ensures.by_index in
    c.of_order.ensures
    ∙ same_answer (ap (decomposed _ _ _) (closes c.args.n arcs c.table_of.result _ c.table_of.ensures closed)
    ∙ sym (order_outcome _ _ _ _ (circle_of c.args.n arcs c.table_of.result _ c.table_of.ensures closed c.in_default.ensures)))
