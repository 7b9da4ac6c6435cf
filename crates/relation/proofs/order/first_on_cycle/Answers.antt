-- `relation::order::first_on_cycle` meets its contract.
use mathlib.Core.Path.{sym, ◌∙◌}
use Rattle.poset.specs.Lists.{only_if}
use Rattle.poset.specs.Order.{first_on_cycle_of}
use Rattle.relation.specs.Table.{holds}
use Rattle.relation.proofs.Tables.{row_read}
use Rattle.relation.proofs.Lists.{looked_none, looked_hit, looked_next, looked_end}
use borrow.Author.Rules.{rules}
use Rattle.relation.proofs.order.first_on_cycle.Invariants.{at}
use Rattle.relation.proofs.order.first_on_cycle.Goals as goal

pub loop-u-init : goal.loop-u-init
loop-u-init c = looked_none (at c.args.t) c.args.n

pub returns-then-contains : goal.returns-then-contains
unfolding first_on_cycle_of holds only_if
returns-then-contains c =
    let e = row_read c.args.t c.loop-u.u c.index-t-u.result (search rules) in
    let found = sym c.contains.ensures ∙ c.if-contains.true in
    looked_hit (at c.args.t) c.args.n c.loop-u.u c.loop-u.invariant (search rules) (rw (rw e at found))

pub loop-u-preserved : goal.loop-u-preserved
unfolding first_on_cycle_of holds only_if
loop-u-preserved c =
    let e = row_read c.args.t c.loop-u.u c.index-t-u.result (search rules) in
    let missed = sym c.contains.ensures ∙ c.if-contains.false in
    looked_next (at c.args.t) c.args.n c.loop-u.u c.loop-u.invariant (search rules) (rw (rw e at missed))

pub returns : goal.returns
unfolding first_on_cycle_of holds only_if
returns c = looked_end (at c.args.t) c.args.n c.loop-u.u c.loop-u.invariant c.loop-u-test.false
