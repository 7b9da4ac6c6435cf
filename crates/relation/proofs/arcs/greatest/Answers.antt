-- `relation::arcs::greatest` meets its contract.
use Rattle.relation.proofs.Flat.{bounded_none, bounded_next, bounded_end}
use borrow.Author.Rules.{rules}
use Rattle.relation.proofs.arcs.greatest.Goals as goal

pub loop-number-init : goal.loop-number-init
loop-number-init c = bounded_none c.args.list.now

pub loop-number-preserved : goal.loop-number-preserved
loop-number-preserved c =
    let l = c.loop-number in
    bounded_next c.args.list.now l.top l.number-index l.invariant (search rules) _ (search rules)

pub returns : goal.returns
returns c = bounded_end c.args.list.now c.loop-number.top c.loop-number.number-index c.loop-number.invariant c.loop-number-test.false
