-- `relation::arcs::first_outside` meets its contract.
use borrow.Author.Rules.{rules}
use Rattle.relation.specs.Arcs.{pairs, outside}
use Rattle.relation.proofs.Flat.{nowhere, none_outside}
use Rattle.relation.proofs.arcs.first_outside.Goals as goal

pub returns-then-greatest-n : goal.returns-then-greatest-n
returns-then-greatest-n c =
    let a = c.args in
    nowhere (outside a.n) (pairs a.arcs.now) (none_outside a.n _ a.arcs.now c.greatest.ensures c.if-greatest-n.true)

pub returns : goal.returns
unfolding outside
returns c = c.first_that.ensures (outside c.args.n) (λ u v b e. search rules)
