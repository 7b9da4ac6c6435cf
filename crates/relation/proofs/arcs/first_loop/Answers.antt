-- `relation::arcs::first_loop` meets its contract.
use borrow.Author.Rules.{rules}
use mathlib.Core.Path.{sym, ◌∙◌}
use Rattle.relation.specs.Arcs.{pairs, loop}
use Rattle.relation.proofs.Flat.{nowhere}
use Rattle.relation.proofs.arcs.first_loop.Goals as goal

pub returns-then-not-some_loop : goal.returns-then-not-some_loop
returns-then-not-some_loop c = nowhere loop (pairs c.args.arcs.now) (sym c.some_loop.ensures ∙ c.if-not-some_loop.true)

pub returns : goal.returns
unfolding loop
returns c = c.first_that.ensures loop (λ u v b e. search rules)
