-- `relation::arcs::first_that` meets its contract.
use native.Mathlib.Omega.{arith}
use mathlib.Core.Path.{sym, ◌∙◌}
use Rattle.relation.proofs.Flat.{searched_none, searched_hit, searched_next, searched_end}
use Rattle.relation.proofs.arcs.first_that.Goals as goal

pub loop-k-init : goal.loop-k-init
loop-k-init g c = λ p h. searched_none p c.args.arcs.now

pub returns-then-test : goal.returns-then-test
returns-then-test g c =
    λ p h.
    searched_hit p c.args.arcs.now c.loop-k.k (c.loop-k.invariant p h) (omega arith) (sym (h _ _ _ c.test.ensures) ∙ c.if-test.true)

pub loop-k-preserved : goal.loop-k-preserved
loop-k-preserved g c =
    λ p h.
    searched_next p c.args.arcs.now c.loop-k.k (c.loop-k.invariant p h) (omega arith) (sym (h _ _ _ c.test.ensures) ∙ c.if-test.false)

pub returns : goal.returns
returns g c = λ p h. searched_end p c.args.arcs.now c.loop-k.k (c.loop-k.invariant p h) (omega arith)
