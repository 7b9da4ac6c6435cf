-- `relation::arcs::some_loop` meets its contract.
use native.Mathlib.Omega.{arith}
use borrow.Author.Tests.{eq-eqb, ne_eqb}
use Rattle.relation.specs.Arcs.{loop}
use Rattle.relation.proofs.Flat.{noticed_none, noticed_hit, noticed_next, noticed_end}
use Rattle.relation.proofs.arcs.some_loop.Goals as goal
use Rattle.relation.proofs.arcs.some_loop.Goals.{then-arcs-k, else-arcs-k}

pub loop-k-init : goal.loop-k-init
loop-k-init c = noticed_none loop c.args.arcs.now

pub loop-k-preserved : goal.loop-k-preserved
unfolding loop
loop-k-preserved c =
    let l = c.loop-k in
    let xs = c.args.arcs.now in
    elim c.if-arcs-k.branch [
      | then-arcs-k w ↦ rw w.some-is (noticed_hit loop xs l.some l.k l.invariant (omega arith) (eq-eqb _ _ w.if-arcs-k.true))
      | else-arcs-k w ↦ rw w.some-is (noticed_next loop xs l.some l.k l.invariant (omega arith) (ne_eqb _ _ w.if-arcs-k.false))
    ]

pub returns : goal.returns
returns c = noticed_end loop c.args.arcs.now c.loop-k.some c.loop-k.k c.loop-k.invariant (omega arith)
