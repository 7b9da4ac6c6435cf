-- `OuterGroups::go_on` meets its contract.
use native.Mathlib.Omega.{arith}
use Rattle.gangs.proofs.Placing.{gone_none, gone_ended, gone_out, gone_next, gone_shallow}
use Rattle.gangs.proofs.numbering.OuterGroups.go_on.Goals as goal

pub loop-here-init : goal.loop-here-init
loop-here-init c = λ t o os d. gone_none t _ o os d

pub returns-then-self-eq0 : goal.returns-then-self-eq0
returns-then-self-eq0 c = λ t o os d. gone_ended t _ o os (c.loop-here.invariant t o os d) c.loop-here-test.true c.if-self-eq0.true

pub leave-here-requires : goal.leave-here-requires
leave-here-requires c =
    let (t, o, os, d) = c.requires in
    (omega (arith, c.if-self-eq0.false), gone_shallow t _ o os (c.loop-here.invariant t o os d))

pub loop-here-smaller : goal.loop-here-smaller
loop-here-smaller c = omega (arith, c.leave-here.ensures.depth_is)

pub loop-here-preserved : goal.loop-here-preserved
loop-here-preserved c = λ t o os d.
    gone_out t _ o os (c.loop-here.invariant t o os d) _ c.loop-here-test.true c.if-self-eq0.false c.leave-here.ensures

pub next_child-requires : goal.next_child-requires
next_child-requires c = omega (arith, c.loop-here-test.false)

pub returns : goal.returns
returns c = λ t o os d.
    gone_next t _ o os (c.loop-here.invariant t o os d) _ c.loop-here-test.false c.next_child.ensures
