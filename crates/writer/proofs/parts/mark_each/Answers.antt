-- `parts::mark_each`: the number at job after job, until none is left.
use Rattle.relation.proofs.Sets.{members_less}
use Rattle.writer.proofs.Numbering.{marking_start, marking_next, marking_end}
use Rattle.writer.proofs.parts.mark_each.Goals as goal

pub loop-y-init : goal.loop-y-init
loop-y-init c = marking_start c.args.jobs c.args.number c.args.numbers.now c.told-numbers

pub loop-y-smaller : goal.loop-y-smaller
loop-y-smaller c = members_less c.loop-y.rest _ _ c.in-Some.ensures.0 c.in-Some.ensures.1

pub loop-y-preserved : goal.loop-y-preserved
loop-y-preserved c =
    let l = c.loop-y in
    let a = c.args in
    marking_next a.jobs a.number a.numbers.now l.rest _ l.numbers _ l.invariant c.in-Some.ensures.0 c.in-Some.ensures.1

pub returns : goal.returns
returns c =
    let l = c.loop-y in
    marking_end c.args.jobs c.args.number c.args.numbers.now l.rest l.numbers l.invariant c.requires c.in_default.ensures.0
