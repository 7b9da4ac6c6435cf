-- `parts::mark_each`: the number at job after job, until none is left.
use lib.ListN.{length}
use Rattle.relation.specs.Table.{members}
use Rattle.writer.proofs.Numbering.{Marking}
use Rattle.writer.proofs.parts.mark_each.Given as goal

abbrev pub invariant-loop-y : goal.invariant-loop-y
invariant-loop-y l = Marking l.initial.rest l.rest l.number l.initial.numbers l.numbers

abbrev pub decreases-loop-y : goal.decreases-loop-y
decreases-loop-y l = length (members l.rest)
