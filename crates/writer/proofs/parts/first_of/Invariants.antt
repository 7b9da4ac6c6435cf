-- `parts::first_of`: each step goes to a job before the last.
use lib.ListN.{length}
use Rattle.relation.specs.Table.{members, holds}
use Rattle.writer.proofs.Firsts.{Down}
use Rattle.writer.proofs.parts.first_of.Given as goal

abbrev pub invariant-loop-x : goal.invariant-loop-x
invariant-loop-x l = Down (holds l.order.under.now) l.all l.x l.ahead

abbrev pub decreases-loop-x : goal.decreases-loop-x
decreases-loop-x l = length (members l.ahead)
