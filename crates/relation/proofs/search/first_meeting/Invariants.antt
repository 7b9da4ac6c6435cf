-- `relation::search::first_meeting` meets its contract.
use lib.ListN.{length}
use Rattle.relation.specs.Table.{holds, members}
use Rattle.relation.proofs.Sought.{Sought, meeting}
use Rattle.relation.proofs.search.first_meeting.Given as goal

abbrev pub invariant-loop-c : goal.invariant-loop-c
invariant-loop-c l = Sought (meeting (holds l.t) l.ds) (members l.initial.rest) l.rest

abbrev pub decreases-loop-c : goal.decreases-loop-c
decreases-loop-c l = length (members l.rest)
