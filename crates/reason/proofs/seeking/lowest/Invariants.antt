-- `seeking::lowest` meets its contract. The invariant: the row from the node that was taken last on, and no node so far is over both jobs.
use lib.ListN.{length}
use Rattle.poset.specs.Tree.{Tree}
use Rattle.reason.specs.Rows.{GoesOn, Sought}
use Rattle.reason.proofs.Searching.{Searched}
use Rattle.reason.proofs.seeking.lowest.Given as goal

abbrev pub invariant-loop-position : goal.invariant-loop-position
invariant-loop-position l =
    GoesOn l.row × ((t : Tree) (x : Sought l.first l.second t l.nodes (length l.nodes))
    → Searched l.first l.second t l.nodes (length l.nodes) x l.position l.row)
