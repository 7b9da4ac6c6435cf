-- `OuterGroups::go_on` meets its contract. The invariant: a child of the group here is done, and what is to come is what was.
use mathlib.Core.List.{List}
use Rattle.poset.specs.Tree.{Tree}
use Rattle.gangs.specs.Places.{Open, open_groups, Done}
use Rattle.gangs.proofs.Placing.{Gone}
use Rattle.gangs.proofs.numbering.OuterGroups.go_on.Given as goal

abbrev pub invariant-loop-here : goal.invariant-loop-here
invariant-loop-here l =
    (t : Tree) (o : Open) (os : List Open) → Done t (open_groups l.initial.here l.initial.self) o os → Gone t (open_groups l.here l.self) o os

abbrev pub decreases-loop-here : goal.decreases-loop-here
decreases-loop-here l = l.self.depth
