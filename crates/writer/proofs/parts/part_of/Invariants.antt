-- `parts::part_of`: the search ends with nothing to look at, or nothing to find.
use Prim.Native.Nat.{◌+◌}
use mathlib.Core.Path.{◌≡◌}
use Rattle.relation.specs.Table.{holds}
use Rattle.writer.proofs.Searching.{Searching}
use Rattle.writer.specs.Parts.{size_of, Marked}
use Rattle.writer.proofs.Numbering.{gone}
use Rattle.writer.proofs.parts.part_of.Given as goal

abbrev pub invariant-loop-all : goal.invariant-loop-all
invariant-loop-all l =
    Searching (holds l.near) l.all l.x l.todo l.rest × Marked (gone l.all l.todo l.rest) l.number l.initial.numbers l.numbers
    × (l.size + (size_of l.todo + size_of l.rest) ≡ size_of l.all)

abbrev pub decreases-loop-all : goal.decreases-loop-all
decreases-loop-all l = size_of l.todo + size_of l.rest
