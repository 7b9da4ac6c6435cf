-- `parts::Parts::split`: part after part, until nothing is left.
use Rattle.relation.specs.Table.{holds}
use Rattle.writer.specs.Parts.{size_of}
use Rattle.writer.proofs.Splitting.{Splitting}
use Rattle.writer.proofs.Numbering.{Numbering}
use Rattle.writer.proofs.parts.Parts.split.Given as goal

abbrev pub invariant-loop-left : goal.invariant-loop-left
invariant-loop-left l =
    Splitting (holds l.near) (holds l.order.under.now) l.series l.initial.left l.left l.self.list l.count
    × Numbering l.initial.left l.left l.self.list l.count l.initial.self.numbers l.self.numbers

abbrev pub decreases-loop-left : goal.decreases-loop-left
decreases-loop-left l = size_of l.left
