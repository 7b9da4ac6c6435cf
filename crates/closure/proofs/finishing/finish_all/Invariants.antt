-- `closure::finishing::finish_all` meets its contract.
use mathlib.Core.Path.{◌≡◌}
use lib.ListN.{length}
use Rattle.relation.specs.Table.{holds, members}
use Rattle.closure.specs.Rows.{Rows}
use Rattle.closure.proofs.finishing.finish_all.Given as goal

abbrev pub invariant-loop-stack : goal.invariant-loop-stack
invariant-loop-stack l = Rows l.n (holds l.t) l.made l.left l.joins × (length l.made ≡ 128) × (length l.stack ≡ 128)

abbrev pub decreases-loop-stack : goal.decreases-loop-stack
decreases-loop-stack l = length (members l.left)
