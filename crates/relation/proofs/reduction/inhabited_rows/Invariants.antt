-- `relation::reduction::inhabited_rows` meets its contract.
use Prim.Native.Nat.{ℕ, ◌-◌}
use mathlib.Core.List.{List}
use mathlib.Core.Bool.{Bool}
use Rattle.poset.specs.Lists.{exists, below}
use Rattle.relation.specs.Table.{holds}
use Rattle.relation.proofs.Covers.{Chosen}
use Rattle.relation.proofs.reduction.inhabited_rows.Given as goal

abbrev pub some : List (List ℕ) → ℕ → Bool
some t u = exists (holds t u) (below 128)

abbrev pub invariant-loop-u : goal.invariant-loop-u
invariant-loop-u l = Chosen (some l.t) l.start l.end l.jobs l.u

abbrev pub decreases-loop-u : goal.decreases-loop-u
decreases-loop-u l = l.end - l.u
