-- `relation::order::first_on_cycle` meets its contract.
use Prim.Native.Nat.{ℕ, ◌-◌}
use mathlib.Core.List.{List}
use Rattle.std.specs.Prelude.{Option}
use Rattle.poset.specs.Lists.{only_if}
use Rattle.relation.specs.Table.{holds}
use Rattle.relation.proofs.Lists.{Looked}
use Rattle.relation.proofs.order.first_on_cycle.Given as goal

-- job u, where it is before itself
abbrev pub at : List (List ℕ) → ℕ → Option ℕ
at t u = only_if (holds t u u) u

abbrev pub invariant-loop-u : goal.invariant-loop-u
invariant-loop-u l = Looked (at l.t) l.n l.u

abbrev pub decreases-loop-u : goal.decreases-loop-u
decreases-loop-u l = l.n - l.u
