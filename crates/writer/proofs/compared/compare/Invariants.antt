-- `compared::compare`: row by row, both tables at once.
use Prim.Native.Nat.{ℕ, ◌-◌}
use mathlib.Core.List.{List}
use mathlib.Core.Bool.{◌&&◌, ◌||◌, not}
use lib.Dec.{eqb, ltb}
use Rattle.poset.specs.Order.{Rel}
use Rattle.relation.specs.Table.{holds}
use Rattle.writer.proofs.Rows.{Filled}
use Rattle.writer.proofs.compared.compare.Given as goal

abbrev pub either : List (List ℕ) → List (List ℕ) → Rel
either after under u v = holds after u v || holds under u v

abbrev pub neither : List (List ℕ) → List (List ℕ) → ℕ → Rel
neither after under n u v = ltb v n && (not (eqb u v) && not (either after under u v))

abbrev pub invariant-loop-u : goal.invariant-loop-u
invariant-loop-u l = Filled (either l.after l.under) l.tied l.u × Filled (neither l.after l.under l.n) l.free l.u

abbrev pub decreases-loop-u : goal.decreases-loop-u
decreases-loop-u l = l.n - l.u
