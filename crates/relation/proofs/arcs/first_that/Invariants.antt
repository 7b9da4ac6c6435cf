-- The invariant of `relation::arcs::first_that`: no arc ahead of the one at place k passes the test.
use Prim.Native.Nat.{ℕ}
use mathlib.Core.Path.{◌≡◌}
use mathlib.Core.Bool.{Bool}
use Rattle.poset.specs.Order.{Arc}
use Rattle.relation.proofs.Flat.{Searched}
use Rattle.relation.proofs.arcs.first_that.Given as goal

abbrev pub invariant-loop-k : goal.invariant-loop-k
invariant-loop-k g l = (p : Arc → Bool) → ((u v : ℕ) (b : Bool) → goal.F-post g l.test u v b → b ≡ p (u, v)) → Searched p l.arcs l.k
