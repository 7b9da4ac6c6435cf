-- `showing::shown` meets its contract. The invariant: the jobs passed are written, and the run goes on from the present one.
use Prim.Native.Nat.{ℕ, ◌-◌}
use mathlib.Core.List.{List}
use Rattle.longest.specs.Stack.{Linked}
use Rattle.longest.proofs.Listing.{Showed}
use Rattle.longest.proofs.showing.shown.Given as goal

abbrev pub invariant-loop-present : goal.invariant-loop-present
invariant-loop-present l =
    (xs : List ℕ) (linked : Linked l.next l.first l.last xs) → Showed l.next l.first l.last xs linked l.jobs l.count l.present

abbrev pub decreases-loop-present : goal.decreases-loop-present
decreases-loop-present l = 128 - l.count
