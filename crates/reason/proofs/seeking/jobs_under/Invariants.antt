-- `seeking::jobs_under` meets its contract. The invariant: the trees to come from the present node on have the leaves that are not counted yet.
use Prim.Native.Nat.{◌<◌}
use mathlib.Core.List.{[], ◌∷◌}
use Rattle.poset.specs.Tree.{Tree}
use Rattle.reason.specs.Rows.{Ahead}
use Rattle.reason.proofs.Counting.{Counted}
use Rattle.reason.proofs.seeking.jobs_under.Given as goal

abbrev pub invariant-loop-token : goal.invariant-loop-token
invariant-loop-token l =
    (0 < l.trees) × ((s : Tree) → Ahead l.nodes 0 (s ∷ []) → Counted l.nodes s l.token-index l.trees l.jobs)
