-- How many joins of one row into another make the transitive closure.
use Rattle.std.specs.Prelude.{ℕ, List, [], ◌∷◌, true, false, length}
use Rattle.std.specs.Prelude.{None, Some}
use Rattle.poset.specs.Lists.{exists, keep, below, sum}
use Rattle.poset.specs.Order.{Arc, Rel, arc, via, first_on_cycle_of, pairs_of}

-- a pass through k joins the row of k, unless it is empty, to the row of each job that is before k, its own where k is before itself
unfoldable pub joins_at : ℕ → Rel → ℕ → ℕ
joins_at n r k = elim (exists (r k) (below n)) [ true ↦ length (keep (λ u. r u k) (below n)) | false ↦ 0 ]

-- Warshall's passes one after the other, each over what the passes ahead of it made
unfoldable pub pass_joins : ℕ → Rel → ℕ
pass_joins n r = sum (λ k. joins_at n (via r k) k) (below n)

-- the joins that make the closure (Document 02: the step that joins one row into another). Without a cycle there is one for each pair of the
-- relation; with one the passes make it, and what was joined before the cycle was met is in none of its rows and does not count
unfoldable pub join_count : ℕ → Rel → ℕ
join_count n r = elim (first_on_cycle_of n (via r n)) [ None ↦ length (pairs_of n r) | Some u ↦ pass_joins n r ]

-- the distinct arcs of a list: one that stands again further on is left out (Document 02: the different orders)
unfoldable pub distinct : List Arc → List Arc
distinct [] = []
distinct (a ∷ arcs) = elim (arc arcs a.0 a.1) [ true ↦ distinct arcs | false ↦ a ∷ distinct arcs ]
