-- The steps from arcs to their closure, their reduction and their first N, for arcs that a caller in C hands in.
use Rattle.std.specs.Prelude.{ℕ, ◌+◌, ◌*◌, ◌%◌, List, [], Bool, true, false, ◌&&◌, leb, length}
use Rattle.std.specs.Prelude.{Option, None, Some, is_none}
use Rattle.poset.specs.Order.{Arc, Rel, Four, arc, before, first_on_cycle_of, reduction, first_n_of}
use Rattle.relation.specs.Arcs.{place, outside}
use Rattle.closure.specs.Joins.{pass_joins, join_count}

-- at most 128 jobs, and the arcs name them alone
unfoldable pub fits : ℕ → List Arc → Bool
fits n arcs = is_none (place (outside n) arcs) && leb n 128

-- no job is before itself
unfoldable pub acyclic : ℕ → Rel → Bool
acyclic n r = is_none (first_on_cycle_of n r)

-- the joins of the closure of arcs that fit, and those of the passes; else 0

unfoldable pub joins_of : ℕ → List Arc → ℕ
joins_of n arcs = elim (fits n arcs) [ true ↦ join_count n (arc arcs) | false ↦ 0 ]

unfoldable pub pass_joins_of : ℕ → List Arc → ℕ
pass_joins_of n arcs = elim (fits n arcs) [ true ↦ pass_joins n (arc arcs) | false ↦ 0 ]

-- the transitive reduction of arcs that fit and have no cycle, if there is room for two bytes for each of it; else nothing
unfoldable pub reduced_arcs : ℕ → ℕ → List Arc → List Arc
reduced_arcs room n arcs =
    let r = before n arcs in
    let covers = reduction n r in
    elim (fits n arcs && (acyclic n r && leb (2 * length covers) room)) [ true ↦ covers | false ↦ [] ]

-- four jobs, a byte each from the lowest, or 2^32
unfoldable pub packed : Option Four → ℕ
packed None = 4294967296
packed (Some q) = q.0 % 256 + 256 * (q.1 % 256) + 65536 * (q.2 % 256) + 16777216 * (q.3 % 256)

-- the first N of arcs that fit, as a number
unfoldable pub packed_n : ℕ → List Arc → ℕ
packed_n n arcs = packed (elim (fits n arcs) [ true ↦ first_n_of n (before n arcs) | false ↦ None ])
