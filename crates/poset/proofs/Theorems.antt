-- All that this crate promises. Each theorem is stated in full and cited.
use Prim.Native.Nat.{ℕ, ◌*◌, ◌≤◌, ◌<◌}
use mathlib.Core.Path.{◌≡◌}
use mathlib.Core.List.{List, Memᴰ}
use mathlib.Core.Bool.{true, false, cond}
use Rattle.std.specs.Prelude.{None, Some}
use mathlib.Core.Logic.{◌↔◌, ◌⊎◌}
use lib.Dec.{ltb}
use lib.ListN.{length}
use Rattle.poset.specs.Lists.{occurrences, ahead_in}
use Rattle.poset.specs.Order.{Arc, Rel, Within, Run, before, Strict, first_on_cycle_of, Four, NAt, HasN, first_n_of, SmallerFour, reduction, Ascending}
use Rattle.poset.specs.Tree.{Tree, leaves, reversed, precedes, Spans, Means, HasTree, canonical}
use Rattle.poset.specs.Decompose.{tree_of}
use Rattle.poset.proofs.Searches
use Rattle.poset.proofs.Closure
use Rattle.poset.proofs.Reduction
use Rattle.poset.proofs.Bound
use Rattle.poset.proofs.TreeOrder
use Rattle.poset.proofs.Realizer
use Rattle.poset.proofs.Forbidden
use Rattle.poset.proofs.Unique
use Rattle.poset.proofs.Decomposition

-- The closure.

-- one job is before another exactly when a run of arcs leads there
pub before_is_run : (n : ℕ) (arcs : List Arc) → Within n arcs → (u v : ℕ) → (before n arcs u v ≡ true) ↔ Run arcs u v
before_is_run = Closure.before_is_run

-- with no cycle it is a strict order
pub before_is_strict : (n : ℕ) (arcs : List Arc) → first_on_cycle_of n (before n arcs) ≡ None → Strict n (before n arcs)
before_is_strict = Closure.before_is_strict

-- no job on a cycle is found exactly when there is none
pub first_on_cycle_none : (n : ℕ) (r : Rel) → (first_on_cycle_of n r ≡ None) ↔ ((u : ℕ) → u < n → r u u ≡ false)
first_on_cycle_none = Searches.first_on_cycle_none

-- the job found is before itself, and no smaller one is
pub first_on_cycle_least
    : (n : ℕ) (r : Rel) (u : ℕ) → first_on_cycle_of n r ≡ Some u → (u < n) × (r u u ≡ true) × ((v : ℕ) → v < u → r v v ≡ false)
first_on_cycle_least = Searches.first_on_cycle_least

-- Trees and the N.

-- an order that some tree, of whatever shape, means has no N
pub tree_has_no_n : (n : ℕ) (r : Rel) → HasTree n r → HasN n r → ⊥
tree_has_no_n = Forbidden.tree_has_no_n

-- a strict order has a tree that means it, or an N
pub tree_or_n : (n : ℕ) (r : Rel) → 0 < n → Strict n r → HasTree n r ⊎ HasN n r
tree_or_n = Decomposition.tree_or_n

-- what a tree means is a strict order
pub tree_is_strict : (n : ℕ) (r : Rel) (t : Tree) → Means n t r → Strict n r
tree_is_strict = TreeOrder.tree_is_strict

-- no N is found exactly when there is none
pub first_n_none : (n : ℕ) (r : Rel) → (first_n_of n r ≡ None) ↔ (HasN n r → ⊥)
first_n_none = Searches.first_n_none

-- the N found is one, and no N is lexicographically smaller
pub first_n_least : (n : ℕ) (r : Rel) (q : Four) → first_n_of n r ≡ Some q → NAt n r q × ((p : Four) → NAt n r p → SmallerFour p q → ⊥)
first_n_least = Searches.first_n_least

-- The canonical tree.

-- the computed tree means its order and is canonical
pub tree_of_sound : (n : ℕ) (r : Rel) (t : Tree) → Strict n r → tree_of n r ≡ Some t → Means n t r × (canonical t ≡ true)
tree_of_sound = Decomposition.tree_of_sound

-- it is there wherever some tree, of whatever shape, means the order
pub tree_of_complete : (n : ℕ) (r : Rel) → HasTree n r → (t : Tree) × (tree_of n r ≡ Some t)
tree_of_complete = Decomposition.tree_of_complete

-- an order has at most one canonical tree
pub canonical_unique
    : (n : ℕ) (r : Rel) (s t : Tree) → Means n s r → Means n t r → canonical s ≡ true → canonical t ≡ true → s ≡ t
canonical_unique = Unique.canonical_unique

-- the canonical tree that means an order is the computed one
pub tree_of_means : (n : ℕ) (r : Rel) (t : Tree) → Means n t r → canonical t ≡ true → tree_of n r ≡ Some t
tree_of_means = Decomposition.tree_of_means

-- a canonical tree is the computed tree of its own order
pub tree_of_canonical : (n : ℕ) (t : Tree) → Spans n t → canonical t ≡ true → tree_of n (precedes t) ≡ Some t
tree_of_canonical = Decomposition.tree_of_canonical

-- The two sequences.

-- both put u ahead of v exactly where u is before v
pub realizer
    : (n : ℕ) (r : Rel) (t : Tree) → Means n t r → (u v : ℕ) → u < n → v < n
    → (r u v ≡ true) ↔ ((ahead_in u v (leaves t) ≡ true) × (ahead_in u v (reversed t) ≡ true))
realizer = Realizer.realizer

-- the reverse sequence, too, has each job below n once
pub reversed_spans : (n : ℕ) (t : Tree) → Spans n t → (u : ℕ) → occurrences u (reversed t) ≡ cond (ltb u n) 1 0
reversed_spans = Realizer.reversed_spans

-- The transitive reduction.

-- it lists exactly the covering pairs, by first job, then second, each once
pub reduction_is_covers
    : (n : ℕ) (r : Rel)
    → ((u v : ℕ) → Memᴰ (u, v) (reduction n r)
    ↔ ((u < n) × (v < n) × (r u v ≡ true) × ((w : ℕ) → w < n → r u w ≡ true → r w v ≡ true → ⊥)))
    × Ascending (reduction n r)
reduction_is_covers = Reduction.reduction_is_covers

-- its closure is the order
pub reduction_closes : (n : ℕ) (r : Rel) → Strict n r → (u v : ℕ) → u < n → v < n → before n (reduction n r) u v ≡ r u v
reduction_closes = Reduction.reduction_closes

-- it has at most n² / 4 arcs, so at most 4,096 for 128 jobs
pub reduction_bound : (n : ℕ) (r : Rel) → Strict n r → 4 * length (reduction n r) ≤ n * n
reduction_bound = Bound.reduction_bound

pub reduction_fits : (n : ℕ) (r : Rel) → n ≤ 128 → Strict n r → length (reduction n r) ≤ 4096
reduction_fits = Bound.reduction_fits

-- every list of arcs with the same closure contains it
pub reduction_least
    : (n : ℕ) (r : Rel) (arcs : List Arc) → ((u v : ℕ) → u < n → v < n → before n arcs u v ≡ r u v)
    → (a : Arc) → Memᴰ a (reduction n r) → Memᴰ a arcs
reduction_least = Reduction.reduction_least
