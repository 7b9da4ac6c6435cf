-- The rows of a closure, made one after the other from the last jobs on.
-- For the contracts of src/finishing.rt alone: who reads the promise of transitive_closure need not believe it.
use Rattle.std.specs.Prelude.{ℕ, ◌≤◌, ◌<◌, ◌≡◌, List, true, false, length}
use Rattle.poset.specs.Lists.{keep, below, sum}
use Rattle.poset.specs.Order.{Rel, via}
use Rattle.relation.specs.Table.{has, holds}

-- the joins that the finished rows took, all but those left: one for each pair of the relation
abbrev pub joins_but : ℕ → Rel → List ℕ → ℕ
joins_but n r left = sum (λ u. elim (has left u) [ true ↦ 0 | false ↦ length (keep (r u) (below n)) ]) (below n)

-- the rows made of a relation: all but those of the jobs left are finished
pub record Rows (n : ℕ) (r : Rel) (made : List (List ℕ)) (left : List ℕ) (joins : ℕ) : Type 0 where
  pub small : n ≤ 128
  pub inside : (u v : ℕ) → r u v ≡ true → (u < n) × (v < n)
  pub jobs : (u : ℕ) → has left u ≡ true → u < n
  pub finished : (u v : ℕ) → has left u ≡ false → holds made u v ≡ via r n u v
  pub onward : (u v : ℕ) → has left u ≡ false → r u v ≡ true → has left v ≡ false
  pub acyclic : (u : ℕ) → has left u ≡ false → via r n u u ≡ false
  pub counted : joins ≡ joins_but n r left

-- some job is before itself
abbrev pub Cyclic : ℕ → Rel → Type 0
Cyclic n r = (u : ℕ) × (u < n) × (via r n u u ≡ true)
