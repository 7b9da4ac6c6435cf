-- Sets of jobs that are all free of each other, and jobs parted into gangs. (The field's antichains and chain partitions; that the largest of the one
-- and the smallest of the other are of one size, the width, is Dilworth's theorem.)
use Rattle.std.specs.Prelude.{ℕ, ◌≤◌, ◌<◌, ◌≡◌, true, ◌⊎◌, eqb, length}
use mathlib.Core.List.{List, Memᴰ}
use Rattle.poset.specs.Lists.{occurrences, keep, sum, below}
use Rattle.poset.specs.Order.{Rel, comparable, incomparable}

-- different jobs below n, any two of them free of each other
pub record Antichain (n : ℕ) (r : Rel) (jobs : List ℕ) : Type 0 where
  pub inside : (u : ℕ) → Memᴰ u jobs → u < n
  pub once : (u : ℕ) → occurrences u jobs ≤ 1
  pub free : (u v : ℕ) → Memᴰ u jobs → Memᴰ v jobs → (u ≡ v) ⊎ (incomparable r u v ≡ true)

-- each job below n has one of k gangs, and the jobs of a gang are ordered among themselves; a gang may be empty
pub record ChainPartition (n : ℕ) (r : Rel) (k : ℕ) (gang_of : ℕ → ℕ) : Type 0 where
  pub numbered : (u : ℕ) → u < n → gang_of u < k
  pub ordered : (u v : ℕ) → u < n → v < n → gang_of u ≡ gang_of v → (u ≡ v) ⊎ (comparable r u v ≡ true)

-- such gangs, none of them empty, as many as a largest set of jobs that are all free of each other has; and no fewer will do
pub record IsFewest (n : ℕ) (r : Rel) (count : ℕ) (gang_of : ℕ → ℕ) : Type 0 where
  pub partition : ChainPartition n r count gang_of
  pub none_empty : (g : ℕ) → g < count → (u : ℕ) × (u < n) × (gang_of u ≡ g)
  pub antichain : (jobs : List ℕ) × Antichain n r jobs × (length jobs ≡ count)
  pub largest : (jobs : List ℕ) → Antichain n r jobs → length jobs ≤ count
  pub fewest : (k : ℕ) (other : ℕ → ℕ) → ChainPartition n r k other → count ≤ k

-- the hours of each gang's jobs together, and of all gangs those of all jobs
pub record AreLoads (n : ℕ) (hours : ℕ → ℕ) (count : ℕ) (gang_of load : ℕ → ℕ) : Type 0 where
  pub each : (g : ℕ) → g < count → load g ≡ sum hours (keep (λ u. eqb (gang_of u) g) (below n))
  pub together : sum load (below count) ≡ sum hours (below n)
