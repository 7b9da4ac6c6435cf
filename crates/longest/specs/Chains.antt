-- Sets of jobs in which any two are ordered, as lists of different jobs. (The field's chain; document 01's chain is a series group.)
use Rattle.std.specs.Prelude.{ℕ, ◌≤◌, ◌<◌, ◌≡◌, true, ◌⊎◌}
use mathlib.Core.List.{List, [], ◌∷◌, Memᴰ}
use Rattle.poset.specs.Lists.{occurrences, sum}
use Rattle.poset.specs.Order.{Rel, comparable}

-- different jobs below n, any two of them ordered
pub record Chain (n : ℕ) (r : Rel) (jobs : List ℕ) : Type 0 where
  pub inside : (u : ℕ) → Memᴰ u jobs → u < n
  pub once : (u : ℕ) → occurrences u jobs ≤ 1
  pub ordered : (u v : ℕ) → Memᴰ u jobs → Memᴰ v jobs → (u ≡ v) ⊎ (comparable r u v ≡ true)

-- earliest first: each job is before every later one of the list
pub data InOrder (r : Rel) : List ℕ → Type 0 where
  empty : InOrder r []
  next : {u : ℕ} {jobs : List ℕ} → ((v : ℕ) → Memᴰ v jobs → r u v ≡ true) → InOrder r jobs → InOrder r (u ∷ jobs)

-- the jobs are such a set, earliest first, their hours together are the total, and no such set has more
pub record IsLongest (n : ℕ) (r : Rel) (hours : ℕ → ℕ) (total : ℕ) (jobs : List ℕ) : Type 0 where
  pub together : sum hours jobs ≡ total
  pub chain : Chain n r jobs
  pub in_order : InOrder r jobs
  pub greatest : (others : List ℕ) → Chain n r others → sum hours others ≤ total
