-- Schedules of the work with hands enough: a start for each job. (Document 02, A.3: the fewest hours in which a hull can be done with hands enough.)
use Rattle.std.specs.Prelude.{ℕ, ◌+◌, ◌≤◌, ◌<◌, ◌≡◌, true, cond}
use Rattle.poset.specs.Lists.{member}
use Rattle.poset.specs.Order.{Rel}
use Rattle.poset.specs.Tree.{Kind, series, parallel, Tree, leaf, node, Forest, last, more, leaves}
use Rattle.longest.specs.Longest.{longest}

-- a job takes its hours from its start on; one that is before another ends by the other's start, and all end by the total. How many go on at once
-- is left open: there are hands enough.
pub record Schedule (n : ℕ) (r : Rel) (hours start : ℕ → ℕ) (total : ℕ) : Type 0 where
  pub in_turn : (u v : ℕ) → u < n → v < n → r u v ≡ true → start u + hours u ≤ start v
  pub in_time : (u : ℕ) → u < n → start u + hours u ≤ total

-- these starts are a schedule with the total; no schedule has less, and none starts a job earlier
pub record IsFewest (n : ℕ) (r : Rel) (hours start : ℕ → ℕ) (total : ℕ) : Type 0 where
  pub schedule : Schedule n r hours start total
  pub least : (other : ℕ → ℕ) (end : ℕ) → Schedule n r hours other end → total ≤ end
  pub earliest : (other : ℕ → ℕ) (end : ℕ) → Schedule n r hours other end → (u : ℕ) → u < n → start u ≤ other u

-- how long the other children of a group wait for the first, which takes `a` hours
unfoldable pub waits : Kind → ℕ → ℕ
waits series a = a
waits parallel a = 0

-- the earliest start of a job: in a chain it waits for the longest runs of the children ahead of its own, in a side group for none
unfoldable mutual
  pub earliest_start : (ℕ → ℕ) → Tree → ℕ → ℕ
  earliest_start hours (leaf j) u = 0
  earliest_start hours (node k t f) u = cond (member u (leaves t)) (earliest_start hours t u) (waits k (longest hours t).0 + forest_start hours k f u)

  pub forest_start : (ℕ → ℕ) → Kind → Forest → ℕ → ℕ
  forest_start hours k (last t) u = earliest_start hours t u
  forest_start hours k (more t f) u = cond (member u (leaves t)) (earliest_start hours t u) (waits k (longest hours t).0 + forest_start hours k f u)
