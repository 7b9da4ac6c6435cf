-- The longest run of work of a tree. (Document 02, A.3: a chain adds its children's runs, a side group takes its first child with the
-- greatest total.)
use Rattle.std.specs.Prelude.{ℕ, ◌+◌, ◌≤◌, ◌<◌, ◌≡◌, cond, ltb}
use mathlib.Core.List.{List, [], ◌∷◌, ◌++◌, Memᴰ}
use Rattle.poset.specs.Tree.{Kind, series, parallel, Tree, leaf, node, Forest, last, more}

-- a total of hours and the jobs that it is of, earliest first
abbrev pub WorkRun : Type 0
WorkRun = ℕ × List ℕ

-- one after the other, or the one with the greater total, the first where they are equal
unfoldable pub joined_runs : Kind → WorkRun → WorkRun → WorkRun
joined_runs series a b = (a.0 + b.0, a.1 ++ b.1)
joined_runs parallel a b = cond (ltb a.0 b.0) b a

unfoldable mutual
  pub longest : (ℕ → ℕ) → Tree → WorkRun
  longest hours (leaf j) = (hours j, j ∷ [])
  longest hours (node k t f) = joined_runs k (longest hours t) (forest_longest hours k f)

  pub forest_longest : (ℕ → ℕ) → Kind → Forest → WorkRun
  forest_longest hours k (last t) = longest hours t
  forest_longest hours k (more t f) = joined_runs k (longest hours t) (forest_longest hours k f)

-- c is the first of a list with the greatest total
pub record FirstGreatest (hours : ℕ → ℕ) (cs : List Tree) (c : Tree) : Type 0 where
  pub ahead : List Tree
  pub behind : List Tree
  pub splits : cs ≡ ahead ++ c ∷ behind
  pub less : (x : Tree) → Memᴰ x ahead → (longest hours x).0 < (longest hours c).0
  pub no_greater : (x : Tree) → Memᴰ x behind → (longest hours x).0 ≤ (longest hours c).0
