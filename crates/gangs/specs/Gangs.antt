-- The gangs of a tree. (Document 02, A.5: a leaf has gang 0; a side group numbers its children's gangs one after the other; a chain joins gang
-- 0 of every child, then gang 1, and so on.)
use Rattle.std.specs.Prelude.{ℕ, ◌+◌, max, cond, eqb}
use Rattle.poset.specs.Lists.{member, keep, sum, below}
use Rattle.poset.specs.Tree.{Kind, series, parallel, Tree, leaf, node, Forest, last, more, leaves}

-- how many gangs those of a first child and those of the others make
unfoldable pub joined_gangs : Kind → ℕ → ℕ → ℕ
joined_gangs series a b = max a b
joined_gangs parallel a b = a + b

-- the first gang of the others, where the first child has `a` of them
unfoldable pub gangs_from : Kind → ℕ → ℕ
gangs_from series a = 0
gangs_from parallel a = a

-- how many gangs a tree has
unfoldable mutual
  pub gang_count : Tree → ℕ
  gang_count (leaf j) = 1
  gang_count (node k t f) = joined_gangs k (gang_count t) (forest_gang_count k f)

  pub forest_gang_count : Kind → Forest → ℕ
  forest_gang_count k (last t) = gang_count t
  forest_gang_count k (more t f) = joined_gangs k (gang_count t) (forest_gang_count k f)

-- the gang of a job
unfoldable mutual
  pub gang : Tree → ℕ → ℕ
  gang (leaf j) u = 0
  gang (node k t f) u = cond (member u (leaves t)) (gang t u) (gangs_from k (gang_count t) + forest_gang k f u)

  pub forest_gang : Kind → Forest → ℕ → ℕ
  forest_gang k (last t) u = gang t u
  forest_gang k (more t f) u = cond (member u (leaves t)) (gang t u) (gangs_from k (gang_count t) + forest_gang k f u)

-- the hours of a gang's jobs together, of the jobs below n
unfoldable pub gang_hours : ℕ → (ℕ → ℕ) → Tree → ℕ → ℕ
gang_hours n hours t g = sum hours (keep (λ u. eqb (gang t u) g) (below n))
