-- Trees of series and parallel groups, what they mean, and the canonical one.
use Rattle.std.specs.Prelude.{ℕ, suc, ◌+◌, ◌<◌, min, ◌≡◌, List, [], ◌∷◌, ◌++◌, Bool, true, false, ◌&&◌, ◌||◌, cond, eqb, ltb, length}
use Rattle.poset.specs.Lists.{member, occurrences}
use Rattle.poset.specs.Order.{Rel}

-- Document 01: a chain is a series group, a side group a parallel one.
pub data Kind : Type 0 where
  series parallel : Kind

-- a group has a first child and a forest of at least one more: two or more children
mutual
  pub data Tree : Type 0 where
    leaf : ℕ → Tree
    node : Kind → Tree → Forest → Tree

  pub data Forest : Type 0 where
    last : Tree → Forest
    more : Tree → Forest → Forest

-- the trees of a forest from left to right; those of `more t f` are the children of a group of t and f
unfoldable pub trees : Forest → List Tree
trees (last t) = t ∷ []
trees (more t f) = t ∷ trees f

-- the leaves from left to right: the forward sequence
unfoldable mutual
  pub leaves : Tree → List ℕ
  leaves (leaf j) = j ∷ []
  leaves (node k t f) = leaves t ++ forest_leaves f

  pub forest_leaves : Forest → List ℕ
  forest_leaves (last t) = leaves t
  forest_leaves (more t f) = leaves t ++ forest_leaves f

-- the same with the children of every parallel group taken right to left: the reverse sequence
unfoldable pub joined : Kind → List ℕ → List ℕ → List ℕ
joined series a b = a ++ b
joined parallel a b = b ++ a

unfoldable mutual
  pub reversed : Tree → List ℕ
  reversed (leaf j) = j ∷ []
  reversed (node k t f) = joined k (reversed t) (forest_reversed k f)

  pub forest_reversed : Kind → Forest → List ℕ
  forest_reversed k (last t) = reversed t
  forest_reversed k (more t f) = joined k (reversed t) (forest_reversed k f)

-- u stands in an earlier child than v, and the group is a series
unfoldable pub across : Kind → Tree → Forest → ℕ → ℕ → Bool
across series t f u v = member u (leaves t) && member v (forest_leaves f)
across parallel t f u v = false

-- the lowest group over u and v is a series, and u's child of it comes earlier
unfoldable mutual
  pub precedes : Tree → Rel
  precedes (leaf j) u v = false
  precedes (node k t f) u v = across k t f u v || (precedes t u v || forest_precedes k f u v)

  pub forest_precedes : Kind → Forest → Rel
  forest_precedes k (last t) u v = precedes t u v
  forest_precedes k (more t f) u v = across k t f u v || (precedes t u v || forest_precedes k f u v)

-- the leaves are the jobs below n, each once
abbrev pub Spans : ℕ → Tree → Type 0
Spans n t = (u : ℕ) → occurrences u (leaves t) ≡ cond (ltb u n) 1 0

-- the tree means the relation on the jobs below n
pub record Means (n : ℕ) (t : Tree) (r : Rel) : Type 0 where
  pub spans : Spans n t
  pub agrees : (u v : ℕ) → u < n → v < n → precedes t u v ≡ r u v

abbrev pub HasTree : ℕ → Rel → Type 0
HasTree n r = (t : Tree) × Means n t r

-- how many groups a tree has
unfoldable mutual
  pub groups : Tree → ℕ
  groups (leaf j) = 0
  groups (node k t f) = suc (groups t + forest_groups f)

  pub forest_groups : Forest → ℕ
  forest_groups (last t) = groups t
  forest_groups (more t f) = groups t + forest_groups f

-- the smallest job of a tree
unfoldable mutual
  pub least : Tree → ℕ
  least (leaf j) = j
  least (node k t f) = min (least t) (forest_least f)

  pub forest_least : Forest → ℕ
  forest_least (last t) = least t
  forest_least (more t f) = min (least t) (forest_least f)

-- a group does not stand directly in a group of its kind
unfoldable pub alternates : Kind → Tree → Bool
alternates k (leaf j) = true
alternates series (node series t f) = false
alternates series (node parallel t f) = true
alternates parallel (node series t f) = true
alternates parallel (node parallel t f) = false

-- Document 02, A.8: of branches side by side the one with most jobs is laid out first, equal ones by smallest job. Whether m jobs, the smallest of them x,
-- go ahead of n jobs, the smallest of them y
unfoldable pub outranks : ℕ → ℕ → ℕ → ℕ → Bool
outranks m x n y = ltb n m || (eqb m n && ltb x y)

-- the order of a parallel group's children
unfoldable pub ahead : Kind → Tree → Tree → Bool
ahead series s t = true
ahead parallel s t = outranks (length (leaves s)) (least s) (length (leaves t)) (least t)

-- Document 01: the plain form
unfoldable mutual
  pub canonical : Tree → Bool
  canonical (leaf j) = true
  canonical (node k t f) = alternates k t && (canonical t && forest_canonical k t f)

  pub forest_canonical : Kind → Tree → Forest → Bool
  forest_canonical k s (last t) = alternates k t && (canonical t && ahead k s t)
  forest_canonical k s (more t f) = alternates k t && (canonical t && (ahead k s t && forest_canonical k t f))
