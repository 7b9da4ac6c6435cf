-- The lowest node of a tree over two jobs, and the rule that it gives. (Document 02, A.6: the lowest group over both, as its position in the record
-- counted in nodes from 0, and the number of jobs under it; its kind and the order of its children give the rule; of one job, its leaf.)
use Rattle.std.specs.Prelude.{ℕ, suc, ◌+◌, Bool, ◌&&◌, cond, List, [], ◌∷◌, ◌++◌, ltb, length}
use Rattle.std.specs.Prelude.{Option, None, Some, option_map}
use Rattle.poset.specs.Lists.{member, only_if}
use Rattle.poset.specs.Tree.{series, parallel, Tree, leaf, node, Forest, last, more, leaves}

-- the nodes in the record's order: node before children
unfoldable mutual
  pub preorder : Tree → List Tree
  preorder (leaf j) = leaf j ∷ []
  preorder (node k t f) = node k t f ∷ preorder t ++ forest_preorder f

  pub forest_preorder : Forest → List Tree
  forest_preorder (last t) = preorder t
  forest_preorder (more t f) = preorder t ++ forest_preorder f

-- both jobs stand under a node
unfoldable pub over : ℕ → ℕ → Tree → Bool
over u v t = member u (leaves t) && member v (leaves t)

-- a node and its position
abbrev pub Placed : Type 0
Placed = ℕ × Tree

unfoldable pub after : ℕ → Placed → Placed
after p s = (p + s.0, s.1)

-- what is found in a first child that is over both, else in one of the others
unfoldable pub found_in : ℕ → ℕ → Tree → Placed → Option Placed → Option Placed
found_in u v t here later = cond (over u v t) (Some here) (option_map (after (length (preorder t))) later)

-- the lowest node over both, of a tree that is over both: that of the child that is, else the tree itself. The position is counted from the tree's root.
unfoldable mutual
  pub lowest : ℕ → ℕ → Tree → Placed
  lowest u v (leaf j) = (0, leaf j)
  lowest u v (node k t f) =
      elim (found_in u v t (lowest u v t) (forest_lowest u v f)) [ Some s ↦ after 1 s | None ↦ (0, node k t f) ]

  pub forest_lowest : ℕ → ℕ → Forest → Option Placed
  forest_lowest u v (last t) = only_if (over u v t) (lowest u v t)
  forest_lowest u v (more t f) = found_in u v t (lowest u v t) (forest_lowest u v f)

-- which of a group's children has a job, the first being 0
unfoldable pub child_of : ℕ → Forest → ℕ
child_of u (last t) = 0
child_of u (more t f) = cond (member u (leaves t)) 0 (suc (child_of u f))

-- what the lowest node over both says of them: 1 the same job, 2 the first before the second, 3 the second before the first, 4 free
unfoldable pub rule : ℕ → ℕ → Tree → ℕ
rule u v (leaf j) = 1
rule u v (node series t f) = cond (ltb (child_of u (more t f)) (child_of v (more t f))) 2 3
rule u v (node parallel t f) = 4
