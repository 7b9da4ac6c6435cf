-- A record by the nodes of its tree.
-- For inner contracts alone, here and in the crates above: who reads the promises of read_record, read_nodes and order_of need not believe it, but
-- specs/Answer.antt.
use Rattle.std.specs.Prelude.{ℕ, ◌≤◌, ◌≡◌, length, take}
use mathlib.Core.List.{List, ◌∷◌, ◌++◌, flat_map}
use Rattle.poset.specs.Lists.{occurrences}
use Rattle.poset.specs.Tree.{Kind, Tree, leaf, node, Forest, leaves, trees}
use Rattle.record.specs.Layout.{more_children, IsRecord}
use Rattle.record.specs.Tokens.{group_token, tokens, Small}

-- the bytes are a record of this tree, which has so many nodes
pub record HasNodes (bytes : List ℕ) (count : ℕ) (t : Tree) : Type 0 where
  pub jobs : ℕ
  pub hours : List ℕ
  pub spelt : IsRecord bytes jobs t hours
  pub number : count ≡ length (tokens t)

-- a tree's nodes in their order
pub record Listed (t : Tree) (list : List ℕ) (count : ℕ) : Type 0 where
  pub once : (u : ℕ) → occurrences u (leaves t) ≤ 1
  pub small : Small (leaves t)
  pub number : count ≡ length (tokens t)
  pub these : take count list ≡ tokens t

-- the trees in a row after a node more is taken, from the right: a leaf is one tree more, a group takes the place of its children
pub data Step : ℕ → List Tree → List Tree → Type 0 where
  one_leaf : {ts : List Tree} (j : ℕ) → Step j ts (leaf j ∷ ts)
  one_group : {rest : List Tree} (k : Kind) (t : Tree) (f : Forest) → Step (group_token k (more_children f)) (t ∷ trees f ++ rest) (node k t f ∷ rest)

-- no job stands twice in the trees, and they fit a record
pub record Fits (ts : List Tree) : Type 0 where
  pub once : (u : ℕ) → occurrences u (flat_map leaves ts) ≤ 1
  pub small : Small (flat_map leaves ts)
