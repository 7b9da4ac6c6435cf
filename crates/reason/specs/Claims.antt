-- Where the nodes stand in a record, and what a reason is to be of an order.
use Rattle.std.specs.Prelude.{ℕ, ◌≡◌, true, false, ◌↔◌, length, drop}
use mathlib.Core.List.{List, ◌∷◌, ◌++◌, Memᴰ}
use Rattle.std.specs.Prelude.{Some}
use Rattle.std.specs.Prelude.{slice_get}
use Rattle.poset.specs.Order.{Rel, incomparable}
use Rattle.poset.specs.Tree.{Tree, leaf, node, leaves}
use Rattle.record.specs.Bits.{bits}
use Rattle.record.specs.Layout.{hours_bits, kind_bit, more_children, hours_of}
use Rattle.reason.specs.Lowest.{preorder, over, rule}
use Rattle.reason.specs.Outcome.{ReasonOutcome}

-- the bits of a node in a record: a leaf and its hours, or a group's kind and how many children it has
unfoldable pub node_bits : List ℕ → Tree → List ℕ
node_bits hours (leaf j) = 0 ∷ bits 7 j ++ bits hours_bits (hours_of hours j)
node_bits hours (node k t f) = 1 ∷ kind_bit k ∷ bits 7 (more_children f)

-- s is the node at position p, both jobs stand under it, and under no node below it
pub record LowestAt (u v : ℕ) (t : Tree) (p : ℕ) (s : Tree) : Type 0 where
  pub stands : slice_get (preorder t) p ≡ Some s
  pub both : over u v s ≡ true
  pub none_below : (x : Tree) → Memᴰ x (drop 1 (preorder s)) → over u v x ≡ false

-- a rule, and how the two jobs stand in an order
pub record IsRule (r : Rel) (u v : ℕ) (k : ℕ) : Type 0 where
  pub same : (k ≡ 1) ↔ (u ≡ v)
  pub forth : (k ≡ 2) ↔ (r u v ≡ true)
  pub back : (k ≡ 3) ↔ (r v u ≡ true)
  pub free : (k ≡ 4) ↔ (incomparable r u v ≡ true)

-- what is handed back of the jobs u and v in the order r, which the tree t means: how they stand, the lowest node over both, whose kind and
-- children give the rule, and the number of jobs under it; of one job, its leaf
pub record IsReason (t : Tree) (r : Rel) (u v : ℕ) (o : ReasonOutcome) : Type 0 where
  pub stand : IsRule r u v o.rule
  pub decides : Tree
  pub lowest : LowestAt u v t o.position decides
  pub gives : o.rule ≡ rule u v decides
  pub jobs_are : o.jobs ≡ length (leaves decides)
  pub one_job : u ≡ v → decides ≡ leaf u
