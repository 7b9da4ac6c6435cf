-- Bits by position.
-- For inner contracts alone: who reads the promises of read_record, read_nodes and order_of need not believe it, but specs/Answer.antt.
use Rattle.std.specs.Prelude.{ℕ, ◌+◌, ◌≤◌, ◌<◌, ◌^◌, ◌≡◌, List, ◌∷◌, ◌++◌, Option, None, Some, length, drop}
use Rattle.poset.specs.Tree.{Kind, series, parallel, Tree, leaves}
use Rattle.record.specs.Bits.{AllBelow, bits}
use Rattle.record.specs.Layout.{hours_bits, leaf_bits, kind_bit, tree_bits}
use Rattle.record.specs.Tokens.{Small}
use Rattle.reader.specs.declared.nodes.Node.{Node}
use Rattle.reader.specs.declared.nodes.Node.TheVariants.{Leaf, Chain, Side}

-- the list xs stands in bs from the position `at` on
pub record At (bs : List ℕ) (at : ℕ) (xs : List ℕ) : Type 0 where
  pub within : at + length xs ≤ length bs
  pub these : drop at bs ≡ xs ++ drop (at + length xs) bs

-- x is the number in the k bits there
pub record FieldAt (bs : List ℕ) (at k x : ℕ) : Type 0 where
  pub stands : At bs at (bits k x)
  pub small : x < 2 ^ k

-- x is the number in as many bits there as a leaf has, or the bits end
abbrev pub LeafAt : List ℕ → ℕ → Option ℕ → Type 0
LeafAt bs at None = length bs < at + leaf_bits
LeafAt bs at (Some x) = FieldAt bs at leaf_bits x

-- a leaf's bits, by its job and its hours
abbrev pub leaf_fields : ℕ → ℕ → List ℕ
leaf_fields j x = 0 ∷ bits 7 j ++ bits hours_bits x

-- a group's bits ahead of its children's
abbrev pub header : Kind → ℕ → List ℕ
header k c = 1 ∷ kind_bit k ∷ bits 7 c

-- no tree that fits a record stands there, whatever its hours
abbrev pub NoTree : List ℕ → ℕ → Type 0
NoTree bs at =
    (t : Tree) → Small (leaves t) → (hours : List ℕ) → AllBelow (2 ^ hours_bits) hours → At bs at (tree_bits hours t) → ⊥

-- a leaf begins there
pub record BeginsLeaf (bs : List ℕ) (at j x : ℕ) : Type 0 where
  pub stands : At bs at (leaf_fields j x)
  pub small : j < 128
  pub low : x < 2 ^ hours_bits

-- a group of c + 1 children begins there
pub record BeginsGroup (bs : List ℕ) (at : ℕ) (k : Kind) (c : ℕ) : Type 0 where
  pub stands : At bs at (header k c)
  pub several : 0 < c
  pub small : c < 128

-- the node is what a tree there would begin with
abbrev pub NodeAt : List ℕ → ℕ → Option Node → Type 0
NodeAt bs at None = NoTree bs at
NodeAt bs at (Some (Leaf j x)) = BeginsLeaf bs at j x
NodeAt bs at (Some (Chain c)) = BeginsGroup bs at series c
NodeAt bs at (Some (Side c)) = BeginsGroup bs at parallel c
