-- The record of a tree and the hours of its jobs. (Document 01: 7 bits, job count minus 1; then the plain tree, node before children.
-- Document 02, A.2: each leaf carries 12 bits of hours after its job number.)
use Rattle.std.specs.Prelude.{ℕ, suc, ◌+◌, ◌-◌, ◌^◌, ◌<◌, ◌≤◌, ◌≡◌, List, ◌∷◌, ◌++◌, true, length, get_or}
use Rattle.poset.specs.Tree.{Kind, series, parallel, Tree, leaf, node, Forest, last, more, Spans, canonical}
use Rattle.record.specs.Bits.{AllBelow, bits, bytes_of}

unfoldable pub kind_bit : Kind → ℕ
kind_bit series = 0
kind_bit parallel = 1

-- the trees of a forest: of a group's, its children minus 1
unfoldable pub more_children : Forest → ℕ
more_children (last t) = 1
more_children (more t f) = suc (more_children f)

-- the bits of a job's hours, and of a leaf: a 0, 7 bits for its job, and its hours
abbrev pub hours_bits : ℕ
hours_bits = 12

abbrev pub leaf_bits : ℕ
leaf_bits = 8 + hours_bits

-- the most hours that a job may have (Document 02, A.2: 4,095)
abbrev pub most_hours : ℕ
most_hours = 2 ^ hours_bits - 1

-- the hours of a job, in a list that has an entry for each
abbrev pub hours_of : List ℕ → ℕ → ℕ
hours_of hours j = get_or hours j 0

unfoldable mutual
  pub tree_bits : List ℕ → Tree → List ℕ
  tree_bits hours (leaf j) = 0 ∷ bits 7 j ++ bits hours_bits (hours_of hours j)
  tree_bits hours (node k t f) = 1 ∷ kind_bit k ∷ bits 7 (more_children f) ++ (tree_bits hours t ++ forest_bits hours f)

  pub forest_bits : List ℕ → Forest → List ℕ
  forest_bits hours (last t) = tree_bits hours t
  forest_bits hours (more t f) = tree_bits hours t ++ forest_bits hours f

unfoldable pub layout : ℕ → List ℕ → Tree → List ℕ
layout n hours t = bytes_of (bits 7 (n - 1) ++ tree_bits hours t)

-- no record has more bytes
abbrev pub most_record_bytes : ℕ
most_record_bytes = 464

-- the bytes are the record of a canonical tree on n jobs with these hours, one number for each
pub record IsRecord (bytes : List ℕ) (n : ℕ) (t : Tree) (hours : List ℕ) : Type 0 where
  pub least : 0 < n
  pub most : n ≤ 128
  pub spans : Spans n t
  pub plain : canonical t ≡ true
  pub each : length hours ≡ n
  pub small : AllBelow (2 ^ hours_bits) hours
  pub spelt : layout n hours t ≡ bytes
