-- A tree as its tokens in a row, node before children: a leaf is its job, a group is 256, 128 for a parallel one, and its children minus 1.
-- For inner contracts alone: who reads what a record is need not believe it, but specs/Layout.antt. The laws of it stand in proofs/Tokens.antt, those of
-- leaves that fit a record in proofs/Sizes.antt.
use Rattle.std.specs.Prelude.{ℕ, ◌+◌, ◌-◌, ◌*◌, ◌%◌, ◌≡◌, ◌≤◌, ◌<◌, List, [], ◌∷◌, ◌++◌, true, false, ltb, length, replicate}
use Rattle.poset.specs.Tree.{Kind, Tree, leaf, node, Forest, last, more}
use Rattle.record.specs.Bits.{AllBelow, bits}
use Rattle.record.specs.declared.Token.{Token}
use Rattle.record.specs.declared.Token.TheVariants.{Leaf, Chain, Side}
use Rattle.record.specs.Layout.{hours_bits, kind_bit, more_children, hours_of}

-- what a token says of its node
abbrev pub Tells : ℕ → Token → Type 0
Tells x (Leaf j) = (x < 256) × (j ≡ x)
Tells x (Chain c) = (256 ≤ x) × (x < 384) × (c ≡ x % 128)
Tells x (Side c) = (384 ≤ x) × (c ≡ x % 128)

abbrev pub group_token : Kind → ℕ → ℕ
group_token k m = 256 + 128 * kind_bit k + m

abbrev mutual
  pub tokens : Tree → List ℕ
  tokens (leaf j) = j ∷ []
  tokens (node k t f) = group_token k (more_children f) ∷ tokens t ++ forest_tokens f

  pub forest_tokens : Forest → List ℕ
  forest_tokens (last t) = tokens t
  forest_tokens (more t f) = tokens t ++ forest_tokens f

-- a token's bits: a leaf is its job in 8 bits, and the job's hours; a group, 256 and more, is a 1 and 8 bits
unfoldable pub field_bits : List ℕ → ℕ → List ℕ
field_bits hours x = elim (ltb x 128) [ true ↦ bits 8 x ++ bits hours_bits (hours_of hours x) | false ↦ 1 ∷ bits 8 (x % 256) ]

-- no tree of 128 jobs has more nodes
abbrev pub node_room : ℕ
node_room = 256

-- tokens in the first entries of so many, the others 0
abbrev pub listing : List ℕ → List ℕ
listing xs = xs ++ replicate (node_room - length xs) 0

-- leaves that fit a record: at most 128, all below 128, so that every field of the tree fits in 7 bits
abbrev pub Small : List ℕ → Type 0
Small js = AllBelow 128 js × (length js ≤ 128)
