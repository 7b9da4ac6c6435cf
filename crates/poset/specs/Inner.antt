-- Parts of trees and lists of blocks, by recursion: the jobs of a tree, that it holds each once, that it is canonical, and what holds of blocks.
-- For inner contracts alone: who reads what an order and its tree are need not believe it, but specs/Order.antt and specs/Tree.antt. The laws of it stand in
-- proofs/Shape.antt, proofs/Canonical.antt and proofs/Laying.antt.
use Rattle.std.specs.Prelude.{ℕ, ◌≡◌, List, [], ◌∷◌, true, ◌⊎◌}
use Rattle.poset.specs.Tree.{Kind, Tree, leaf, node, Forest, last, more, alternates, ahead}
use Rattle.poset.specs.Decompose.{Block}

-- the jobs of a tree

abbrev mutual
  pub In : Tree → ℕ → Type 0
  In (leaf j) u = u ≡ j
  In (node k t f) u = In t u ⊎ InForest f u

  pub InForest : Forest → ℕ → Type 0
  InForest (last t) u = In t u
  InForest (more t f) u = In t u ⊎ InForest f u

-- each job once

abbrev pub Apart : Tree → Forest → Type 0
Apart t f = (u : ℕ) → In t u → InForest f u → ⊥

abbrev mutual
  pub Once : Tree → Type 0
  Once (leaf j) = Unit {0}
  Once (node k t f) = Once t × OnceForest f × Apart t f

  pub OnceForest : Forest → Type 0
  OnceForest (last t) = Once t
  OnceForest (more t f) = Once t × OnceForest f × Apart t f

-- canonical form: a group's first child goes ahead of the next one

abbrev pub first_of : Forest → Tree
first_of (last t) = t
first_of (more t f) = t

abbrev pub Leads : Kind → Tree → Forest → Type 0
Leads k t f = ahead k t (first_of f) ≡ true

abbrev mutual
  pub Canon : Tree → Type 0
  Canon (leaf j) = Unit {0}
  Canon (node k t f) = (alternates k t ≡ true) × Canon t × CanonForest k f × Leads k t f

  pub CanonForest : Kind → Forest → Type 0
  CanonForest k (last t) = (alternates k t ≡ true) × Canon t
  CanonForest k (more t f) = (alternates k t ≡ true) × Canon t × CanonForest k f × Leads k t f

-- lists of blocks: each of them is so; each two, in this order, stand so

abbrev pub Each {ℓ} : (Block → Type ℓ) → List Block → Type ℓ
Each P [] = Unit {ℓ}
Each P (b ∷ bs) = P b × Each P bs

abbrev pub Pairs {ℓ} : (Block → Block → Type ℓ) → List Block → Type ℓ
Pairs P [] = Unit {ℓ}
Pairs P (b ∷ bs) = Each (P b) bs × Pairs P bs
