-- What the groups of a tree say of the pairs of its jobs is a strict order.
use Prim.Native.Nat.{ℕ}
use mathlib.Core.Path.{◌≡◌, sym, ap₂, ◌∙◌}
use mathlib.Core.Bool.{true, false}
use mathlib.Core.Logic.{◌⊎◌, inl, inr, ⊎_elim}
use Rattle.poset.specs.Order.{Rel, Strict}
use Rattle.poset.specs.Tree.{Kind, Tree, leaf, node, Forest, last, more, Means}
use Rattle.poset.specs.Inner.{In, InForest}
use Rattle.poset.proofs.Laws.{clash}
use Rattle.poset.proofs.Standing.{stands_forth, stands_back}
use Rattle.poset.proofs.Shape.{Across, Good, GoodForest}
use Rattle.poset.proofs.Meaning.{means_fits}

mutual
  pub good_irreflexive : (r : Rel) (t : Tree) → Good r t → (u : ℕ) → In t u → r u u ≡ false
  good_irreflexive r (leaf j) g u p = ap₂ r p p ∙ g
  good_irreflexive r (node k t f) g u p =
      ⊎_elim (λ q. good_irreflexive r t g.0 u q) (λ q. good_forest_irreflexive r k f g.1 u q) p

  good_forest_irreflexive : (r : Rel) (k : Kind) (f : Forest) → GoodForest r k f → (u : ℕ) → InForest f u → r u u ≡ false
  good_forest_irreflexive r k (last t) g u p = good_irreflexive r t g u p
  good_forest_irreflexive r k (more t f) g u p =
      ⊎_elim (λ q. good_irreflexive r t g.0 u q) (λ q. good_forest_irreflexive r k f g.1 u q) p

-- transitive among the jobs of S
abbrev pub TransitiveOn : (ℕ → Type 0) → Rel → Type 0
TransitiveOn S r = (u v w : ℕ) → S u → S v → S w → r u v ≡ true → r v w ≡ true → r u w ≡ true

module _ (r : Rel) (k : Kind) (t : Tree) (f : Forest) (x : Across r k t f) where
  -- all pairs across the group stand alike
  alike : (u v a b : ℕ) → In t u → InForest f v → In t a → InForest f b → r u v ≡ r a b
  alike u v a b p q c d = stands_forth k r u v (x u v p q) ∙ sym (stands_forth k r a b (x a b c d))

  back : (u v : ℕ) → InForest f u → In t v → r u v ≡ true → ⊥
  back u v p q h = clash h (stands_back k r v u (x v u q p))

  group_transitive : TransitiveOn (In t) r → TransitiveOn (InForest f) r → TransitiveOn (λ u. In t u ⊎ InForest f u) r
  group_transitive a b u v w (inl p) (inl q) (inl s) uv vw = a u v w p q s uv vw
  group_transitive a b u v w (inl p) (inl q) (inr s) uv vw = alike u w v w p s q s ∙ vw
  group_transitive a b u v w (inl p) (inr q) (inl s) uv vw = absurd (back v w q s vw)
  group_transitive a b u v w (inl p) (inr q) (inr s) uv vw = alike u w u v p s p q ∙ uv
  group_transitive a b u v w (inr p) (inl q) s uv vw = absurd (back u v p q uv)
  group_transitive a b u v w (inr p) (inr q) (inl s) uv vw = absurd (back v w q s vw)
  group_transitive a b u v w (inr p) (inr q) (inr s) uv vw = b u v w p q s uv vw

mutual
  pub good_transitive : (r : Rel) (t : Tree) → Good r t → TransitiveOn (In t) r
  good_transitive r (leaf j) g = λ u v w p q s uv vw. absurd (clash uv (ap₂ r p q ∙ g))
  good_transitive r (node k t f) g =
      group_transitive r k t f g.2 (good_transitive r t g.0) (good_forest_transitive r k f g.1)

  good_forest_transitive : (r : Rel) (k : Kind) (f : Forest) → GoodForest r k f → TransitiveOn (InForest f) r
  good_forest_transitive r k (last t) g = good_transitive r t g
  good_forest_transitive r k (more t f) g =
      group_transitive r k t f g.2 (good_transitive r t g.0) (good_forest_transitive r k f g.1)

pub tree_is_strict : (n : ℕ) (r : Rel) (t : Tree) → Means n t r → Strict n r
tree_is_strict n r t m =
    let f = means_fits n r t m in
    let here = f.holds.outside in
    record {
      irreflexive = λ u p. good_irreflexive r t f.good u (here u p);
      transitive = λ u v w p q s. good_transitive r t f.good u v w (here u p) (here v q) (here w s);
    }
