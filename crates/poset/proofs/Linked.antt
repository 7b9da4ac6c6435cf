-- Connected sets of jobs, with no paths: whatever near jobs share, all share.
use Prim.Native.Nat.{ℕ}
use mathlib.Core.Path.{◌≡◌, refl, sym, subst, ◌∙◌}
use mathlib.Core.Bool.{true}
use mathlib.Core.Logic.{◌⊎◌, inl, inr}
use Rattle.poset.specs.Order.{Rel}
use Rattle.poset.specs.Tree.{Kind, series, parallel, Tree, leaf, node, Forest, alternates}
use Rattle.poset.specs.Inner.{In, InForest}
use Rattle.poset.proofs.Laws.{clash}
use Rattle.poset.proofs.Standing.{near, other, near_sym, stands_near, stands_apart}
use Rattle.poset.proofs.Shape.{some_in, some_in_forest, Across, Good}

-- a labelling that near jobs of S share
abbrev pub Shared : Rel → (ℕ → Type 0) → (ℕ → Type 0) → Type 0
Shared join S L = (u v : ℕ) → S u → S v → join u v ≡ true → L u → L v

-- each such labelling is constant on S
abbrev pub Linked : Rel → (ℕ → Type 0) → Type 1
Linked join S = (L : ℕ → Type 0) → Shared join S L → (u v : ℕ) → S u → S v → L u → L v

abbrev pub only : ℕ → ℕ → Type 0
only j u = u ≡ j

pub single_linked : (join : Rel) (j : ℕ) → Linked join (only j)
single_linked join j L share u v p q h = subst L (p ∙ sym q) h

-- the jobs of a group are joined across its children
pub group_linked : (r : Rel) (k : Kind) (t : Tree) (f : Forest) → Across r k t f → Linked (near (other k) r) (In (node k t f))
group_linked r k t f x L share u v p q h = go p q
  where
    forth : (u v : ℕ) → In t u → InForest f v → L u → L v
    forth u v p q = share u v (inl p) (inr q) (stands_near k r u v (x u v p q))

    back : (u v : ℕ) → InForest f u → In t v → L u → L v
    back u v p q = share u v (inr p) (inl q) (near_sym (other k) r v u (stands_near k r v u (x v u q p)))

    go : In t u ⊎ InForest f u → In t v ⊎ InForest f v → L v
    go (inl p) (inl q) = let s = some_in_forest f in back s.0 v s.1 q (forth u s.0 p s.1 h)
    go (inl p) (inr q) = forth u v p q h
    go (inr p) (inl q) = back u v p q h
    go (inr p) (inr q) = let s = some_in t in forth s.0 v s.1 q (back u s.0 p s.1 h)

-- near jobs stay in one part of a group

module _ (r : Rel) (k : Kind) (t : Tree) (f : Forest) (x : Across r k t f) (u v : ℕ) (h : near k r u v ≡ true) where
  pub stay_first : In t u → In t v ⊎ InForest f v → In t v
  stay_first p (inl q) = q
  stay_first p (inr q) = absurd (stands_apart k r u v (x u v p q) h)

  pub stay_rest : InForest f u → In t v ⊎ InForest f v → InForest f v
  stay_rest p (inl q) = absurd (stands_apart k r v u (x v u q p) (near_sym k r u v h))
  stay_rest p (inr q) = q

-- a child that is no group of its parent's kind is joined
pub child_linked : (r : Rel) (k : Kind) (t : Tree) → alternates k t ≡ true → Good r t → Linked (near k r) (In t)
unfolding alternates
child_linked r k (leaf j) a g = single_linked (near k r) j
child_linked r series (node series t f) a g = absurd (clash a refl)
child_linked r series (node parallel t f) a g = group_linked r parallel t f g.2
child_linked r parallel (node series t f) a g = group_linked r series t f g.2
child_linked r parallel (node parallel t f) a g = absurd (clash a refl)

-- being joined goes by the jobs alone
pub linked_within : (join : Rel) (S R : ℕ → Type 0) → ((u : ℕ) → S u → R u) → ((u : ℕ) → R u → S u) → Linked join S → Linked join R
linked_within join S R to from linked L share u v p q h =
    linked L (λ a b pa pb. share a b (to a pa) (to b pb)) u v (from u p) (from v q) h
