-- The forward and the reverse sequence realize the order of a tree: one job is before another exactly if it stands ahead in both.
use Prim.Native.Nat.{ℕ, ◌+◌, ◌<◌}
use mathlib.Core.Path.{◌≡◌, refl, sym, ap, ap₂, ◌∙◌}
use mathlib.Core.List.{List, [], ◌++◌, Memᴰ}
use mathlib.Core.Bool.{true, false, ◌&&◌, cond}
use mathlib.Core.Logic.{◌⊎◌, inl, inr, ◌↔◌}
use native.Mathlib.Omega.{arith}
use lib.Dec.{eqb, ltb}
use Rattle.poset.specs.Lists.{exists, member, occurrences, ahead_in}
use Rattle.poset.specs.Order.{Rel}
use Rattle.poset.specs.Tree.{Kind, series, parallel, Tree, leaf, node, Forest, last, more, Spans, Means}
use Rattle.poset.specs.Tree.{leaves, forest_leaves, joined, reversed, forest_reversed, precedes, forest_precedes}
use Rattle.poset.specs.Inner.{In, InForest, Once, OnceForest, Apart}
use Rattle.poset.proofs.Laws.{and_left, and_right, and_intro, eqb_same, count_append, same_count_mem}
use Rattle.poset.proofs.Ahead.{ahead_here, ahead_left, ahead_right, ahead_cross, ahead_back}
use Rattle.poset.proofs.Standing.{is_series}
use Rattle.poset.proofs.Shape.{
  in_leaves,
  in_forest_leaves,
  leaves_in,
  forest_leaves_in,
  group,
  group_left,
  group_right,
  group_back,
  group_cross,
}
use Rattle.poset.proofs.Meaning.{spans_holds}

-- both sequences hold the same jobs, each equally often

joined_count : (u : ℕ) (k : Kind) (xs ys : List ℕ) → occurrences u (joined k xs ys) ≡ occurrences u xs + occurrences u ys
unfolding joined
joined_count u series xs ys = count_append u xs ys
joined_count u parallel xs ys = omega (arith, count_append u ys xs)

group_same_count : (u : ℕ) (k : Kind) (t : Tree) (f : Forest) → occurrences u (reversed t) ≡ occurrences u (leaves t)
    → occurrences u (forest_reversed k f) ≡ occurrences u (forest_leaves f)
    → occurrences u (joined k (reversed t) (forest_reversed k f)) ≡ occurrences u (leaves t ++ forest_leaves f)
group_same_count u k t f p q =
    omega (arith, joined_count u k (reversed t) (forest_reversed k f), count_append u (leaves t) (forest_leaves f))

mutual
  unfolding leaves reversed

  pub reversed_count : (t : Tree) (u : ℕ) → occurrences u (reversed t) ≡ occurrences u (leaves t)
  reversed_count (leaf j) u = refl
  reversed_count (node k t f) u = group_same_count u k t f (reversed_count t u) (forest_reversed_count f k u)

  pub forest_reversed_count : (f : Forest) (k : Kind) (u : ℕ) → occurrences u (forest_reversed k f) ≡ occurrences u (forest_leaves f)
  forest_reversed_count (last t) k u = reversed_count t u
  forest_reversed_count (more t f) k u = group_same_count u k t f (reversed_count t u) (forest_reversed_count f k u)

pub reversed_spans : (n : ℕ) (t : Tree) → Spans n t → (u : ℕ) → occurrences u (reversed t) ≡ cond (ltb u n) 1 0
reversed_spans n t s u = reversed_count t u ∙ s u

-- a list holds exactly the jobs of S
abbrev Lists : List ℕ → (ℕ → Type 0) → Type 0
Lists xs S = (u : ℕ) → Memᴰ u xs ↔ S u

lists_same : {S : ℕ → Type 0} {xs ys : List ℕ} → ((u : ℕ) → occurrences u ys ≡ occurrences u xs) → Lists xs S → Lists ys S
lists_same e l u = (λ m. (l u).0 (same_count_mem (e u) m), λ h. same_count_mem (sym (e u)) ((l u).1 h))

-- a group's jobs in two lists: those of its first child, and those of the others
abbrev Parts : Tree → Forest → List ℕ → List ℕ → Type 0
Parts t f xs ys = Lists xs (In t) × Lists ys (InForest f)

forward : (t : Tree) (f : Forest) → Parts t f (leaves t) (forest_leaves f)
forward t f = (λ u. (leaves_in t, in_leaves t), λ u. (forest_leaves_in f, in_forest_leaves f))

backward : (k : Kind) (t : Tree) (f : Forest) → Parts t f (reversed t) (forest_reversed k f)
backward k t f = (lists_same (reversed_count t) (forward t f).0, lists_same (forest_reversed_count f k) (forward t f).1)

-- which of two jobs stands ahead when the two lists are joined, by where the jobs are

module _ (t : Tree) (f : Forest) (apart : Apart t f) {xs ys : List ℕ} (parts : Parts t f xs ys) (u v : ℕ) where
  disjoint : (w : ℕ) → Memᴰ w xs → Memᴰ w ys → ⊥
  disjoint w a b = apart w ((parts.0 w).0 a) ((parts.1 w).0 b)

  turned : (w : ℕ) → Memᴰ w ys → Memᴰ w xs → ⊥
  turned w b a = disjoint w a b

  joined_left : (k : Kind) → In t u → In t v → ahead_in u v (joined k xs ys) ≡ ahead_in u v xs
  unfolding joined
  joined_left series p q = ahead_left u v xs ys disjoint ((parts.0 u).1 p) ((parts.0 v).1 q)
  joined_left parallel p q = ahead_right u v ys xs turned ((parts.0 u).1 p)

  joined_right : (k : Kind) → InForest f u → InForest f v → ahead_in u v (joined k xs ys) ≡ ahead_in u v ys
  unfolding joined
  joined_right series p q = ahead_right u v xs ys disjoint ((parts.1 u).1 p)
  joined_right parallel p q = ahead_left u v ys xs turned ((parts.1 u).1 p) ((parts.1 v).1 q)

  joined_cross : (k : Kind) → In t u → InForest f v → ahead_in u v (joined k xs ys) ≡ is_series k
  unfolding joined
  joined_cross series p q = ahead_cross u v xs ys disjoint ((parts.0 u).1 p) ((parts.1 v).1 q)
  joined_cross parallel p q = ahead_back u v ys xs turned ((parts.0 u).1 p) ((parts.1 v).1 q)

  series_back : InForest f u → In t v → ahead_in u v (xs ++ ys) ≡ false
  series_back p q = ahead_back u v xs ys disjoint ((parts.1 u).1 p) ((parts.0 v).1 q)

-- u stands ahead of v in both lists
abbrev pub in_both : List ℕ → List ℕ → Rel
in_both xs ys u v = ahead_in u v xs && ahead_in u v ys

abbrev pub Realizes : Tree → Type 0
Realizes t = (u v : ℕ) → In t u → In t v → in_both (leaves t) (reversed t) u v ≡ precedes t u v

abbrev pub RealizesForest : Kind → Forest → Type 0
RealizesForest k f = (u v : ℕ) → InForest f u → InForest f v → in_both (forest_leaves f) (forest_reversed k f) u v ≡ forest_precedes k f u v

group_realizes : (k : Kind) (t : Tree) (f : Forest) → Apart t f → Realizes t → RealizesForest k f
    → (u v : ℕ) → In t u ⊎ InForest f u → In t v ⊎ InForest f v
    → in_both (leaves t ++ forest_leaves f) (joined k (reversed t) (forest_reversed k f)) u v ≡ group k t f u v
unfolding joined
group_realizes k t f apart a b u v (inl p) (inl q) =
    ap₂ ◌&&◌ (joined_left t f apart (forward t f) u v series p q) (joined_left t f apart (backward k t f) u v k p q)
    ∙ a u v p q
    ∙ sym (group_left k t f apart u v p q)
group_realizes k t f apart a b u v (inl p) (inr q) =
    ap₂ ◌&&◌ (joined_cross t f apart (forward t f) u v series p q) (joined_cross t f apart (backward k t f) u v k p q)
    ∙ sym (group_cross k t f apart u v p q)
group_realizes k t f apart a b u v (inr p) (inl q) =
    rw (series_back t f apart (forward t f) u v p q) (sym (group_back k t f apart u v p q))
group_realizes k t f apart a b u v (inr p) (inr q) =
    ap₂ ◌&&◌ (joined_right t f apart (forward t f) u v series p q) (joined_right t f apart (backward k t f) u v k p q)
    ∙ b u v p q
    ∙ sym (group_right k t f apart u v p q)

mutual
  unfolding exists member leaves reversed precedes

  pub tree_realizes : (t : Tree) → Once t → Realizes t
  tree_realizes (leaf j) o = λ u v p q. rw (ahead_here u v j [] (ap (eqb u) (sym p) ∙ eqb_same u))
  tree_realizes (node k t f) o = group_realizes k t f o.2 (tree_realizes t o.0) (forest_realizes f k o.1)

  pub forest_realizes : (f : Forest) (k : Kind) → OnceForest f → RealizesForest k f
  forest_realizes (last t) k o = tree_realizes t o
  forest_realizes (more t f) k o = group_realizes k t f o.2 (tree_realizes t o.0) (forest_realizes f k o.1)

pub realizer : (n : ℕ) (r : Rel) (t : Tree) → Means n t r → (u v : ℕ) → u < n → v < n
    → (r u v ≡ true) ↔ ((ahead_in u v (leaves t) ≡ true) × (ahead_in u v (reversed t) ≡ true))
realizer n r t m u v p q =
    let (once, holds) = spans_holds n t m.spans in
    let e = tree_realizes t once u v (holds.outside u p) (holds.outside v q) ∙ m.agrees u v p q in (
      λ h. (and_left (ahead_in u v (leaves t)) _ (e ∙ h), and_right (ahead_in u v (leaves t)) _ (e ∙ h)),
      λ h. sym e ∙ and_intro _ _ h.0 h.1,
    )
