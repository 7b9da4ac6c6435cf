-- What a tree says, by recursion over it: which jobs it holds, that it holds each once, and how the jobs of two of its children stand.
-- A group is a first child t and a forest f of the others, and so is a forest of two or more: what holds of one holds of both.
use Prim.Native.Nat.{ℕ}
use mathlib.Core.Path.{◌≡◌, refl, sym, ap, ◌∙◌}
use mathlib.Core.List.Memᴰ
use mathlib.Core.List.{List, ◌++◌, flat_map, append-nil, Memᴰ}
use mathlib.Core.Bool.{true, false, ◌||◌}
use mathlib.Core.Logic.{◌⊎◌, inl, inr, ⊎_elim}
use Rattle.poset.specs.Lists.{member}
use Rattle.poset.specs.Order.{Rel}
use Rattle.poset.specs.Tree.{Kind, series, parallel, Tree, leaf, node, Forest, last, more}
use Rattle.poset.specs.Tree.{trees, leaves, forest_leaves, across, precedes, forest_precedes}
use Rattle.poset.specs.Inner.{In, InForest, Once, OnceForest, Apart}
use Rattle.poset.proofs.Standing.{Stands, is_series, stands_differ}
use Rattle.poset.proofs.Laws.{clash, false_unless, and_left, and_right, and_intro, or_cases, or_left, or_middle, or_last, member_mem, mem_member}

-- the jobs of a group, by its first child and the others
abbrev pub InGroup : Tree → Forest → ℕ → Type 0
InGroup t f u = In t u ⊎ InForest f u

-- the same jobs

abbrev pub Same : (ℕ → Type 0) → (ℕ → Type 0) → Type 0
Same S R = (u : ℕ) → (S u → R u) × (R u → S u)

pub same_sym : {S R : ℕ → Type 0} → Same S R → Same R S
same_sym e u = ((e u).1, (e u).0)

-- a list in front of another holds what one of the two holds
in_append : {A B : Type 0} {u : ℕ} {xs : List ℕ} {ys : List ℕ} → (A → Memᴰ u xs) → (B → Memᴰ u ys) → A ⊎ B → Memᴰ u (xs ++ ys)
in_append {ys = ys} f g (inl a) = Memᴰ.append_left ys (f a)
in_append {xs = xs} f g (inr b) = Memᴰ.append_right xs (g b)

append_in : {A B : Type 0} {u : ℕ} (xs : List ℕ) {ys : List ℕ} → (Memᴰ u xs → A) → (Memᴰ u ys → B) → Memᴰ u (xs ++ ys) → A ⊎ B
append_in xs f g m = ⊎_elim (λ h. inl (f h)) (λ h. inr (g h)) (Memᴰ.append_cases xs m)

mutual
  unfolding leaves

  pub in_leaves : (t : Tree) {u : ℕ} → In t u → Memᴰ u (leaves t)
  in_leaves (leaf j) h = Memᴰ.head h
  in_leaves (node k t f) h = in_append (λ m. in_leaves t m) (λ m. in_forest_leaves f m) h

  pub in_forest_leaves : (f : Forest) {u : ℕ} → InForest f u → Memᴰ u (forest_leaves f)
  in_forest_leaves (last t) h = in_leaves t h
  in_forest_leaves (more t f) h = in_append (λ m. in_leaves t m) (λ m. in_forest_leaves f m) h

mutual
  unfolding leaves

  pub leaves_in : (t : Tree) {u : ℕ} → Memᴰ u (leaves t) → In t u
  leaves_in (leaf j) m = Memᴰ.eq_of_singleton m
  leaves_in (node k t f) m = append_in (leaves t) (λ h. leaves_in t h) (λ h. forest_leaves_in f h) m

  pub forest_leaves_in : (f : Forest) {u : ℕ} → Memᴰ u (forest_leaves f) → InForest f u
  forest_leaves_in (last t) m = leaves_in t m
  forest_leaves_in (more t f) m = append_in (leaves t) (λ h. leaves_in t h) (λ h. forest_leaves_in f h) m

-- of lists for each tree, those for the trees of a forest, joined, are the forest's

pub trees_row : {A : Type 0} (g : Tree → List A) (h : Forest → List A) → ((t : Tree) → h (last t) ≡ g t)
    → ((t : Tree) (f : Forest) → h (more t f) ≡ g t ++ h f) → (f : Forest) → flat_map g (trees f) ≡ h f
unfolding trees flat_map
trees_row g h one many (last t) = append-nil (g t) ∙ sym (one t)
trees_row {A} g h one many (more t f) = ap (λ (l : List A). g t ++ l) (trees_row g h one many f) ∙ sym (many t f)

pub trees_leaves : (f : Forest) → flat_map leaves (trees f) ≡ forest_leaves f
unfolding leaves
trees_leaves = trees_row leaves forest_leaves (λ t. refl) (λ t f. refl)

-- a tree holds some job
pub some_in : (t : Tree) → (u : ℕ) × In t u
some_in (leaf j) = (j, refl)
some_in (node k t f) = let s = some_in t in (s.0, inl s.1)

pub some_in_forest : (f : Forest) → (u : ℕ) × InForest f u
some_in_forest (last t) = some_in t
some_in_forest (more t f) = let s = some_in t in (s.0, inl s.1)

-- each pair across two children stands as the kind says

abbrev pub Across : Rel → Kind → Tree → Forest → Type 0
Across r k t f = (u v : ℕ) → In t u → InForest f v → Stands k r u v

-- the tree's groups say of each pair how it stands in r
abbrev mutual
  pub Good : Rel → Tree → Type 0
  Good r (leaf j) = r j j ≡ false
  Good r (node k t f) = Good r t × GoodForest r k f × Across r k t f

  pub GoodForest : Rel → Kind → Forest → Type 0
  GoodForest r k (last t) = Good r t
  GoodForest r k (more t f) = Good r t × GoodForest r k f × Across r k t f

mutual
  pub good_once : (r : Rel) (t : Tree) → Good r t → Once t
  good_once r (leaf j) g = tt
  good_once r (node k t f) g =
      (good_once r t g.0, good_forest_once r k f g.1, λ u p q. stands_differ k r u u (g.2 u u p q) refl)

  pub good_forest_once : (r : Rel) (k : Kind) (f : Forest) → GoodForest r k f → OnceForest f
  good_forest_once r k (last t) g = good_once r t g
  good_forest_once r k (more t f) g =
      (good_once r t g.0, good_forest_once r k f g.1, λ u p q. stands_differ k r u u (g.2 u u p q) refl)

-- what a group says of two jobs, by where they are

abbrev pub group : Kind → Tree → Forest → Rel
group k t f u v = across k t f u v || (precedes t u v || forest_precedes k f u v)

across_in : (k : Kind) (t : Tree) (f : Forest) (u v : ℕ) → across k t f u v ≡ true → In t u × InForest f v
unfolding across
across_in series t f u v h =
    let p = and_left (member u (leaves t)) (member v (forest_leaves f)) h in
    let q = and_right (member u (leaves t)) (member v (forest_leaves f)) h in
    (leaves_in t (member_mem u (leaves t) p), forest_leaves_in f (member_mem v (forest_leaves f) q))
across_in parallel t f u v h = absurd (clash h refl)

group_in : (k : Kind) (t : Tree) (f : Forest) (u v : ℕ) → (precedes t u v ≡ true → In t u × In t v)
    → (forest_precedes k f u v ≡ true → InForest f u × InForest f v) → group k t f u v ≡ true
    → (In t u ⊎ InForest f u) × (In t v ⊎ InForest f v)
group_in k t f u v in_t in_f h =
    ⊎_elim
    (λ a. let i = across_in k t f u v a in (inl i.0, inr i.1))
    (λ b.
    ⊎_elim
    (λ p. let i = in_t p in (inl i.0, inl i.1))
    (λ q. let i = in_f q in (inr i.0, inr i.1))
    (or_cases (precedes t u v) (forest_precedes k f u v) b))
    (or_cases (across k t f u v) (precedes t u v || forest_precedes k f u v) h)

mutual
  unfolding precedes

  pub precedes_in : (t : Tree) (u v : ℕ) → precedes t u v ≡ true → In t u × In t v
  precedes_in (leaf j) u v h = absurd (clash h refl)
  precedes_in (node k t f) u v h = group_in k t f u v (λ p. precedes_in t u v p) (λ p. forest_precedes_in k f u v p) h

  pub forest_precedes_in : (k : Kind) (f : Forest) (u v : ℕ) → forest_precedes k f u v ≡ true → InForest f u × InForest f v
  forest_precedes_in k (last t) u v h = precedes_in t u v h
  forest_precedes_in k (more t f) u v h = group_in k t f u v (λ p. precedes_in t u v p) (λ p. forest_precedes_in k f u v p) h

module _ (k : Kind) (t : Tree) (f : Forest) (apart : Apart t f) (u v : ℕ) where
  not_across : (In t u → InForest f v → ⊥) → across k t f u v ≡ false
  not_across no_pair = false_unless (across k t f u v) (λ h. let i = across_in k t f u v h in no_pair i.0 i.1)

  not_in_tree : (In t u → In t v → ⊥) → precedes t u v ≡ false
  not_in_tree no_pair = false_unless (precedes t u v) (λ h. let i = precedes_in t u v h in no_pair i.0 i.1)

  not_in_forest : (InForest f u → InForest f v → ⊥) → forest_precedes k f u v ≡ false
  not_in_forest no_pair =
      false_unless (forest_precedes k f u v) (λ h. let i = forest_precedes_in k f u v h in no_pair i.0 i.1)

  pub group_left : In t u → In t v → group k t f u v ≡ precedes t u v
  group_left p q =
      or_middle (across k t f u v) (precedes t u v) (forest_precedes k f u v) (not_across (λ a b. apart v q b)) (not_in_forest (λ a b. apart u p a))

  pub group_right : InForest f u → InForest f v → group k t f u v ≡ forest_precedes k f u v
  group_right p q =
      or_last (across k t f u v) (precedes t u v) (forest_precedes k f u v) (not_across (λ a b. apart u a p)) (not_in_tree (λ a b. apart u a p))

  pub group_back : InForest f u → In t v → group k t f u v ≡ false
  group_back p q =
      or_last (across k t f u v) (precedes t u v) (forest_precedes k f u v) (not_across (λ a b. apart u a p)) (not_in_tree (λ a b. apart u a p))
      ∙ not_in_forest (λ a b. apart v q b)

pub group_cross : (k : Kind) (t : Tree) (f : Forest) (apart : Apart t f) (u v : ℕ) → In t u → InForest f v → group k t f u v ≡ is_series k
unfolding across
group_cross series t f apart u v p q =
    or_left
    (across series t f u v)
    (precedes t u v || forest_precedes series f u v)
    (and_intro (member u (leaves t)) (member v (forest_leaves f)) (mem_member (in_leaves t p)) (mem_member (in_forest_leaves f q)))
group_cross parallel t f apart u v p q =
    or_last (across parallel t f u v) (precedes t u v) (forest_precedes parallel f u v) refl (not_in_tree parallel t f apart u v (λ a b. apart v b q))
    ∙ not_in_forest parallel t f apart u v (λ a b. apart u p a)
