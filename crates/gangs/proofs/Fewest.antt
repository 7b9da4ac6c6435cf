-- The gangs of a tree: each has jobs that are ordered among themselves, none is empty, and there are as many as a largest antichain has jobs. And
-- how the children of a group share them.
use Prim.Native.Nat.{ℕ, ◌+◌, ◌-◌, ◌*◌, ◌≤◌, ◌<◌}
use mathlib.Core.Path.{◌≡◌, refl, sym, ap, ap₂, subst, ◌∙◌}
use mathlib.Core.List.{List, [], ◌∷◌, ◌++◌, Memᴰ}
use mathlib.Core.Bool.{true, false, cond}
use mathlib.Core.Logic.{◌⊎◌, inl, inr, ⊎_elim}
use native.Mathlib.Decide.{dec_le}
use native.Mathlib.Omega.{arith}
use lib.Dec.{eqb, ltb}
use lib.ListN.{length, length-append}
use Rattle.poset.specs.Lists.{member, sum, below}
use Rattle.poset.specs.Order.{Rel, comparable, incomparable}
use Rattle.poset.specs.Tree.{Kind, series, parallel, Tree, leaf, node, Forest, last, more, trees, leaves, forest_leaves, Means}
use Rattle.poset.specs.Inner.{In, InForest, Once, OnceForest, Apart}
use Rattle.poset.proofs.Laws.{decided, false_unless, ltb-true, member_mem, mem_member, mem_split, mem_count, count_append, flat_map_mem}
use Rattle.poset.proofs.Sums.{sum_le, sum_agree, sum_keep, sum_one, sum_const, sum_swap}
use Rattle.poset.proofs.Distinct.{Distinct, cond_le, pigeons}
use Rattle.poset.proofs.Standing.{is_tied, near_once}
use Rattle.poset.proofs.Shape.{InGroup, in_leaves, leaves_in, trees_leaves, Across, Good, GoodForest, good_once}
use Rattle.poset.proofs.Heaviest.{Weighed, grown, heaviest, forest_heaviest, not_less, attained, laid_distinct, laid_near, not_heavier}
use Rattle.poset.proofs.Meaning.{Fits, means_fits}
use Rattle.gangs.specs.Antichains.{Antichain, ChainPartition, IsFewest, AreLoads}
use Rattle.gangs.specs.Gangs.{joined_gangs, gangs_from, gang_count, forest_gang_count, gang, forest_gang, gang_hours}

-- the count is the size of a largest antichain

abbrev one : ℕ → ℕ
one u = 1

joined_count : (k : Kind) (a b : Weighed) → joined_gangs k a.0 b.0 ≡ (grown parallel k a b).0
unfolding joined_gangs
joined_count series a b =
    ⊎_elim
    (λ (e : ltb a.0 b.0 ≡ true). rw e (omega (arith, ltb-true a.0 b.0 e)))
    (λ (e : ltb a.0 b.0 ≡ false). rw e (omega (arith, not_less a.0 b.0 e)))
    (decided (ltb a.0 b.0))
joined_count parallel a b = refl

mutual
  unfolding gang_count

  count_heaviest : (t : Tree) → gang_count t ≡ (heaviest parallel one t).0
  count_heaviest (leaf j) = refl
  count_heaviest (node k t f) =
      ap₂ (joined_gangs k) (count_heaviest t) (forest_heaviest_lem k f) ∙ joined_count k (heaviest parallel one t) (forest_heaviest parallel one k f)

  forest_heaviest_lem : (k : Kind) (f : Forest) → forest_gang_count k f ≡ (forest_heaviest parallel one k f).0
  forest_heaviest_lem k (last t) = count_heaviest t
  forest_heaviest_lem k (more t f) =
      ap₂ (joined_gangs k) (count_heaviest t) (forest_heaviest_lem k f) ∙ joined_count k (heaviest parallel one t) (forest_heaviest parallel one k f)

-- there are not more gangs than jobs

joined_short : (k : Kind) (a b x y : ℕ) → a ≤ x → b ≤ y → joined_gangs k a b ≤ x + y
unfolding joined_gangs
joined_short series a b x y p q = omega arith
joined_short parallel a b x y p q = omega arith

mutual
  unfolding gang_count leaves

  pub count_short : (t : Tree) → gang_count t ≤ length (leaves t)
  count_short (leaf j) = omega arith
  count_short (node k t f) =
      rw (length-append (leaves t) (forest_leaves f))
      (joined_short k (gang_count t) (forest_gang_count k f) (length (leaves t)) (length (forest_leaves f)) (count_short t) (forest_short k f))

  forest_short : (k : Kind) (f : Forest) → forest_gang_count k f ≤ length (forest_leaves f)
  forest_short k (last t) = count_short t
  forest_short k (more t f) =
      rw (length-append (leaves t) (forest_leaves f))
      (joined_short k (gang_count t) (forest_gang_count k f) (length (leaves t)) (length (forest_leaves f)) (count_short t) (forest_short k f))

-- the gang of a job of a group, by where it is; the same of a forest of two or more

abbrev group_gang : Kind → Tree → Forest → ℕ → ℕ
group_gang k t f u = cond (member u (leaves t)) (gang t u) (gangs_from k (gang_count t) + forest_gang k f u)

module _ (k : Kind) (t : Tree) (f : Forest) (u : ℕ) where
  pub gang_left : Memᴰ u (leaves t) → group_gang k t f u ≡ gang t u
  gang_left m = rw (mem_member m)

  pub gang_right : (Memᴰ u (leaves t) → ⊥) → group_gang k t f u ≡ gangs_from k (gang_count t) + forest_gang k f u
  gang_right m = rw (false_unless (member u (leaves t)) (λ h. m (member_mem u (leaves t) h)))

  gang_either : (group_gang k t f u ≡ gang t u) ⊎ (group_gang k t f u ≡ gangs_from k (gang_count t) + forest_gang k f u)
  gang_either =
      ⊎_elim (λ (e : member u (leaves t) ≡ true). inl (rw e)) (λ (e : member u (leaves t) ≡ false). inr (rw e)) (decided (member u (leaves t)))

-- it is below the count

joined_left : (k : Kind) (a b g : ℕ) → g < a → g < joined_gangs k a b
unfolding joined_gangs
joined_left series a b g l = omega arith
joined_left parallel a b g l = omega arith

joined_right : (k : Kind) (a b g : ℕ) → g < b → gangs_from k a + g < joined_gangs k a b
unfolding joined_gangs gangs_from
joined_right series a b g l = omega arith
joined_right parallel a b g l = omega arith

group_below : (k : Kind) (t : Tree) (f : Forest) (u : ℕ) → gang t u < gang_count t → forest_gang k f u < forest_gang_count k f
    → group_gang k t f u < joined_gangs k (gang_count t) (forest_gang_count k f)
group_below k t f u p q =
    ⊎_elim
    (λ (e : group_gang k t f u ≡ gang t u). rw e (joined_left k (gang_count t) (forest_gang_count k f) (gang t u) p))
    (λ (e : group_gang k t f u ≡ gangs_from k (gang_count t) + forest_gang k f u).
    rw e (joined_right k (gang_count t) (forest_gang_count k f) (forest_gang k f u) q))
    (gang_either k t f u)

mutual
  unfolding gang_count gang

  pub gang_below : (t : Tree) (u : ℕ) → gang t u < gang_count t
  gang_below (leaf j) u = omega arith
  gang_below (node k t f) u = group_below k t f u (gang_below t u) (forest_below k f u)

  forest_below : (k : Kind) (f : Forest) (u : ℕ) → forest_gang k f u < forest_gang_count k f
  forest_below k (last t) u = gang_below t u
  forest_below k (more t f) u = group_below k t f u (gang_below t u) (forest_below k f u)

-- no gang is empty

-- a gang of a group is one of its first child's, or one of the others'
split_gang : (k : Kind) (a b g : ℕ) → g < joined_gangs k a b → (g < a) ⊎ ((h : ℕ) × (h < b) × (gangs_from k a + h ≡ g))
unfolding joined_gangs gangs_from
split_gang series a b g l = elim (dec_le a g) [ yes p ↦ inr (g, omega arith, omega arith) | no p ↦ inl (omega arith) ]
split_gang parallel a b g l = elim (dec_le a g) [ yes p ↦ inr (g - a, omega arith, omega arith) | no p ↦ inl (omega arith) ]

abbrev Used : (ℕ → Type 0) → (ℕ → ℕ) → ℕ → Type 0
Used S gang_of g = (u : ℕ) × S u × (gang_of u ≡ g)

group_used : (k : Kind) (t : Tree) (f : Forest) → Apart t f
    → ((g : ℕ) → g < gang_count t → Used (In t) (gang t) g) → ((g : ℕ) → g < forest_gang_count k f → Used (InForest f) (forest_gang k f) g)
    → (g : ℕ) → g < joined_gangs k (gang_count t) (forest_gang_count k f) → Used (InGroup t f) (group_gang k t f) g
group_used k t f apart x y g l =
    ⊎_elim
    (λ (p : g < gang_count t). let (u, i, e) = x g p in (u, inl i, gang_left k t f u (in_leaves t i) ∙ e))
    (λ (p : (h : ℕ) × (h < forest_gang_count k f) × (gangs_from k (gang_count t) + h ≡ g)).
    let (u, i, e) = y p.0 p.1 in
    (u, inr i, omega (arith, gang_right k t f u (λ m. apart u (leaves_in t m) i), e, p.2)))
    (split_gang k (gang_count t) (forest_gang_count k f) g l)

mutual
  unfolding gang_count gang

  gang_used : (t : Tree) → Once t → (g : ℕ) → g < gang_count t → Used (In t) (gang t) g
  gang_used (leaf j) o g l = (j, refl, omega arith)
  gang_used (node k t f) o g l = group_used k t f o.2 (λ g l. gang_used t o.0 g l) (λ g l. forest_used k f o.1 g l) g l

  forest_used : (k : Kind) (f : Forest) → OnceForest f → (g : ℕ) → g < forest_gang_count k f → Used (InForest f) (forest_gang k f) g
  forest_used k (last t) o g l = gang_used t o g l
  forest_used k (more t f) o g l = group_used k t f o.2 (λ g l. gang_used t o.0 g l) (λ g l. forest_used k f o.1 g l) g l

-- the jobs of a gang are ordered among themselves

abbrev OrderedGangs : Rel → (ℕ → Type 0) → (ℕ → ℕ) → Type 0
OrderedGangs r S gang_of = (u v : ℕ) → S u → S v → gang_of u ≡ gang_of v → (u ≡ v) ⊎ (comparable r u v ≡ true)

-- a gang of two children is one of a chain's
cross_gangs : (r : Rel) (k : Kind) (t : Tree) (f : Forest) → Across r k t f → (u v : ℕ) → In t u → InForest f v
    → gang t u ≡ gangs_from k (gang_count t) + forest_gang k f v → r u v ≡ true
unfolding gangs_from
cross_gangs r series t f x u v p q e = (x u v p q).0
cross_gangs r parallel t f x u v p q e = absurd (omega (arith, gang_below t u))

module _ (r : Rel) (k : Kind) (t : Tree) (f : Forest) (across : Across r k t f) (apart : Apart t f) where
  left : (u : ℕ) → In t u → group_gang k t f u ≡ gang t u
  left u p = gang_left k t f u (in_leaves t p)

  right : (u : ℕ) → InForest f u → group_gang k t f u ≡ gangs_from k (gang_count t) + forest_gang k f u
  right u q = gang_right k t f u (λ m. apart u (leaves_in t m) q)

  crossed : (u v : ℕ) → In t u → InForest f v → group_gang k t f u ≡ group_gang k t f v → r u v ≡ true
  crossed u v p q e = cross_gangs r k t f across u v p q (sym (left u p) ∙ e ∙ right v q)

  group_ordered : OrderedGangs r (In t) (gang t) → OrderedGangs r (InForest f) (forest_gang k f) → OrderedGangs r (InGroup t f) (group_gang k t f)
  group_ordered x y u v (inl p) (inl q) e = x u v p q (sym (left u p) ∙ e ∙ left v q)
  group_ordered x y u v (inl p) (inr q) e = inr (is_tied r u v (inl (crossed u v p q e)))
  group_ordered x y u v (inr p) (inl q) e = inr (is_tied r u v (inr (crossed v u q p (sym e))))
  group_ordered x y u v (inr p) (inr q) e = y u v p q (omega (arith, right u p, right v q))

mutual
  unfolding gang

  gang_ordered : (r : Rel) (t : Tree) → Good r t → Once t → OrderedGangs r (In t) (gang t)
  gang_ordered r (leaf j) g o = λ u v p q e. inl (p ∙ sym q)
  gang_ordered r (node k t f) g o = group_ordered r k t f g.2 o.2 (gang_ordered r t g.0 o.0) (forest_ordered r k f g.1 o.1)

  forest_ordered : (r : Rel) (k : Kind) (f : Forest) → GoodForest r k f → OnceForest f → OrderedGangs r (InForest f) (forest_gang k f)
  forest_ordered r k (last t) g o = gang_ordered r t g o
  forest_ordered r k (more t f) g o = group_ordered r k t f g.2 o.2 (gang_ordered r t g.0 o.0) (forest_ordered r k f g.1 o.1)

-- of a tree that means an order

module _ (n : ℕ) (r : Rel) (t : Tree) (means : Means n t r) where
  fits : Fits n r t
  fits = means_fits n r t means

  once : Once t
  once = good_once r t fits.good

  partition : ChainPartition n r (gang_count t) (gang t)
  partition =
      record {
        numbered = λ u l. gang_below t u;
        ordered = λ u v p q e. gang_ordered r t fits.good once u v (fits.holds.outside u p) (fits.holds.outside v q) e;
      }

  none_empty : (g : ℕ) → g < gang_count t → (u : ℕ) × (u < n) × (gang t u ≡ g)
  none_empty g l = let (u, i, e) = gang_used t once g l in (u, fits.holds.inside u i, e)

  antichain : (jobs : List ℕ) × Antichain n r jobs × (length jobs ≡ gang_count t)
  antichain =
      let a = attained parallel r one t fits.good in
      let jobs = (heaviest parallel one t).1 in (
        jobs,
        record {
          inside = λ u m. fits.holds.inside u (a.inside u m);
          once = laid_distinct parallel r one jobs a.laid;
          free = laid_near parallel r one jobs a.laid;
        },
        omega (arith, a.total, sum_const 1 jobs, count_heaviest t),
      )

  largest : (jobs : List ℕ) → Antichain n r jobs → length jobs ≤ gang_count t
  largest jobs a =
      omega (
        arith,
        count_heaviest t,
        sum_const 1 jobs,
        not_heavier parallel r one t fits.good jobs a.once (λ u m. fits.holds.outside u (a.inside u m)) a.free,
      )

  -- no two jobs of an antichain are in one gang
  fewest : (k : ℕ) (other : ℕ → ℕ) → ChainPartition n r k other → gang_count t ≤ k
  fewest k other c =
      let (jobs, a, e) = antichain in
      omega (
        arith,
        pigeons k other jobs a.once (λ u i. c.numbered u (a.inside u i)) (λ u v p q same.
            ⊎_elim
            (λ (e : u ≡ v). e)
            (λ (tied : comparable r u v ≡ true).
            ⊎_elim (λ (e : u ≡ v). e) (λ (free : incomparable r u v ≡ true). absurd (near_once r u v tied free)) (a.free u v p q))
            (c.ordered u v (a.inside u p) (a.inside v q) same)),
      )

  pub tree_fewest : IsFewest n r (gang_count t) (gang t)
  tree_fewest = record { partition = partition; none_empty = none_empty; antichain = antichain; largest = largest; fewest = fewest }

-- the hours of a gang, and at most so many of some jobs

pub gang_hours_lem : (n : ℕ) (hours : ℕ → ℕ) (t : Tree) (g : ℕ) → gang_hours n hours t g ≡ sum (λ u. cond (eqb (gang t u) g) (hours u) 0) (below n)
unfolding gang_hours
gang_hours_lem n hours t g = sum_keep (λ u. eqb (gang t u) g) hours (below n)

pub loads_most : (most : ℕ) (hours : ℕ → ℕ) → ((u : ℕ) → hours u ≤ most) → (t : Tree) (g : ℕ) (xs : List ℕ)
    → sum (λ u. cond (eqb (gang t u) g) (hours u) 0) xs ≤ most * length xs
loads_most most hours small t g xs =
    omega (
      arith,
      sum_le (λ u. cond (eqb (gang t u) g) (hours u) 0) (λ u. most) xs (λ u m. omega (arith, small u, cond_le (eqb (gang t u) g) (hours u))),
      sum_const most xs,
    )

-- the gangs' hours together are those of all jobs
pub tree_loads : (n : ℕ) (hours : ℕ → ℕ) (t : Tree) → AreLoads n hours (gang_count t) (gang t) (gang_hours n hours t)
unfolding gang_hours
tree_loads n hours t =
    record {
      each = λ g l. refl;
      together =
          sum_agree (gang_hours n hours t) (λ g. sum (λ u. cond (eqb (gang t u) g) (hours u) 0) (below n)) (below (gang_count t))
          (λ g m. gang_hours_lem n hours t g)
          ∙ sum_swap (λ g u. cond (eqb (gang t u) g) (hours u) 0) (below (gang_count t)) (below n)
          ∙ sum_agree (λ u. sum (λ g. cond (eqb (gang t u) g) (hours u) 0) (below (gang_count t))) hours (below n)
          (λ u m. sum_one (hours u) (gang t u) (gang_count t) (gang_below t u));
    }

-- The children of a group, and the trees of a forest.

-- a child's gangs begin where those of the children ahead of it end, or where they began
numbers_from : (k : Kind) (f : Forest) → Distinct (forest_leaves f) → (ahead behind : List Tree) (c : Tree) → trees f ≡ ahead ++ c ∷ behind
    → (u : ℕ) → Memᴰ u (leaves c) → forest_gang k f u ≡ sum (λ x. gangs_from k (gang_count x)) ahead + gang c u
unfolding trees leaves gang
numbers_from k (last t) d [] behind c e u m = let q : t ≡ c = cc in omega (arith, ap (λ (x : Tree). gang x u) q)
numbers_from k (last t) d (a ∷ ahead) behind c e u m = absurd (omega (arith, ap length e, length-append ahead (c ∷ behind)))
numbers_from k (more t f) d [] behind c e u m =
    let q : t ≡ c = cc in
    omega (arith, gang_left k t f u (subst (λ (x : Tree). Memᴰ u (leaves x)) (sym q) m), ap (λ (x : Tree). gang x u) q)
numbers_from k (more t f) d (a ∷ ahead) behind c e u m =
    let q : t ≡ a = cc in
    let r : trees f ≡ ahead ++ c ∷ behind = cc in
    let c_in : Memᴰ c (trees f) = subst (Memᴰ c) (sym r) (mathlib.Core.List.Memᴰ.append_right ahead (mathlib.Core.List.Memᴰ.head refl)) in
    let u_in : Memᴰ u (forest_leaves f) = subst (Memᴰ u) (trees_leaves f) (flat_map_mem leaves c_in m) in
    omega (
      arith,
      gang_right k t f u (λ i. omega (arith, d u, count_append u (leaves t) (forest_leaves f), mem_count i, mem_count u_in)),
      numbers_from k f (λ v. omega (arith, d v, count_append v (leaves t) (forest_leaves f))) ahead behind c r u m,
      ap (λ (x : Tree). gangs_from k (gang_count x)) q,
    )

pub parallel_numbers : (f : Forest) → Distinct (forest_leaves f) → (ahead behind : List Tree) (c : Tree) → trees f ≡ ahead ++ c ∷ behind
    → (u : ℕ) → Memᴰ u (leaves c) → forest_gang parallel f u ≡ sum gang_count ahead + gang c u
unfolding gangs_from
parallel_numbers = numbers_from parallel

pub series_joins : (f : Forest) → Distinct (forest_leaves f) → (c : Tree) → Memᴰ c (trees f) → (u : ℕ) → Memᴰ u (leaves c)
    → forest_gang series f u ≡ gang c u
unfolding gangs_from
series_joins f d c i u m =
    let (ahead, behind, e) = mem_split i in
    omega (arith, numbers_from series f d ahead behind c e u m, sum_const 0 ahead)

pub parallel_counts : (f : Forest) → forest_gang_count parallel f ≡ sum gang_count (trees f)
unfolding gang_count trees joined_gangs
parallel_counts (last t) = omega arith
parallel_counts (more t f) = omega (arith, parallel_counts f)

pub series_counts : (f : Forest)
    → ((c : Tree) → Memᴰ c (trees f) → gang_count c ≤ forest_gang_count series f)
    × ((c : Tree) × Memᴰ c (trees f) × (gang_count c ≡ forest_gang_count series f))
unfolding gang_count trees joined_gangs
series_counts (last t) = (λ c m. omega (arith, ap gang_count (mathlib.Core.List.Memᴰ.eq_of_singleton m)), (t, mathlib.Core.List.Memᴰ.head refl, refl))
series_counts (more t f) =
    let (all, (c, m, e)) = series_counts f in (
      λ x i.
          ⊎_elim
          (λ (q : x ≡ t). omega (arith, ap gang_count q))
          (λ (j : Memᴰ x (trees f)). omega (arith, all x j))
          (mathlib.Core.List.Memᴰ.cases_cons i),
      elim (dec_le (forest_gang_count series f) (gang_count t)) [
        | yes l ↦ (t, mathlib.Core.List.Memᴰ.head refl, omega arith)
        | no l ↦ (c, mathlib.Core.List.Memᴰ.tail m, omega arith)
      ],
    )
