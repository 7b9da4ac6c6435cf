-- A tree means an order exactly when its groups say how each pair stands in it and its jobs are those below n.
use Prim.Native.Nat.{ℕ, ◌+◌, ◌≤◌, ◌<◌}
use mathlib.Core.Path.{◌≡◌, refl, sym, ap, ap₂, subst, ◌∙◌}
use mathlib.Core.List.{[], ◌∷◌, ◌++◌}
use mathlib.Core.Bool.{true, false, cond}
use mathlib.Core.Logic.{◌⊎◌, inl, inr, ⊎_elim}
use native.Mathlib.Nat.{eq-zero-or-pos}
use lib.Dec.{eqb, ltb}
use native.Mathlib.Omega.{arith}
use Rattle.poset.specs.Lists.{occurrences}
use Rattle.poset.specs.Order.{Rel}
use Rattle.poset.specs.Tree.{
  Kind,
  series,
  parallel,
  Tree,
  leaf,
  node,
  Forest,
  last,
  more,
  leaves,
  forest_leaves,
  precedes,
  forest_precedes,
  Spans,
  Means,
}
use Rattle.poset.specs.Inner.{In, InForest, Once, OnceForest, Apart}
use Rattle.poset.proofs.Laws.{clash, decided, ltb-true, lt_true, eqb-true, eqb_same}
use Rattle.poset.proofs.Laws.{count_same, count_other, count_zero, count_mem, mem_count, count_append}
use Rattle.poset.proofs.Standing.{stands_forth, stands_back}
use Rattle.poset.proofs.Shape.{
  in_leaves,
  in_forest_leaves,
  leaves_in,
  forest_leaves_in,
  Across,
  Good,
  GoodForest,
  good_once,
  good_forest_once,
  group,
  group_left,
  group_right,
  group_back,
  group_cross,
}

-- a tree says what r says of each two of its jobs
abbrev pub Agrees : Rel → Tree → Type 0
Agrees r t = (u v : ℕ) → In t u → In t v → precedes t u v ≡ r u v

abbrev pub AgreesForest : Rel → Kind → Forest → Type 0
AgreesForest r k f = (u v : ℕ) → InForest f u → InForest f v → forest_precedes k f u v ≡ r u v

abbrev AgreesGroup : Rel → Kind → Tree → Forest → Type 0
AgreesGroup r k t f = (u v : ℕ) → In t u ⊎ InForest f u → In t v ⊎ InForest f v → group k t f u v ≡ r u v

-- from the tree's meaning to its groups

group_across : (r : Rel) (k : Kind) (t : Tree) (f : Forest) → Apart t f → AgreesGroup r k t f → Across r k t f
group_across r series t f apart a u v p q =
    (sym (a u v (inl p) (inr q)) ∙ group_cross series t f apart u v p q, sym (a v u (inr q) (inl p)) ∙ group_back series t f apart v u q p)
group_across r parallel t f apart a u v p q =
    record {
      differ = λ e. apart v (subst (In t) e p) q;
      forth = sym (a u v (inl p) (inr q)) ∙ group_cross parallel t f apart u v p q;
      back = sym (a v u (inr q) (inl p)) ∙ group_back parallel t f apart v u q p;
    }

group_first : (r : Rel) (k : Kind) (t : Tree) (f : Forest) → Apart t f → AgreesGroup r k t f → Agrees r t
group_first r k t f apart a u v p q = sym (group_left k t f apart u v p q) ∙ a u v (inl p) (inl q)

group_rest : (r : Rel) (k : Kind) (t : Tree) (f : Forest) → Apart t f → AgreesGroup r k t f → AgreesForest r k f
group_rest r k t f apart a u v p q = sym (group_right k t f apart u v p q) ∙ a u v (inr p) (inr q)

mutual
  unfolding precedes

  pub agrees_good : (r : Rel) (t : Tree) → Once t → Agrees r t → Good r t
  agrees_good r (leaf j) o a = sym (a j j refl refl)
  agrees_good r (node k t f) o a = (
    agrees_good r t o.0 (group_first r k t f o.2 a),
    agrees_forest_good r k f o.1 (group_rest r k t f o.2 a),
    group_across r k t f o.2 a,
  )

  pub agrees_forest_good : (r : Rel) (k : Kind) (f : Forest) → OnceForest f → AgreesForest r k f → GoodForest r k f
  agrees_forest_good r k (last t) o a = agrees_good r t o a
  agrees_forest_good r k (more t f) o a = (
    agrees_good r t o.0 (group_first r k t f o.2 a),
    agrees_forest_good r k f o.1 (group_rest r k t f o.2 a),
    group_across r k t f o.2 a,
  )

-- and back

group_agrees : (r : Rel) (k : Kind) (t : Tree) (f : Forest) → Apart t f → Across r k t f → Agrees r t → AgreesForest r k f → AgreesGroup r k t f
group_agrees r k t f apart x a b u v (inl p) (inl q) = group_left k t f apart u v p q ∙ a u v p q
group_agrees r k t f apart x a b u v (inl p) (inr q) = group_cross k t f apart u v p q ∙ sym (stands_forth k r u v (x u v p q))
group_agrees r k t f apart x a b u v (inr p) (inl q) = group_back k t f apart u v p q ∙ sym (stands_back k r v u (x v u q p))
group_agrees r k t f apart x a b u v (inr p) (inr q) = group_right k t f apart u v p q ∙ b u v p q

mutual
  unfolding precedes

  pub good_agrees : (r : Rel) (t : Tree) → Good r t → Agrees r t
  good_agrees r (leaf j) g u v p q = sym (ap₂ r p q ∙ g)
  good_agrees r (node k t f) g u v p q =
      group_agrees r k t f (good_once r (node k t f) g).2 g.2 (λ u v p q. good_agrees r t g.0 u v p q)
      (λ u v p q. good_forest_agrees r k f g.1 u v p q) u v p q

  pub good_forest_agrees : (r : Rel) (k : Kind) (f : Forest) → GoodForest r k f → AgreesForest r k f
  good_forest_agrees r k (last t) g u v p q = good_agrees r t g u v p q
  good_forest_agrees r k (more t f) g u v p q =
      group_agrees r k t f (good_forest_once r k (more t f) g).2 g.2 (λ u v p q. good_agrees r t g.0 u v p q)
      (λ u v p q. good_forest_agrees r k f g.1 u v p q) u v p q

-- each job once, and those below n

count_group : (u : ℕ) (t : Tree) (f : Forest) → occurrences u (leaves t ++ forest_leaves f) ≡ occurrences u (leaves t) + occurrences u (forest_leaves f)
count_group u t f = count_append u (leaves t) (forest_leaves f)

abbrev AtMostOne : (ℕ → ℕ) → Type 0
AtMostOne c = (u : ℕ) → c u ≤ 1

apart_of_count : (t : Tree) (f : Forest) → AtMostOne (λ u. occurrences u (leaves t ++ forest_leaves f)) → Apart t f
apart_of_count t f c u p q =
    omega (arith, c u, count_group u t f, mem_count (in_leaves t p), mem_count (in_forest_leaves f q))

mutual
  unfolding leaves

  once_of_count : (t : Tree) → AtMostOne (λ u. occurrences u (leaves t)) → Once t
  once_of_count (leaf j) c = tt
  once_of_count (node k t f) c = (
    once_of_count t (λ u. omega (arith, c u, count_group u t f)),
    once_forest_of_count f (λ u. omega (arith, c u, count_group u t f)),
    apart_of_count t f c,
  )

  once_forest_of_count : (f : Forest) → AtMostOne (λ u. occurrences u (forest_leaves f)) → OnceForest f
  once_forest_of_count (last t) c = once_of_count t c
  once_forest_of_count (more t f) c = (
    once_of_count t (λ u. omega (arith, c u, count_group u t f)),
    once_forest_of_count f (λ u. omega (arith, c u, count_group u t f)),
    apart_of_count t f c,
  )

single_count : (u j : ℕ) → occurrences u (j ∷ []) ≤ 1
unfolding occurrences
single_count u j =
    ⊎_elim
    (λ e. omega (arith, count_same u j [] (eqb-true u j e)))
    (λ e. omega (arith, count_other u j [] (λ q. clash (ap (eqb u) (sym q) ∙ eqb_same u) e)))
    (decided (eqb u j))

group_count : (u : ℕ) (t : Tree) (f : Forest) → Apart t f → occurrences u (leaves t) ≤ 1 → occurrences u (forest_leaves f) ≤ 1
    → occurrences u (leaves t ++ forest_leaves f) ≤ 1
group_count u t f apart p q =
    ⊎_elim
    (λ z. omega (arith, count_group u t f))
    (λ a.
    ⊎_elim
    (λ z. omega (arith, count_group u t f))
    (λ b. absurd (apart u (leaves_in t (count_mem u (leaves t) a)) (forest_leaves_in f (count_mem u (forest_leaves f) b))))
    (eq-zero-or-pos (occurrences u (forest_leaves f))))
    (eq-zero-or-pos (occurrences u (leaves t)))

mutual
  unfolding leaves occurrences

  pub once_count : (t : Tree) → Once t → AtMostOne (λ u. occurrences u (leaves t))
  once_count (leaf j) o u = single_count u j
  once_count (node k t f) o u = group_count u t f o.2 (once_count t o.0 u) (once_forest_count f o.1 u)

  once_forest_count : (f : Forest) → OnceForest f → AtMostOne (λ u. occurrences u (forest_leaves f))
  once_forest_count (last t) o u = once_count t o u
  once_forest_count (more t f) o u = group_count u t f o.2 (once_count t o.0 u) (once_forest_count f o.1 u)

-- the jobs of the tree are those below n
pub record Holds (n : ℕ) (t : Tree) : Type 0 where
  pub inside : (u : ℕ) → In t u → u < n
  pub outside : (u : ℕ) → u < n → In t u

spans_yes : (n : ℕ) (t : Tree) → Spans n t → (u : ℕ) → ltb u n ≡ true → occurrences u (leaves t) ≡ 1
spans_yes n t s u e = s u ∙ ap (λ b. cond b 1 0) e

spans_not : (n : ℕ) (t : Tree) → Spans n t → (u : ℕ) → ltb u n ≡ false → occurrences u (leaves t) ≡ 0
spans_not n t s u e = s u ∙ ap (λ b. cond b 1 0) e

pub spans_holds : (n : ℕ) (t : Tree) → Spans n t → Once t × Holds n t
spans_holds n t s = (
  once_of_count t
      (λ u. ⊎_elim (λ e. omega (arith, spans_yes n t s u e)) (λ e. omega (arith, spans_not n t s u e)) (decided (ltb u n))),
  record {
    inside = λ u p.
        ⊎_elim (λ e. ltb-true u n e) (λ e. absurd (omega (arith, spans_not n t s u e, mem_count (in_leaves t p)))) (decided (ltb u n));
    outside = λ u p. leaves_in t (count_mem u (leaves t) (omega (arith, spans_yes n t s u (lt_true u n p))));
  },
)

pub holds_spans : (n : ℕ) (t : Tree) → Once t → Holds n t → Spans n t
holds_spans n t o h u =
    ⊎_elim
    (λ e.
    let once : occurrences u (leaves t) ≡ 1 = omega (arith, once_count t o u, mem_count (in_leaves t (h.outside u (ltb-true u n e)))) in
    once ∙ ap (λ b. cond b 1 0) (sym e))
    (λ e.
    count_zero u (leaves t) (λ m. clash (lt_true u n (h.inside u (leaves_in t m))) e) ∙ ap (λ b. cond b 1 0) (sym e))
    (decided (ltb u n))

-- the meaning of a tree, both ways

pub record Fits (n : ℕ) (r : Rel) (t : Tree) : Type 0 where
  pub good : Good r t
  pub holds : Holds n t

pub means_fits : (n : ℕ) (r : Rel) (t : Tree) → Means n t r → Fits n r t
means_fits n r t m =
    let s = spans_holds n t m.spans in
    record {
      good = agrees_good r t s.0 (λ u v p q. m.agrees u v (s.1.inside u p) (s.1.inside v q));
      holds = s.1;
    }

pub fits_means : (n : ℕ) (r : Rel) (t : Tree) → Fits n r t → Means n t r
fits_means n r t f =
    record {
      spans = holds_spans n t (good_once r t f.good) f.holds;
      agrees = λ u v p q. good_agrees r t f.good u v (f.holds.outside u p) (f.holds.outside v q);
    }
