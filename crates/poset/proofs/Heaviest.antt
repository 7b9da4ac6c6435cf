-- The heaviest set of jobs that stand to each other as the children of a group of kind d do: for a series these are chains, for a parallel
-- group antichains. Groups of kind d add, those of the other kind take the first child with the greatest total.
use Prim.Native.Nat.{ℕ, ◌+◌, ◌≤◌}
use mathlib.Core.Path.{◌≡◌, refl, sym, ap, ◌∙◌}
use mathlib.Core.List.Memᴰ
use mathlib.Core.List.{List, [], ◌∷◌, ◌++◌, Memᴰ}
use mathlib.Core.Bool.{Bool, true, false, cond}
use mathlib.Core.Logic.{◌⊎◌, inl, inr, ⊎_elim}
use native.Mathlib.Decide.{dec_le}
use native.Mathlib.Omega.{arith}
use lib.Dec.{ltb}
use Rattle.poset.specs.Lists.{exists, member, occurrences, sum}
use Rattle.poset.specs.Order.{Rel}
use Rattle.poset.specs.Tree.{Kind, series, parallel, Tree, leaf, node, Forest, last, more, leaves, forest_leaves}
use Rattle.poset.specs.Inner.{In, InForest}
use Rattle.poset.proofs.Laws.{decided, clash, false_unless, any_found, any_miss, ltb-true, lt_true, member_mem}
use Rattle.poset.proofs.Standing.{near, other, Stands, near_sym, stands_near, stands_apart, stands_differ}
use Rattle.poset.proofs.Shape.{InGroup, leaves_in, forest_leaves_in, in_leaves, Across, Good, GoodForest}
use Rattle.poset.proofs.Sums.{sum_append, sum_zero}
use Rattle.poset.proofs.Distinct.{Distinct, distinct_cons, subset_sum}

-- a total, and the jobs that it is of
abbrev pub Weighed : Type 0
Weighed = ℕ × List ℕ

abbrev added : Weighed → Weighed → Weighed
added a b = (a.0 + b.0, a.1 ++ b.1)

abbrev greater : Weighed → Weighed → Weighed
greater a b = cond (ltb a.0 b.0) b a

-- what a group of kind k has of its first child and of the others
abbrev pub grown : (d k : Kind) → Weighed → Weighed → Weighed
grown series series a b = added a b
grown series parallel a b = greater a b
grown parallel series a b = greater a b
grown parallel parallel a b = added a b

abbrev mutual
  pub heaviest : Kind → (ℕ → ℕ) → Tree → Weighed
  heaviest d w (leaf j) = (w j, j ∷ [])
  heaviest d w (node k t f) = grown d k (heaviest d w t) (forest_heaviest d w k f)

  pub forest_heaviest : Kind → (ℕ → ℕ) → Kind → Forest → Weighed
  forest_heaviest d w k (last t) = heaviest d w t
  forest_heaviest d w k (more t f) = grown d k (heaviest d w t) (forest_heaviest d w k f)

-- a group of kind k adds, or takes one of its two parts that is not lighter than the other
data Grows (r : Rel) (d k : Kind) (a b : Weighed) : Weighed → Type 0 where
  adds : ((u v : ℕ) → Stands k r u v → Stands d r u v) → Grows r d k a b (a.0 + b.0, a.1 ++ b.1)
  first : ((u v : ℕ) → Stands k r u v → near (other d) r u v ≡ true → ⊥) → b.0 ≤ a.0 → Grows r d k a b a
  second : ((u v : ℕ) → Stands k r u v → near (other d) r u v ≡ true → ⊥) → a.0 ≤ b.0 → Grows r d k a b b

pub not_less : (m n : ℕ) → ltb m n ≡ false → n ≤ m
not_less m n e = elim (dec_le n m) [ yes l ↦ l | no l ↦ absurd (clash (lt_true m n (omega arith)) e) ]

picks
    : (r : Rel) (d k : Kind) (a b : Weighed) → ((u v : ℕ) → Stands k r u v → near (other d) r u v ≡ true → ⊥)
    → Grows r d k a b (greater a b)
picks r d k a b no_two =
    ⊎_elim
    (λ (e : ltb a.0 b.0 ≡ true). rw e (second no_two (omega (arith, ltb-true a.0 b.0 e))))
    (λ (e : ltb a.0 b.0 ≡ false). rw e (first no_two (not_less a.0 b.0 e)))
    (decided (ltb a.0 b.0))

grows : (r : Rel) (d k : Kind) (a b : Weighed) → Grows r d k a b (grown d k a b)
grows r series series a b = adds (λ u v s. s)
grows r series parallel a b = picks r series parallel a b (stands_apart parallel r)
grows r parallel series a b = picks r parallel series a b (stands_apart series r)
grows r parallel parallel a b = adds (λ u v s. s)

-- each job of a list stands to every later one as an earlier child of a group of kind d to a later
abbrev pub Laid : Kind → Rel → List ℕ → Type 0
Laid d r [] = Unit {0}
Laid d r (x ∷ xs) = ((v : ℕ) → Memᴰ v xs → Stands d r x v) × Laid d r xs

laid_append : (d : Kind) (r : Rel) (xs ys : List ℕ) → Laid d r xs → Laid d r ys
    → ((u v : ℕ) → Memᴰ u xs → Memᴰ v ys → Stands d r u v) → Laid d r (xs ++ ys)
laid_append d r [] ys p q h = q
laid_append d r (x ∷ xs) ys p q h = (
  λ v m. ⊎_elim (λ (i : Memᴰ v xs). p.0 v i) (λ (i : Memᴰ v ys). h x v (Memᴰ.head refl) i) (Memᴰ.append_cases xs m),
  laid_append d r xs ys p.1 q (λ u v m. h u v (Memᴰ.tail m)),
)

-- what is found of the jobs of S
pub record Attained (d : Kind) (r : Rel) (w : ℕ → ℕ) (S : ℕ → Type 0) (c : Weighed) : Type 0 where
  pub total : sum w c.1 ≡ c.0
  pub inside : (u : ℕ) → Memᴰ u c.1 → S u
  pub laid : Laid d r c.1

module _ (d : Kind) (r : Rel) (w : ℕ → ℕ) where
  wider : {S T : ℕ → Type 0} {c : Weighed} → ((u : ℕ) → S u → T u) → Attained d r w S c → Attained d r w T c
  wider i x = record { total = x.total; inside = λ u m. i u (x.inside u m); laid = x.laid }

  group_attained : (k : Kind) (t : Tree) (f : Forest) (a b : Weighed) {c : Weighed} → Grows r d k a b c → Across r k t f
      → Attained d r w (In t) a → Attained d r w (InForest f) b → Attained d r w (InGroup t f) c
  group_attained k t f a b (adds alike) across x y =
      record {
        total = omega (arith, sum_append w a.1 b.1, x.total, y.total);
        inside = λ u m.
            ⊎_elim
            (λ (i : Memᴰ u a.1). inl (x.inside u i))
            (λ (i : Memᴰ u b.1). inr (y.inside u i))
            (Memᴰ.append_cases a.1 m);
        laid = laid_append d r a.1 b.1 x.laid y.laid (λ u v p q. alike u v (across u v (x.inside u p) (y.inside v q)));
      }
  group_attained k t f a b (first no_two l) across x y = wider (λ u i. inl i) x
  group_attained k t f a b (second no_two l) across x y = wider (λ u i. inr i) y

  mutual
    pub attained : (t : Tree) → Good r t → Attained d r w (In t) (heaviest d w t)
    attained (leaf j) g =
        record { total = omega arith; inside = λ u m. Memᴰ.eq_of_singleton m; laid = (λ v m. absurd (Memᴰ.not-nil m), tt) }
    attained (node k t f) g =
        group_attained k t f (heaviest d w t) (forest_heaviest d w k f) (grows r d k (heaviest d w t) (forest_heaviest d w k f)) g.2
        (attained t g.0) (forest_attained k f g.1)

    forest_attained : (k : Kind) (f : Forest) → GoodForest r k f → Attained d r w (InForest f) (forest_heaviest d w k f)
    forest_attained k (last t) g = attained t g
    forest_attained k (more t f) g =
        group_attained k t f (heaviest d w t) (forest_heaviest d w k f) (grows r d k (heaviest d w t) (forest_heaviest d w k f)) g.2
        (attained t g.0) (forest_attained k f g.1)

  pub laid_distinct : (xs : List ℕ) → Laid d r xs → Distinct xs
  unfolding occurrences
  laid_distinct [] l u = omega arith
  laid_distinct (x ∷ xs) l u = distinct_cons x xs (λ m. stands_differ d r x x (l.0 x m) refl) (laid_distinct xs l.1) u

  pub laid_near : (xs : List ℕ) → Laid d r xs → (u v : ℕ) → Memᴰ u xs → Memᴰ v xs → (u ≡ v) ⊎ (near (other d) r u v ≡ true)
  laid_near [] l u v p q = absurd (Memᴰ.not-nil p)
  laid_near (x ∷ xs) l u v p q = go (laid_near xs l.1 u v) (Memᴰ.cases_cons p) (Memᴰ.cases_cons q)
    where
      near_from : (a b : ℕ) → a ≡ x → Memᴰ b xs → near (other d) r a b ≡ true
      near_from a b e m = ap (λ z. near (other d) r z b) e ∙ stands_near d r x b (l.0 b m)

      go : (Memᴰ u xs → Memᴰ v xs → (u ≡ v) ⊎ (near (other d) r u v ≡ true)) → (u ≡ x) ⊎ Memᴰ u xs → (v ≡ x) ⊎ Memᴰ v xs
          → (u ≡ v) ⊎ (near (other d) r u v ≡ true)
      go ih (inl a) (inl b) = inl (a ∙ sym b)
      go ih (inl a) (inr m) = inr (near_from u v a m)
      go ih (inr m) (inl b) = inr (near_sym (other d) r v u (near_from v u b m))
      go ih (inr m) (inr i) = ih m i

  -- a set of jobs, any two of them so, is not heavier

  module _ (s : ℕ → Bool) (any_two : (u v : ℕ) → s u ≡ true → s v ≡ true → (u ≡ v) ⊎ (near (other d) r u v ≡ true)) where
    abbrev weight : ℕ → ℕ
    weight u = cond (s u) (w u) 0

    nothing : (xs : List ℕ) → ((u : ℕ) → Memᴰ u xs → s u ≡ false) → sum weight xs ≡ 0
    nothing xs h = sum_zero weight xs (λ u m. ap (λ b. cond b (w u) 0) (h u m))

    one_side : (k : Kind) (t : Tree) (f : Forest) (a b : ℕ) → ((u v : ℕ) → Stands k r u v → near (other d) r u v ≡ true → ⊥) → Across r k t f
        → sum weight (leaves t) ≤ a → sum weight (forest_leaves f) ≤ b → (c : ℕ) → a ≤ c → b ≤ c
        → sum weight (leaves t ++ forest_leaves f) ≤ c
    one_side k t f a b no_two across x y c p q =
        ⊎_elim
        (λ (e : exists s (leaves t) ≡ true).
        let found = any_found s (leaves t) e in
        let none = nothing (forest_leaves f) (λ v m. false_unless (s v) (λ h. both found.0 v found.1 m found.2 h)) in
        omega (arith, sum_append weight (leaves t) (forest_leaves f)))
        (λ (e : exists s (leaves t) ≡ false).
        let none = nothing (leaves t) (λ u m. any_miss s (leaves t) e m) in
        omega (arith, sum_append weight (leaves t) (forest_leaves f)))
        (decided (exists s (leaves t)))
      where
        both : (u v : ℕ) → Memᴰ u (leaves t) → Memᴰ v (forest_leaves f) → s u ≡ true → s v ≡ true → ⊥
        both u v m i su sv =
            let stands = across u v (leaves_in t m) (forest_leaves_in f i) in
            ⊎_elim (λ (e : u ≡ v). stands_differ k r u v stands e) (λ (h : near (other d) r u v ≡ true). no_two u v stands h) (any_two u v su sv)

    group_bound : (k : Kind) (t : Tree) (f : Forest) (a b : Weighed) {c : Weighed} → Grows r d k a b c → Across r k t f
        → sum weight (leaves t) ≤ a.0 → sum weight (forest_leaves f) ≤ b.0 → sum weight (leaves t ++ forest_leaves f) ≤ c.0
    group_bound k t f a b (adds alike) across x y = omega (arith, sum_append weight (leaves t) (forest_leaves f))
    group_bound k t f a b (first no_two l) across x y = one_side k t f a.0 b.0 no_two across x y a.0 (omega arith) l
    group_bound k t f a b (second no_two l) across x y = one_side k t f a.0 b.0 no_two across x y b.0 l (omega arith)

    mutual
      unfolding leaves

      bound : (t : Tree) → Good r t → sum weight (leaves t) ≤ (heaviest d w t).0
      bound (leaf j) g =
          ⊎_elim (λ (e : s j ≡ true). rw e (omega arith)) (λ (e : s j ≡ false). rw e (omega arith)) (decided (s j))
      bound (node k t f) g =
          group_bound k t f (heaviest d w t) (forest_heaviest d w k f) (grows r d k (heaviest d w t) (forest_heaviest d w k f)) g.2
          (bound t g.0) (forest_bound k f g.1)

      forest_bound : (k : Kind) (f : Forest) → GoodForest r k f → sum weight (forest_leaves f) ≤ (forest_heaviest d w k f).0
      forest_bound k (last t) g = bound t g
      forest_bound k (more t f) g =
          group_bound k t f (heaviest d w t) (forest_heaviest d w k f) (grows r d k (heaviest d w t) (forest_heaviest d w k f)) g.2
          (bound t g.0) (forest_bound k f g.1)

  pub not_heavier : (t : Tree) → Good r t → (xs : List ℕ) → Distinct xs → ((u : ℕ) → Memᴰ u xs → In t u)
      → ((u v : ℕ) → Memᴰ u xs → Memᴰ v xs → (u ≡ v) ⊎ (near (other d) r u v ≡ true)) → sum w xs ≤ (heaviest d w t).0
  not_heavier t g xs distinct inside any_two =
      omega (
        arith,
        subset_sum w xs (leaves t) distinct (λ u m. in_leaves t (inside u m)),
        bound (λ u. member u xs) (λ u v p q. any_two u v (member_mem u xs p) (member_mem v xs q)) t g,
      )
