-- The connected components of a list of jobs: joined within, apart from each other.
use Prim.Native.Nat.{ℕ, ◌<◌}
use mathlib.Core.Path.{◌≡◌, refl, sym, subst, ◌∙◌}
use mathlib.Core.List.Memᴰ
use mathlib.Core.List.{List, [], ◌∷◌, ◌++◌, Memᴰ}
use mathlib.Core.Bool.{true, false}
use mathlib.Core.Logic.{◌⊎◌, inl, inr, ⊎_elim}
use native.Mathlib.Omega.{arith}
use Rattle.poset.specs.Lists.{exists}
use Rattle.poset.specs.Order.{Rel}
use Rattle.poset.specs.Tree.{Kind}
use Rattle.poset.specs.Decompose.{Block, gather, components}
use Rattle.poset.proofs.Laws.{decided, any_found, any_miss}
use Rattle.poset.proofs.Standing.{near, other, near_sym, near_either}
use Rattle.poset.proofs.Linked.{Shared, Linked}

-- the jobs of a block, and of a list of blocks

abbrev pub Of : List ℕ → ℕ → Type 0
Of b u = Memᴰ u b

abbrev pub OfBlocks : List Block → ℕ → Type 0
OfBlocks [] u = ⊥
OfBlocks (b ∷ bs) u = Of b u ⊎ OfBlocks bs u

-- each job is below those after it
abbrev pub Sorted : List ℕ → Type 0
Sorted [] = Unit {0}
Sorted (x ∷ xs) = ((v : ℕ) → Of xs v → x < v) × Sorted xs

-- a block and those after it: joined, with a job, and apart from the others
pub record Part (k : Kind) (r : Rel) (b : Block) (bs : List Block) : Type 1 where
  pub linked : Linked (near k r) (Of b)
  pub far : (u v : ℕ) → Of b u → OfBlocks bs v → near (other k) r u v ≡ true
  pub leader : ℕ
  pub leads : Of b leader

abbrev pub Parts : Kind → Rel → List Block → Type 1
Parts k r [] = Unit {1}
Parts k r (b ∷ bs) = Part k r b bs × Parts k r bs

-- two linked sets with a near pair between them are linked together
pub union_linked : (join : Rel) → ((u v : ℕ) → join u v ≡ true → join v u ≡ true) → (xs ys : List ℕ) → Linked join (Of xs) → Linked join (Of ys)
    → (a b : ℕ) → Of xs a → Of ys b → join a b ≡ true → Linked join (Of (xs ++ ys))
union_linked join turn xs ys lx ly a b pa pb ab L share u v p q h = go (Memᴰ.append_cases xs p) (Memᴰ.append_cases xs q)
  where
    left : Shared join (Of xs) L
    left c d pc pd = share c d (Memᴰ.append_left ys pc) (Memᴰ.append_left ys pd)

    right : Shared join (Of ys) L
    right c d pc pd = share c d (Memᴰ.append_right xs pc) (Memᴰ.append_right xs pd)

    forth : L a → L b
    forth = share a b (Memᴰ.append_left ys pa) (Memᴰ.append_right xs pb) ab

    back : L b → L a
    back = share b a (Memᴰ.append_right xs pb) (Memᴰ.append_left ys pa) (turn a b ab)

    go : Of xs u ⊎ Of ys u → Of xs v ⊎ Of ys v → L v
    go (inl p) (inl q) = lx L left u v p q h
    go (inl p) (inr q) = ly L right b v pb q (forth (lx L left u a p pa h))
    go (inr p) (inl q) = lx L left a v pa q (back (ly L right u b p pb h))
    go (inr p) (inr q) = ly L right u v p q h

-- what gathering the blocks that x is near to gives
record Gathered (k : Kind) (r : Rel) (x : ℕ) (bs : List Block) (g : Block × List Block) : Type 1 where
  linked : Linked (near k r) (Of g.0)
  has : Of g.0 x
  far : (u v : ℕ) → Of g.0 u → OfBlocks g.1 v → near (other k) r u v ≡ true
  parts : Parts k r g.1
  within : (u : ℕ) → Of g.0 u → (u ≡ x) ⊎ OfBlocks bs u
  left : (u : ℕ) → OfBlocks g.1 u → OfBlocks bs u
  all : (u : ℕ) → OfBlocks bs u → Of g.0 u ⊎ OfBlocks g.1 u

module _ (k : Kind) (r : Rel) (x : ℕ) where
  gather_near : (b : Block) (bs : List Block) → exists (near k r x) b ≡ true
      → gather (near k r) x (b ∷ bs) ≡ ((gather (near k r) x bs).0 ++ b, (gather (near k r) x bs).1)
  unfolding gather
  gather_near b bs e = rw (e, gather)

  gather_far : (b : Block) (bs : List Block) → exists (near k r x) b ≡ false
      → gather (near k r) x (b ∷ bs) ≡ ((gather (near k r) x bs).0, b ∷ (gather (near k r) x bs).1)
  unfolding gather
  gather_far b bs e = rw (e, gather)

  alone : Gathered k r x [] (x ∷ [], [])
  alone = record {
    linked = λ L share u v p q h. subst L (Memᴰ.eq_of_singleton p ∙ sym (Memᴰ.eq_of_singleton q)) h;
    has = Memᴰ.head refl;
    far = λ u v p q. absurd q;
    parts = tt;
    within = λ u p. inl (Memᴰ.eq_of_singleton p);
    left = λ u p. p;
    all = λ u p. absurd p;
  }

  module _ (b : Block) (bs : List Block) (part : Part k r b bs) (fresh : (v : ℕ) → Of b v ⊎ OfBlocks bs v → x < v)
      (g : Block × List Block) (ih : Gathered k r x bs g) where
    taken : exists (near k r x) b ≡ true → Gathered k r x (b ∷ bs) (g.0 ++ b, g.1)
    taken e =
        let y = any_found (near k r x) b e in
        record {
          linked = union_linked (near k r) (near_sym k r) g.0 b ih.linked part.linked x y.0 ih.has y.1 y.2;
          has = Memᴰ.append_left b ih.has;
          far = λ u v p q. ⊎_elim (λ m. ih.far u v m q) (λ m. part.far u v m (ih.left v q)) (Memᴰ.append_cases g.0 p);
          parts = ih.parts;
          within = λ u p. ⊎_elim (λ m. deeper u (ih.within u m)) (λ m. inr (inl m)) (Memᴰ.append_cases g.0 p);
          left = λ u p. inr (ih.left u p);
          all = λ u. ⊎_elim (λ m. inl (Memᴰ.append_right g.0 m)) (λ m. ⊎_elim (λ a. inl (Memᴰ.append_left b a)) (λ a. inr a) (ih.all u m));
        }
      where
        deeper : (u : ℕ) → (u ≡ x) ⊎ OfBlocks bs u → (u ≡ x) ⊎ (Of b u ⊎ OfBlocks bs u)
        deeper u (inl e) = inl e
        deeper u (inr m) = inr (inr m)

    passed : exists (near k r x) b ≡ false → Gathered k r x (b ∷ bs) (g.0, b ∷ g.1)
    passed e =
        record {
          linked = ih.linked;
          has = ih.has;
          far = λ u v p. ⊎_elim (λ m. apart u v m (ih.within u p)) (λ m. ih.far u v p m);
          parts = (
            record {
              linked = part.linked;
              far = λ u v p q. part.far u v p (ih.left v q);
              leader = part.leader;
              leads = part.leads;
            },
            ih.parts,
          );
          within = λ u p. ⊎_elim (λ d. inl d) (λ m. inr (inr m)) (ih.within u p);
          left = λ u. ⊎_elim (λ m. inl m) (λ m. inr (ih.left u m));
          all = λ u. ⊎_elim (λ m. inr (inl m)) (λ m. ⊎_elim (λ a. inl a) (λ a. inr (inr a)) (ih.all u m));
        }
      where
        apart : (u v : ℕ) → Of b v → (u ≡ x) ⊎ OfBlocks bs u → near (other k) r u v ≡ true
        apart u v m (inl d) =
            subst (λ w. near (other k) r w v ≡ true) (sym d)
            (near_either k r x v (λ c. omega (arith, fresh v (inl m))) (any_miss (near k r x) b e m))
        apart u v m (inr p) = near_sym (other k) r v u (part.far v u m p)

  gathered : (bs : List Block) → Parts k r bs → ((v : ℕ) → OfBlocks bs v → x < v) → Gathered k r x bs (gather (near k r) x bs)
  unfolding gather
  gathered [] ps fresh = alone
  gathered (b ∷ bs) ps fresh =
      let ih = gathered bs ps.1 (λ v m. fresh v (inr m)) in
      ⊎_elim
      (λ e. rw (gather_near b bs e) (taken b bs ps.0 fresh (gather (near k r) x bs) ih e))
      (λ e. rw (gather_far b bs e) (passed b bs ps.0 fresh (gather (near k r) x bs) ih e))
      (decided (exists (near k r x) b))

-- the components of a list are parts, and have the jobs of the list

pub record ComponentsOf (k : Kind) (r : Rel) (js : List ℕ) (bs : List Block) : Type 1 where
  pub parts : Parts k r bs
  pub from : (u : ℕ) → OfBlocks bs u → Of js u
  pub onto : (u : ℕ) → Of js u → OfBlocks bs u

pub components_of : (k : Kind) (r : Rel) (js : List ℕ) → Sorted js → ComponentsOf k r js (components (near k r) js)
unfolding components
components_of k r [] s = record { parts = tt; from = λ u p. absurd p; onto = λ u p. Memᴰ.not-nil p }
components_of k r (x ∷ xs) s =
    let ih = components_of k r xs s.1 in
    let bs = components (near k r) xs in
    let g = gathered k r x bs ih.parts (λ v m. s.0 v (ih.from v m)) in
    record {
      parts = (
        record {
          linked = g.linked;
          far = g.far;
          leader = x;
          leads = g.has;
        },
        g.parts,
      );
      from = λ u.
          ⊎_elim
          (λ m. ⊎_elim (λ e. Memᴰ.head e) (λ a. Memᴰ.tail (ih.from u a)) (g.within u m))
          (λ m. Memᴰ.tail (ih.from u (g.left u m)));
      onto = λ u p.
          ⊎_elim
          (λ e. inl (subst (Of (gather (near k r) x bs).0) (sym e) g.has))
          (λ m. g.all u (ih.onto u m))
          (Memᴰ.cases_cons p);
    }
