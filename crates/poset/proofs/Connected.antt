-- Two or more jobs that are joined both by comparability and by incomparability have an N among them.
use Prim.Native.Nat.{ℕ, ◌<◌}
use mathlib.Core.Path.{◌≡◌, refl, sym, ap, subst, ◌∙◌}
use mathlib.Core.List.Memᴰ
use mathlib.Core.List.{List, [], ◌∷◌}
use mathlib.Core.Bool.{true}
use mathlib.Core.Logic.{◌⊎◌, inl, inr, ⊎_elim}
use native.Mathlib.Omega.{arith}
use Rattle.poset.specs.Lists.{member}
use Rattle.poset.specs.Order.{Rel, Strict, HasN}
use Rattle.poset.specs.Tree.{Kind, series, parallel}
use Rattle.poset.specs.Decompose.{Block}
use Rattle.poset.proofs.Laws.{decided, clash, member_mem, mem_member}
use Rattle.poset.proofs.Standing.{near, other, near_sym, near_other, near_either, near_irreflexive}
use Rattle.poset.proofs.Forbidden.{path_n}
use Rattle.poset.proofs.Linked.{Linked, linked_within}
use Rattle.poset.proofs.Components.{Of, OfBlocks, Sorted, Part, Parts, ComponentsOf, components_of}

-- where x with xs is joined, x is near to each part of xs that is closed under nearness
pub touches : (join : Rel) (x : ℕ) (xs : List ℕ) → (Of xs x → ⊥) → Linked join (Of (x ∷ xs)) → (S : ℕ → Type 0) → ((u : ℕ) → S u → Of xs u)
    → ((u v : ℕ) → S u → Of xs v → join u v ≡ true → S v) → (s : ℕ) → S s → (d : ℕ) × S d × (join d x ≡ true)
touches join x xs fresh linked S within closed s p =
    ⊎_elim (λ f. f) (λ q. absurd (fresh (within x q)))
    (linked (λ u. ((d : ℕ) × S d × (join d x ≡ true)) ⊎ S u) share s x (Memᴰ.tail (within s p)) (Memᴰ.head refl) (inr p))
  where
    share : (u v : ℕ) → Of (x ∷ xs) u → Of (x ∷ xs) v → join u v ≡ true → ((d : ℕ) × S d × (join d x ≡ true)) ⊎ S u → ((d : ℕ) × S d × (join d x ≡ true)) ⊎ S v
    share u v pu pv h (inl f) = inl f
    share u v pu pv h (inr q) =
        ⊎_elim (λ e. inl (u, q, ap (join u) (sym e) ∙ h)) (λ m. inr (closed u v q m h)) (Memᴰ.cases_cons pv)

module _ (n : ℕ) (r : Rel) (strict : Strict n r) where
  -- the part that a job falls to
  record Own (k : Kind) (bs : List Block) (y : ℕ) : Type 1 where
    own : Block
    linked : Linked (near k r) (Of own)
    has : Of own y
    within : (u : ℕ) → Of own u → OfBlocks bs u
    far : (u v : ℕ) → Of own u → OfBlocks bs v → (Of own v → ⊥) → near (other k) r u v ≡ true

  abbrev own_first : (k : Kind) (b : Block) (bs : List Block) (y : ℕ) → Part k r b bs → Of b y → Own k (b ∷ bs) y
  own_first k b bs y part p = record {
    own = b;
    linked = part.linked;
    has = p;
    within = λ u m. inl m;
    far = λ u v m q away. ⊎_elim (λ a. absurd (away a)) (λ a. part.far u v m a) q;
  }

  abbrev own_later : (k : Kind) (b : Block) (bs : List Block) (y : ℕ) → Part k r b bs → Own k bs y → Own k (b ∷ bs) y
  own_later k b bs y part o = record {
    own = o.own;
    linked = o.linked;
    has = o.has;
    within = λ u m. inr (o.within u m);
    far = λ u v m q away. ⊎_elim (λ a. near_sym (other k) r v u (part.far v u a (o.within u m))) (λ a. o.far u v m a away) q;
  }

  own_part : (k : Kind) (bs : List Block) → Parts k r bs → (y : ℕ) → OfBlocks bs y → Own k bs y
  own_part k [] ps y p = absurd p
  own_part k (b ∷ bs) ps y (inl p) = own_first k b bs y ps.0 p
  own_part k (b ∷ bs) ps y (inr p) = own_later k b bs y ps.0 (own_part k bs ps.1 y p)

  -- of two or more parts, the one that a job falls to and a job outside it
  split : (k : Kind) (b c : Block) (bs : List Block) → Parts k r (b ∷ c ∷ bs) → ((u : ℕ) → OfBlocks (b ∷ c ∷ bs) u → u < n)
      → (y : ℕ) → OfBlocks (b ∷ c ∷ bs) y → (o : Own k (b ∷ c ∷ bs) y) × (d : ℕ) × OfBlocks (b ∷ c ∷ bs) d × (Of o.own d → ⊥)
  split k b c bs ps small y (inl p) =
      let d = ps.1.0.leader in
      let later : OfBlocks (c ∷ bs) d = inl ps.1.0.leads in (
        own_first k b (c ∷ bs) y ps.0 p,
        d,
        inr later,
        λ m. near_irreflexive (other k) r d (strict.irreflexive d (small d (inr later))) (ps.0.far d d m later),
      )
  split k b c bs ps small y (inr p) =
      let d = ps.0.leader in
      let o = own_part k (c ∷ bs) ps.1 y p in (
        own_later k b (c ∷ bs) y ps.0 o,
        d,
        inl ps.0.leads,
        λ m. near_irreflexive (other k) r d (strict.irreflexive d (small d (inl ps.0.leads))) (ps.0.far d d ps.0.leads (o.within d m)),
      )

  module _ (k : Kind) (x : ℕ) (xs : List ℕ) (sorted : Sorted (x ∷ xs)) (small : (u : ℕ) → Of (x ∷ xs) u → u < n) where
    fresh : Of xs x → ⊥
    fresh m = omega (arith, sorted.0 x m)

    -- along a part C of xs, nearness to x breaks off only where there is an N: with a job d near x outside C, there is a path of four
    breaks_off : (C : ℕ → Type 0) → ((u : ℕ) → C u → Of xs u) → Linked (near k r) C → (d : ℕ) → Of xs d → near k r d x ≡ true
        → ((u : ℕ) → C u → near (other k) r u d ≡ true) → (z y : ℕ) → C z → C y → near k r z x ≡ true → HasN n r ⊎ (near k r y x ≡ true)
    breaks_off C within linked d d_in dx far z y pz py zx =
        linked (λ u. HasN n r ⊎ (near k r u x ≡ true)) (λ u v pu pv h. ⊎_elim (λ f. inl f) (λ ux. next u v pu pv h ux)) z y pz py (inr zx)
      where
        small_in : (u : ℕ) → Of xs u → u < n
        small_in u m = small u (Memᴰ.tail m)

        next : (u v : ℕ) → C u → C v → near k r u v ≡ true → near k r u x ≡ true → HasN n r ⊎ (near k r v x ≡ true)
        next u v pu pv uv ux =
            ⊎_elim
            (λ vx. inr vx)
            (λ vx.
            inl
            (path_n n r strict k v u x d (small_in v (within v pv)) (small_in u (within u pu)) (small x (Memᴰ.head refl)) (small_in d d_in)
            (record {
              pq = near_sym k r u v uv;
              qs = ux;
              sw = near_sym k r d x dx;
              ps = near_either k r v x (λ e. fresh (subst (Of xs) e (within v pv))) vx;
              pw = far v pv;
              qw = far u pu;
            })))
            (decided (near k r v x))

    -- x joins the two or more parts of xs, and is not near to all of them
    two_parts : (b c : Block) (bs : List Block) → ComponentsOf k r xs (b ∷ c ∷ bs)
        → Linked (near k r) (Of (x ∷ xs)) → Linked (near (other k) r) (Of (x ∷ xs)) → HasN n r
    two_parts b c bs cs linked linked' =
        let lead = cs.from _ (inl cs.parts.0.leads) in
        let y = touches (near (other k) r) x xs fresh linked' (Of xs) (λ u m. m) (λ u v _ m _. m) _ lead in
        let (o, e, e_in, outside) =
        split k b c bs cs.parts (λ u m. small u (Memᴰ.tail (cs.from u m))) y.0 (cs.onto y.0 y.1) in
        joined y.0 y.2 o (e) (cs.from e e_in) outside
      where
        joined : (y : ℕ) → near (other k) r y x ≡ true → (o : Own k (b ∷ c ∷ bs) y) (e : ℕ) → Of xs e → (Of o.own e → ⊥) → HasN n r
        joined y yx o e e_in outside =
            let d = touches (near k r) x xs fresh linked Rest (λ u m. m.0) rest_closed e (e_in, outside) in
            let z = touches (near k r) x xs fresh linked (Of o.own) within own_closed y o.has in
            ⊎_elim (λ h. h) (λ h. absurd (near_other k r y x h yx))
            (breaks_off (Of o.own) within o.linked d.0 d.1.0 d.2 (λ u p. apart u d.0 p d.1) z.0 y z.1 o.has z.2)
          where
            within : (u : ℕ) → Of o.own u → Of xs u
            within u p = cs.from u (o.within u p)

            Rest : ℕ → Type 0
            Rest u = Of xs u × (Of o.own u → ⊥)

            apart : (u v : ℕ) → Of o.own u → Rest v → near (other k) r u v ≡ true
            apart u v p q = o.far u v p (cs.onto v q.0) q.1

            rest_closed : (u v : ℕ) → Rest u → Of xs v → near k r u v ≡ true → Rest v
            rest_closed u v p m h = (m, λ q. near_other k r v u (near_sym k r u v h) (apart v u q p))

            own_closed : (u v : ℕ) → Of o.own u → Of xs v → near k r u v ≡ true → Of o.own v
            own_closed u v p m h =
                ⊎_elim
                (λ t. member_mem v o.own t)
                (λ t. absurd (near_other k r u v h (o.far u v p (cs.onto v m) (λ q. clash (mem_member q) t))))
                (decided (member v o.own))

    -- so xs is joined as well, or there is an N
    one_part : (y : ℕ) → Of xs y → (bs : List Block) → ComponentsOf k r xs bs
        → Linked (near k r) (Of (x ∷ xs)) → Linked (near (other k) r) (Of (x ∷ xs)) → Linked (near k r) (Of xs) ⊎ HasN n r
    one_part y m [] cs linked linked' = absurd (cs.onto y m)
    one_part y m (b ∷ []) cs linked linked' =
        inl
        (linked_within (near k r) (Of b) (Of xs) (λ u p. cs.from u (inl p)) (λ u p. ⊎_elim (λ q. q) (λ q. absurd q) (cs.onto u p))
        cs.parts.0.linked)
    one_part y m (b ∷ c ∷ bs) cs linked linked' = inr (two_parts b c bs cs linked linked')

  -- one job fewer
  fewer : (x y : ℕ) (zs : List ℕ) → Sorted (x ∷ y ∷ zs) → ((u : ℕ) → Of (x ∷ y ∷ zs) u → u < n)
      → ((k : Kind) → Linked (near k r) (Of (x ∷ y ∷ zs))) → (((k : Kind) → Linked (near k r) (Of (y ∷ zs))) → HasN n r) → HasN n r
  fewer x y zs sorted small linked rest = ⊎_elim (λ p. ⊎_elim (λ q. rest (elim [ series ↦ p | parallel ↦ q ])) (λ h. h) (part parallel)) (λ h. h) (part series)
    where
      part : (k : Kind) → Linked (near k r) (Of (y ∷ zs)) ⊎ HasN n r
      part k = one_part k x (y ∷ zs) sorted small y (Memᴰ.head refl) _ (components_of k r (y ∷ zs) sorted.1) (linked k) (linked (other k))

  pub connected_n : (x y : ℕ) (zs : List ℕ) → Sorted (x ∷ y ∷ zs) → ((u : ℕ) → Of (x ∷ y ∷ zs) u → u < n)
      → ((k : Kind) → Linked (near k r) (Of (x ∷ y ∷ zs))) → HasN n r
  connected_n x y [] sorted small linked = absurd (near_other series r y x (next_to series) (next_to parallel))
    where
      next_to : (k : Kind) → near k r y x ≡ true
      next_to k =
          let ys = y ∷ [] in
          let new = fresh k x ys sorted small in
          let t = touches (near k r) x ys new (linked k) (Of ys) (λ u m. m) (λ u v _ m _. m) y (Memᴰ.head refl) in
          ap (λ u. near k r u x) (sym (Memᴰ.eq_of_singleton t.1)) ∙ t.2
  connected_n x y (z ∷ zs) sorted small linked =
      fewer x y (z ∷ zs) sorted small linked (λ l. connected_n y z zs sorted.1 (λ u m. small u (Memᴰ.tail m)) l)
