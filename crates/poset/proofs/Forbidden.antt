-- The forbidden N: four jobs in a path of comparable jobs give one, and no tree's order has one.
use Prim.Native.Nat.{ℕ, ◌<◌}
use mathlib.Core.Path.{◌≡◌, sym, ◌∙◌}
use mathlib.Core.Bool.{true}
use mathlib.Core.Logic.{◌⊎◌, inl, inr, ⊎_elim}
use Rattle.poset.specs.Order.{Rel, Strict, is_n, HasN, incomparable}
use Rattle.poset.specs.Tree.{Kind, series, parallel, Tree, leaf, node, Forest, last, more, HasTree}
use Rattle.poset.specs.Inner.{In, InForest}
use Rattle.poset.proofs.Laws.{clash, and_left, and_right, and_intro}
use Rattle.poset.proofs.Standing.{
  Free,
  free,
  is_free,
  free_sym,
  tied,
  is_tied,
  near,
  other,
  near_sym,
  forced,
}
use Rattle.poset.proofs.Shape.{InGroup, Across, Good, GoodForest}
use Rattle.poset.proofs.Meaning.{means_fits}
use Rattle.poset.proofs.Linked.{stay_first, stay_rest}

-- the six facts of an N
pub record Crossing (r : Rel) (a b c d : ℕ) : Type 0 where
  pub ac : r a c ≡ true
  pub bc : r b c ≡ true
  pub bd : r b d ≡ true
  pub ab : Free r a b
  pub cd : Free r c d
  pub ad : Free r a d

pub n_crossing : (r : Rel) (a b c d : ℕ) → is_n r a b c d ≡ true → Crossing r a b c d
unfolding is_n
n_crossing r a b c d h =
    let h₁ = and_right (r a c) _ h in
    let h₂ = and_right (r b c) _ h₁ in
    let h₃ = and_right (r b d) _ h₂ in
    let h₄ = and_right (incomparable r a b) _ h₃ in
    record {
      ac = and_left (r a c) _ h;
      bc = and_left (r b c) _ h₁;
      bd = and_left (r b d) _ h₂;
      ab = free r a b (and_left (incomparable r a b) _ h₃);
      cd = free r c d (and_left (incomparable r c d) (incomparable r a d) h₄);
      ad = free r a d (and_right (incomparable r c d) (incomparable r a d) h₄);
    }

pub crossing_n : (r : Rel) (a b c d : ℕ) → Crossing r a b c d → is_n r a b c d ≡ true
unfolding is_n
crossing_n r a b c d x =
    and_intro (r a c) _ x.ac
    (and_intro (r b c) _ x.bc
    (and_intro (r b d) _ x.bd
    (and_intro (incomparable r a b) _ (is_free r a b x.ab)
    (and_intro (incomparable r c d) _ (is_free r c d x.cd) (is_free r a d x.ad)))))

-- p, q, s, w, each near the next and no other two
pub record PathOfFour (k : Kind) (r : Rel) (p q s w : ℕ) : Type 0 where
  pub pq : near k r p q ≡ true
  pub qs : near k r q s ≡ true
  pub sw : near k r s w ≡ true
  pub ps : near (other k) r p s ≡ true
  pub pw : near (other k) r p w ≡ true
  pub qw : near (other k) r q w ≡ true

module _ (n : ℕ) (r : Rel) (strict : Strict n r) where
  -- along a path of comparable jobs the directions alternate
  comparable_path : (p q s w : ℕ) → p < n → q < n → s < n → w < n → PathOfFour parallel r p q s w → HasN n r
  comparable_path p q s w p< q< s< w< x = ⊎_elim up down (tied r p q x.pq)
    where
      ps : Free r p s
      ps = free r p s x.ps

      pw : Free r p w
      pw = free r p w x.pw

      qw : Free r q w
      qw = free r q w x.qw

      up : r p q ≡ true → HasN n r
      up pq =
          let sq = forced r q s x.qs (λ qs. clash (strict.transitive p q s p< q< s< pq qs) ps.forth) in
          let sw = forced r w s (near_sym parallel r s w x.sw) (λ ws. clash (strict.transitive w s q w< s< q< ws sq) qw.back) in
          let found : Crossing r p s q w = record { ac = pq; bc = sq; bd = sw; ab = ps; cd = qw; ad = pw } in
          ((p, s, q, w), record { a_below = p<; b_below = s<; c_below = q<; d_below = w<; stands = crossing_n r p s q w found })

      down : r q p ≡ true → HasN n r
      down qp =
          let qs = forced r s q (near_sym parallel r q s x.qs) (λ sq. clash (strict.transitive s q p s< q< p< sq qp) ps.back) in
          let ws = forced r s w x.sw (λ sw. clash (strict.transitive q s w q< s< w< qs sw) qw.forth) in
          let found : Crossing r w q s p =
          record { ac = ws; bc = qs; bd = qp; ab = free_sym r q w qw; cd = free_sym r p s ps; ad = free_sym r p w pw } in
          ((w, q, s, p), record { a_below = w<; b_below = q<; c_below = s<; d_below = p<; stands = crossing_n r w q s p found })

  -- the complement of a path of four is a path of four
  pub path_n : (k : Kind) (p q s w : ℕ) → p < n → q < n → s < n → w < n → PathOfFour k r p q s w → HasN n r
  path_n parallel p q s w p< q< s< w< x = comparable_path p q s w p< q< s< w< x
  path_n series p q s w p< q< s< w< x =
      comparable_path s p w q s< p< w< q<
      (record {
        pq = near_sym parallel r p s x.ps;
        qs = x.pw;
        sw = near_sym parallel r q w x.qw;
        ps = x.sw;
        pw = near_sym series r q s x.qs;
        qw = x.pq;
      })

-- four jobs of S
abbrev FourIn : (ℕ → Type 0) → ℕ → ℕ → ℕ → ℕ → Type 0
FourIn S a b c d = S a × S b × S c × S d

-- each of four jobs is near the next: all are in one part
path_stays : (r : Rel) (k : Kind) (t : Tree) (f : Forest) → Across r k t f → (p q s w : ℕ) → near k r p q ≡ true → near k r q s ≡ true
    → near k r s w ≡ true → FourIn (InGroup t f) p q s w → FourIn (In t) p q s w ⊎ FourIn (InForest f) p q s w
path_stays r k t f x p q s w pq qs sw i = ⊎_elim first rest i.0
  where
    first : In t p → FourIn (In t) p q s w ⊎ FourIn (InForest f) p q s w
    first hp =
        let hq = stay_first r k t f x p q pq hp i.1 in
        let hs = stay_first r k t f x q s qs hq i.2 in
        inl (hp, hq, hs, stay_first r k t f x s w sw hs i.3)

    rest : InForest f p → FourIn (In t) p q s w ⊎ FourIn (InForest f) p q s w
    rest hp =
        let hq = stay_rest r k t f x p q pq hp i.1 in
        let hs = stay_rest r k t f x q s qs hq i.2 in
        inr (hp, hq, hs, stay_rest r k t f x s w sw hs i.3)

-- an N keeps to one part: in a parallel group by the ties a c b d, in a series group by b a d c
crossing_stays : (r : Rel) (k : Kind) (t : Tree) (f : Forest) → Across r k t f → (a b c d : ℕ) → Crossing r a b c d
    → FourIn (InGroup t f) a b c d → FourIn (In t) a b c d ⊎ FourIn (InForest f) a b c d
crossing_stays r parallel t f x a b c d n i =
    ⊎_elim
    (λ h. inl (h.0, h.2, h.1, h.3))
    (λ h. inr (h.0, h.2, h.1, h.3))
    (path_stays r parallel t f x a c b d
    (is_tied r a c (inl n.ac))
    (is_tied r c b (inr n.bc))
    (is_tied r b d (inl n.bd))
    (i.0, i.2, i.1, i.3))
crossing_stays r series t f x a b c d n i =
    ⊎_elim
    (λ h. inl (h.1, h.0, h.3, h.2))
    (λ h. inr (h.1, h.0, h.3, h.2))
    (path_stays r series t f x b a d c
    (is_free r b a (free_sym r a b n.ab))
    (is_free r a d n.ad)
    (is_free r d c (free_sym r c d n.cd))
    (i.1, i.0, i.3, i.2))

mutual
  good_no_n : (r : Rel) (t : Tree) → Good r t → (a b c d : ℕ) → Crossing r a b c d → FourIn (In t) a b c d → ⊥
  good_no_n r (leaf j) g a b c d n i = n.ab.differ (i.0 ∙ sym i.1)
  good_no_n r (node k t f) g a b c d n i =
      ⊎_elim (λ h. good_no_n r t g.0 a b c d n h) (λ h. good_forest_no_n r k f g.1 a b c d n h) (crossing_stays r k t f g.2 a b c d n i)

  good_forest_no_n : (r : Rel) (k : Kind) (f : Forest) → GoodForest r k f → (a b c d : ℕ) → Crossing r a b c d → FourIn (InForest f) a b c d → ⊥
  good_forest_no_n r k (last t) g a b c d n i = good_no_n r t g a b c d n i
  good_forest_no_n r k (more t f) g a b c d n i =
      ⊎_elim (λ h. good_no_n r t g.0 a b c d n h) (λ h. good_forest_no_n r k f g.1 a b c d n h) (crossing_stays r k t f g.2 a b c d n i)

pub tree_has_no_n : (n : ℕ) (r : Rel) → HasTree n r → HasN n r → ⊥
tree_has_no_n n r (t, m) (q, x) =
    let f = means_fits n r t m in
    let holds = f.holds in
    good_no_n r t f.good q.0 q.1 q.2 q.3
    (n_crossing r q.0 q.1 q.2 q.3 x.stands) (
      holds.outside q.0 x.a_below,
      holds.outside q.1 x.b_below,
      holds.outside q.2 x.c_below,
      holds.outside q.3 x.d_below,
    )
