-- The blocks that a group is made of: each joined and sorted, those of a series in their order, those of a parallel group by rank.
use Prim.Native.Nat.{ℕ, ◌<◌}
use mathlib.Core.Path.{◌≡◌, refl}
use mathlib.Core.List.Memᴰ
use mathlib.Core.List.{List, [], ◌∷◌}
use mathlib.Core.Bool.{Bool, true, false}
use mathlib.Core.Logic.{◌⊎◌, inl, inr, ⊎_elim}
use lib.ListN.{length, get_or}
use Rattle.poset.specs.Lists.{keep, member}
use Rattle.poset.specs.Order.{Rel, Strict}
use Rattle.poset.specs.Tree.{Kind, series, parallel}
use Rattle.poset.specs.Decompose.{Block, components, placed, arranged, sorted, comes_first, parts}
use Rattle.poset.specs.Inner.{Each, Pairs}
use Rattle.poset.proofs.Laws.{decided, clash, false_unless, member_mem, mem_member, keep_yes, keep_not, keep_mem, mem_keep}
use Rattle.poset.proofs.Sums.{length_keep_lt}
use Rattle.poset.proofs.Standing.{near, other, Free, Stands, near_sym, free, forced}
use Rattle.poset.proofs.Shape.{Same}
use Rattle.poset.proofs.Ranks.{first_transitive, first_total}
use Rattle.poset.proofs.Linked.{Linked, linked_within}
use Rattle.poset.proofs.Components.{Of, OfBlocks, Sorted, Parts, components_of}

pub head_in : (b : Block) (u : ℕ) → Of b u → Of b (get_or b 0 0)
head_in [] u p = absurd (Memᴰ.not-nil p)
head_in (x ∷ xs) u p = Memᴰ.head refl

-- lists of blocks

-- each job of a block stands to those of later blocks as in a group of this kind
abbrev pub Laid : Kind → Rel → List Block → Type 0
Laid k r [] = Unit {0}
Laid k r (b ∷ bs) = ((u v : ℕ) → Of b u → OfBlocks bs v → Stands k r u v) × Laid k r bs

-- each block of a parallel group comes ahead of the next one
abbrev pub Before : Kind → Rel → Block → Block → Type 0
Before series r b c = Unit {0}
Before parallel r b c = comes_first parallel r b c ≡ true

abbrev pub Ordered : Kind → Rel → List Block → Type 0
Ordered k r [] = Unit {0}
Ordered k r (b ∷ []) = Unit {0}
Ordered k r (b ∷ c ∷ bs) = Before k r b c × Ordered k r (c ∷ bs)

-- a block in its place

module _ (first : Block → Block → Bool) where
  pub placed_yes : (b c : Block) (cs : List Block) → first b c ≡ true → placed first b (c ∷ cs) ≡ b ∷ c ∷ cs
  unfolding placed
  placed_yes b c cs e = rw (e, placed)

  pub placed_not : (b c : Block) (cs : List Block) → first b c ≡ false → placed first b (c ∷ cs) ≡ c ∷ placed first b cs
  unfolding placed
  placed_not b c cs e = rw (e, placed)

  -- it is one block more, wherever its place is
  pub placed_each {ℓ} : (P : Block → Type ℓ) (b : Block) (cs : List Block) → P b → Each P cs → Each P (placed first b cs)
  unfolding placed
  placed_each P b [] p ps = (p, tt)
  placed_each P b (c ∷ cs) p ps =
      ⊎_elim
      (λ e. rw (placed_yes b c cs e) (p, ps))
      (λ e. rw (placed_not b c cs e) (ps.0, placed_each P b cs p ps.1))
      (decided (first b c))

  placed_same : (b : Block) (cs : List Block) → Same (OfBlocks (placed first b cs)) (OfBlocks (b ∷ cs))
  unfolding placed
  placed_same b [] u = (λ p. p, λ p. p)
  placed_same b (c ∷ cs) u =
      ⊎_elim (λ e. rw (placed_yes b c cs e) (λ p. p, λ p. p)) (λ e. rw (placed_not b c cs e) (turned (placed_same b cs u))) (decided (first b c))
    where
      turned : {A B C D : Type 0} → (D → A ⊎ C) × (A ⊎ C → D) → (B ⊎ D → A ⊎ (B ⊎ C)) × (A ⊎ (B ⊎ C) → B ⊎ D)
      turned ih = (
        ⊎_elim (λ p. inr (inl p)) (λ p. ⊎_elim (λ q. inl q) (λ q. inr (inr q)) (ih.0 p)),
        ⊎_elim (λ p. inr (ih.1 (inl p))) (⊎_elim (λ p. inl p) (λ p. inr (ih.1 (inr p)))),
      )

  pub arranged_each {ℓ} : (P : Block → Type ℓ) (bs : List Block) → Each P bs → Each P (arranged first bs)
  unfolding arranged
  arranged_each P [] ps = tt
  arranged_each P (b ∷ bs) ps = placed_each P b (arranged first bs) ps.0 (arranged_each P bs ps.1)

  pub arranged_same : (bs : List Block) → Same (OfBlocks (arranged first bs)) (OfBlocks bs)
  unfolding arranged
  arranged_same [] u = (λ p. p, λ p. p)
  arranged_same (b ∷ bs) u =
      let here = placed_same b (arranged first bs) u in
      let rest = arranged_same bs u in (
        λ p. ⊎_elim (λ q. inl q) (λ q. inr (rest.0 q)) (here.0 p),
        λ p. here.1 (⊎_elim (λ q. inl q) (λ q. inr (rest.1 q)) p),
      )

  -- blocks that meet come to stand as the test says
  module _ {ℓ} (Meets : Block → Block → Type ℓ) (Stand : Block → Block → Type 0)
      (yes : (b c : Block) → Meets b c → first b c ≡ true → Stand b c) (not : (b c : Block) → Meets b c → first b c ≡ false → Stand c b)
      (step : (b c d : Block) → Meets b c → Meets b d → Stand b c → Stand c d → Stand b d) where
    steps : (b c : Block) (ds : List Block) → Meets b c → Stand b c → Each (Meets b) ds → Each (Stand c) ds → Each (Stand b) ds
    steps b c [] m s ms ss = tt
    steps b c (d ∷ ds) m s ms ss = (step b c d m ms.0 s ss.0, steps b c ds m s ms.1 ss.1)

    placed_pairs : (b : Block) (cs : List Block) → Each (Meets b) cs → Pairs Stand cs → Pairs Stand (placed first b cs)
    unfolding placed
    placed_pairs b [] ms ps = (tt, tt)
    placed_pairs b (c ∷ cs) ms ps =
        ⊎_elim
        (λ e. let s = yes b c ms.0 e in rw (placed_yes b c cs e) ((s, steps b c cs ms.0 s ms.1 ps.0), ps))
        (λ e. rw (placed_not b c cs e) (placed_each (Stand c) b cs (not b c ms.0 e) ps.0, placed_pairs b cs ms.1 ps.1))
        (decided (first b c))

    pub arranged_pairs : (bs : List Block) → Pairs Meets bs → Pairs Stand (arranged first bs)
    unfolding arranged
    arranged_pairs [] ms = tt
    arranged_pairs (b ∷ bs) ms = placed_pairs b (arranged first bs) (arranged_each (Meets b) bs ms.0) (arranged_pairs bs ms.1)

-- how two blocks of a group stand
abbrev Follows : Kind → Rel → Block → Block → Type 0
Follows k r b c = ((u v : ℕ) → Of b u → Of c v → Stands k r u v) × Before k r b c

pairs_laid : (k : Kind) (r : Rel) (bs : List Block) → Pairs (Follows k r) bs → Laid k r bs
pairs_laid k r [] ps = tt
pairs_laid k r (b ∷ bs) ps = (across bs ps.0, pairs_laid k r bs ps.1)
  where
    across : (cs : List Block) → Each (Follows k r b) cs → (u v : ℕ) → Of b u → OfBlocks cs v → Stands k r u v
    across [] fs u v p q = absurd q
    across (c ∷ cs) fs u v p q = ⊎_elim (λ m. fs.0.0 u v p m) (λ m. across cs fs.1 u v p m) q

pairs_ordered : (k : Kind) (r : Rel) (bs : List Block) → Pairs (Follows k r) bs → Ordered k r bs
pairs_ordered k r [] ps = tt
pairs_ordered k r (b ∷ []) ps = tt
pairs_ordered k r (b ∷ c ∷ bs) ps = (ps.0.0.1, pairs_ordered k r (c ∷ bs) ps.1)

module _ (n : ℕ) (r : Rel) (strict : Strict n r) where
  pub asymmetric : (u v : ℕ) → u < n → v < n → r u v ≡ true → r v u ≡ false
  asymmetric u v lu lv h = false_unless (r v u) (λ e. clash (strict.transitive u v u lu lv lu h e) (strict.irreflexive u lu))

  -- a set joined by incomparability lies on one side of a job that all of it is comparable to
  module _ (S : ℕ → Type 0) (small : (u : ℕ) → S u → u < n) (linked : Linked (near series r) S) (w : ℕ) (lw : w < n)
      (tied : (u : ℕ) → S u → near parallel r u w ≡ true) where
    pub all_before : (u v : ℕ) → S u → S v → r u w ≡ true → r v w ≡ true
    all_before =
        linked (λ u. r u w ≡ true)
        (λ u v p q h uw.
        forced r w v (near_sym parallel r v w (tied v q))
        (λ wv. clash (strict.transitive u w v (small u p) lw (small v q) uw wv) (free r u v h).forth))

    pub all_after : (u v : ℕ) → S u → S v → r w u ≡ true → r w v ≡ true
    all_after =
        linked (λ u. r w u ≡ true)
        (λ u v p q h wu.
        forced r v w (tied v q)
        (λ vw. clash (strict.transitive v w u (small v q) lw (small u p) vw wu) (free r u v h).back))

  -- two blocks of one kind of group, each with its first job
  pub record Joined (k : Kind) (b : Block) : Type 1 where
    pub linked : Linked (near k r) (Of b)
    pub first : Of b (get_or b 0 0)
    pub small : (u : ℕ) → Of b u → u < n

  pub record Meet (k : Kind) (b c : Block) : Type 1 where
    pub one : Joined k b
    pub two : Joined k c
    pub tied : (u v : ℕ) → Of b u → Of c v → near (other k) r u v ≡ true

  turn : (k : Kind) (b c : Block) → Meet k b c → Meet k c b
  turn k b c m = record { one = m.two; two = m.one; tied = λ u v p q. near_sym (other k) r v u (m.tied v u q p) }

  -- what the first jobs of two blocks of a series say, all of them say
  series_yes : (b c : Block) → Meet series b c → comes_first series r b c ≡ true → Follows series r b c
  unfolding comes_first
  series_yes b c m h = (each, tt)
    where
      c₀ : ℕ
      c₀ = get_or c 0 0

      each : (u v : ℕ) → Of b u → Of c v → Stands series r u v
      each u v p q =
          let jb = m.one in
          let jc = m.two in
          let lu = jb.small u p in
          let uc = all_before (Of b) jb.small jb.linked c₀ (jc.small _ jc.first) (λ a i. m.tied a c₀ i jc.first) (get_or b 0 0) u jb.first p h in
          let uv = all_after (Of c) jc.small jc.linked u lu (λ a i. near_sym parallel r u a (m.tied u a p i)) c₀ v jc.first q uc in
          (uv, asymmetric u v lu (jc.small v q) uv)

  series_not : (b c : Block) → Meet series b c → comes_first series r b c ≡ false → Follows series r c b
  unfolding comes_first
  series_not b c m h =
      series_yes c b (turn series b c m)
      (forced r (get_or b 0 0) (get_or c 0 0) (m.tied _ _ m.one.first m.two.first) (λ e. clash e h))

  series_step : (b c d : Block) → Meet series b c → Meet series b d → Follows series r b c → Follows series r c d → Follows series r b d
  series_step b c d m m' s s' = (each, tt)
    where
      each : (u v : ℕ) → Of b u → Of d v → Stands series r u v
      each u v p q =
          let jc = m.two in
          let lu = m.one.small u p in
          let lv = m'.two.small v q in
          let c₀ = get_or c 0 0 in
          let uv = strict.transitive u c₀ v lu (jc.small _ jc.first) lv (s.0 u c₀ p jc.first).0 (s'.0 c₀ v jc.first q).0 in
          (uv, asymmetric u v lu lv uv)

  -- blocks side by side
  apart : (b c : Block) → Meet parallel b c → get_or b 0 0 ≡ get_or c 0 0 → ⊥
  apart b c m = (free r _ _ (m.tied _ _ m.one.first m.two.first)).differ

  free_all : (b c : Block) → Meet parallel b c → (u v : ℕ) → Of b u → Of c v → Free r u v
  free_all b c m u v p q = free r u v (m.tied u v p q)

  -- by either kind
  meet_yes : (k : Kind) (b c : Block) → Meet k b c → comes_first k r b c ≡ true → Follows k r b c
  meet_yes series b c m h = series_yes b c m h
  meet_yes parallel b c m h = (free_all b c m, h)

  meet_not : (k : Kind) (b c : Block) → Meet k b c → comes_first k r b c ≡ false → Follows k r c b
  meet_not series b c m h = series_not b c m h
  meet_not parallel b c m h = (free_all c b (turn parallel b c m), first_total r b c (apart b c m) h)

  meet_step : (k : Kind) (b c d : Block) → Meet k b c → Meet k b d → Follows k r b c → Follows k r c d → Follows k r b d
  meet_step series b c d m m' s s' = series_step b c d m m' s s'
  meet_step parallel b c d m m' s s' = (free_all b d m', first_transitive r b c d s.1 s'.1)

  pub meet_laid : (k : Kind) (bs : List Block) → Pairs (Meet k) bs → Laid k r (arranged (comes_first k r) bs) × Ordered k r (arranged (comes_first k r) bs)
  meet_laid k bs ms =
      let ps = arranged_pairs (comes_first k r) (Meet k) (Follows k r) (meet_yes k) (meet_not k) (meet_step k) bs ms in
      (pairs_laid k r (arranged (comes_first k r) bs) ps, pairs_ordered k r (arranged (comes_first k r) bs) ps)

-- blocks in the order of the whole list

abbrev in_order : List ℕ → Block → Block
in_order js b = keep (λ j. member j b) js

in_order_from : (js : List ℕ) (b : Block) (u : ℕ) → Of (in_order js b) u → Of b u × Of js u
in_order_from js b u p = let m = mem_keep (λ j. member j b) js p in (member_mem u b m.1, m.0)

in_order_onto : (js : List ℕ) (b : Block) (u : ℕ) → Of b u → Of js u → Of (in_order js b) u
in_order_onto js b u p q = keep_mem (λ j. member j b) q (mem_member p)

pub keep_sorted : (p : ℕ → Bool) (xs : List ℕ) → Sorted xs → Sorted (keep p xs)
unfolding keep
keep_sorted p [] s = tt
keep_sorted p (x ∷ xs) s =
    ⊎_elim
    (λ e. rw (keep_yes p x xs e) ((λ v m. s.0 v (mem_keep p xs m).0), keep_sorted p xs s.1))
    (λ e. rw (keep_not p x xs e) (keep_sorted p xs s.1))
    (decided (p x))

sorted_from : (js : List ℕ) (bs : List Block) (u : ℕ) → OfBlocks (sorted js bs) u → OfBlocks bs u
unfolding sorted
sorted_from js [] u p = p
sorted_from js (b ∷ bs) u p = ⊎_elim (λ m. inl (in_order_from js b u m).0) (λ m. inr (sorted_from js bs u m)) p

sorted_onto : (js : List ℕ) (bs : List Block) (u : ℕ) → Of js u → OfBlocks bs u → OfBlocks (sorted js bs) u
unfolding sorted
sorted_onto js [] u q p = p
sorted_onto js (b ∷ bs) u q p = ⊎_elim (λ m. inl (in_order_onto js b u m q)) (λ m. inr (sorted_onto js bs u q m)) p

-- the blocks of a group, ready to be made into trees

-- a joined block with a job, within js
pub record Raw (k : Kind) (r : Rel) (js : List ℕ) (b : Block) : Type 1 where
  pub linked : Linked (near k r) (Of b)
  pub some_job : ℕ
  pub has : Of b some_job
  pub within : (u : ℕ) → Of b u → Of js u

pub record Ready (k : Kind) (r : Rel) (js : List ℕ) (b : Block) : Type 1 where
  pub raw : Raw k r js b
  pub ascending : Sorted b
  pub shorter : (x : ℕ) → Of js x → (Of b x → ⊥) → length b < length js

pub record Blocks (k : Kind) (r : Rel) (js : List ℕ) (bs : List Block) : Type 1 where
  pub laid : Laid k r bs
  pub ready : Each (Ready k r js) bs
  pub ordered : Ordered k r bs
  pub from : (u : ℕ) → OfBlocks bs u → Of js u
  pub onto : (u : ℕ) → Of js u → OfBlocks bs u

parts_raw : (k : Kind) (r : Rel) (js : List ℕ) (bs : List Block) → Parts k r bs → ((u : ℕ) → OfBlocks bs u → Of js u) → Each (Raw k r js) bs
parts_raw k r js [] ps from = tt
parts_raw k r js (b ∷ bs) ps from = (
  record { linked = ps.0.linked; some_job = ps.0.leader; has = ps.0.leads; within = λ u m. from u (inl m) },
  parts_raw k r js bs ps.1 (λ u m. from u (inr m)),
)

raw_ready : (k : Kind) (r : Rel) (js : List ℕ) → Sorted js → (bs : List Block) → Each (Raw k r js) bs → Each (Ready k r js) (sorted js bs)
unfolding sorted
raw_ready k r js s [] rs = tt
raw_ready k r js s (b ∷ bs) rs =
    let raw = rs.0 in
    let to : (u : ℕ) → Of b u → Of (in_order js b) u = λ u p. in_order_onto js b u p (raw.within u p) in (
      record {
        raw = record {
          linked = linked_within (near k r) (Of b) (Of (in_order js b)) to (λ u p. (in_order_from js b u p).0) raw.linked;
          some_job = raw.some_job;
          has = to raw.some_job raw.has;
          within = λ u p. (in_order_from js b u p).1;
        };
        ascending = keep_sorted (λ j. member j b) js s;
        shorter = λ x p away. length_keep_lt (λ j. member j b) p (false_unless _ (λ e. away (in_order_onto js b x (member_mem x b e) p)));
      },
      raw_ready k r js s bs rs.1,
    )

module _ (n : ℕ) (r : Rel) (strict : Strict n r) (k : Kind) (js : List ℕ) (s : Sorted js) (small : (u : ℕ) → Of js u → u < n) where
  ready_joined : (b : Block) → Ready k r js b → Joined n r strict k b
  ready_joined b x =
      record { linked = x.raw.linked; first = head_in b x.raw.some_job x.raw.has; small = λ u m. small u (x.raw.within u m) }

  parts_meet : (bs : List Block) → Parts k r bs → Each (Ready k r js) (sorted js bs) → Pairs (Meet n r strict k) (sorted js bs)
  unfolding sorted
  parts_meet [] ps rs = tt
  parts_meet (b ∷ bs) ps rs = (meets bs ps.0.far rs.1, parts_meet bs ps.1 rs.1)
    where
      meets : (cs : List Block) → ((u v : ℕ) → Of b u → OfBlocks cs v → near (other k) r u v ≡ true) → Each (Ready k r js) (sorted js cs)
          → Each (Meet n r strict k (in_order js b)) (sorted js cs)
      meets [] far rs' = tt
      meets (c ∷ cs) far rs' = (
        record {
          one = ready_joined (in_order js b) rs.0;
          two = ready_joined (in_order js c) rs'.0;
          tied = λ u v p q. far u v (in_order_from js b u p).0 (inl (in_order_from js c v q).0);
        },
        meets cs (λ u v p q. far u v p (inr q)) rs'.1,
      )

  pub group_blocks : Blocks k r js (parts k r js)
  unfolding parts
  group_blocks =
      let c = components_of k r js s in
      let bs = components (near k r) js in
      let first = comes_first k r in
      let ready = raw_ready k r js s bs (parts_raw k r js bs c.parts c.from) in
      let laid = meet_laid n r strict k (sorted js bs) (parts_meet bs c.parts ready) in
      let same = arranged_same first (sorted js bs) in
      record {
        laid = laid.0;
        ready = arranged_each first (Ready k r js) (sorted js bs) ready;
        ordered = laid.1;
        from = λ u p. c.from u (sorted_from js bs u ((same u).0 p));
        onto = λ u p. (same u).1 (sorted_onto js bs u p (c.onto u p));
      }
