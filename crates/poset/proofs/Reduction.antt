-- The transitive reduction: its arcs are the covers, ascending; its closure is the order; and any arcs with that closure have all of its arcs.
use Prim.Native.Nat.{ℕ, zero, suc, ◌≤◌, ◌<◌}
use native.Mathlib.Nat.{le_refl, le_of_lt}
use mathlib.Core.Path.{◌≡◌, refl, sym, ap, subst, ◌∙◌}
use mathlib.Core.List.Memᴰ
use mathlib.Core.List.{List, [], ◌∷◌, ◌++◌, map, flat_map, Memᴰ}
use mathlib.Core.Bool.{Bool, true, ◌&&◌}
use mathlib.Core.Logic.{inl, inr, ⊎_elim, ◌↔◌, ◌≢◌}
use native.Mathlib.Omega.{arith}
use Rattle.poset.specs.Lists.{keep, up_from, below}
use Rattle.poset.specs.Order.{Rel, Arc, Strict, arc, before, covers, pairs_of, reduction, SmallerArc, Ascending, empty, single, next}
use Rattle.poset.proofs.Laws.{decided, clash, false_unless, and_left, and_right, and_intro, not-true, not-false, same_test, any_miss, any_none}
use Rattle.poset.proofs.Laws.{keep_yes, keep_not, keep_mem, mem_keep, keep_agree, mem_up_from, below_mem, mem_below}
use Rattle.poset.proofs.Laws.{flat_map_mem, mem_flat_map, flat_map_agree}
use Rattle.poset.proofs.Closure.{via_base, via_trans, via_ind, via_split, arc_mem}

-- ascending lists

ascending_cons : (a : Arc) (arcs : List Arc) → ((b : Arc) → Memᴰ b arcs → SmallerArc a b) → Ascending arcs → Ascending (a ∷ arcs)
ascending_cons a [] h s = single
ascending_cons a (b ∷ arcs) h s = next (h b (Memᴰ.head refl)) s

ascending_append
    : {xs ys : List Arc} → Ascending xs → Ascending ys
    → ((a b : Arc) → Memᴰ a xs → Memᴰ b ys → SmallerArc a b) → Ascending (xs ++ ys)
ascending_append empty t h = t
ascending_append {ys} (single {a = a}) t h = ascending_cons a ys (λ b m. h a b (Memᴰ.head refl) m) t
ascending_append (next l s) t h = next l (ascending_append s t (λ a b m. h a b (Memᴰ.tail m)))

-- the arcs from u, to some of k, k + 1, ..
row_ascending : (p : ℕ → Bool) (u k n : ℕ) → Ascending (map (λ v. (u, v)) (keep p (up_from k n)))
unfolding up_from keep
row_ascending p u k zero = empty
row_ascending p u k (suc n) =
    ⊎_elim
    (λ e. rw (keep_yes p k (up_from (suc k) n) e) (ascending_cons (u, k) _ smaller (row_ascending p u (suc k) n)))
    (λ e. rw (keep_not p k (up_from (suc k) n) e) (row_ascending p u (suc k) n))
    (decided (p k))
  where
    smaller : (a : Arc) → Memᴰ a (map (λ v. (u, v)) (keep p (up_from (suc k) n))) → SmallerArc (u, k) a
    smaller a m =
        let s = Memᴰ.of_map (λ v. (u, v)) (keep p (up_from (suc k) n)) m in
        subst (SmallerArc (u, k)) s.2 (inr (refl, (mem_up_from (suc k) n (mem_keep p (up_from (suc k) n) s.1).0).0))

-- rows one after the other
rows_ascending
    : (row : ℕ → List Arc) → ((u : ℕ) → Ascending (row u)) → ((u : ℕ) (a : Arc) → Memᴰ a (row u) → a.0 ≡ u)
    → (k n : ℕ) → Ascending (flat_map row (up_from k n))
unfolding up_from flat_map
rows_ascending row s h k zero = empty
rows_ascending row s h k (suc n) =
    ascending_append (s k) (rows_ascending row s h (suc k) n) λ a b ma mb.
    let x = mem_flat_map row (up_from (suc k) n) mb in
    inl (omega (arith, h k a ma, h x.0 b x.2, mem_up_from (suc k) n x.1))

-- covers

module _ (n : ℕ) (r : Rel) where
  pub covers_iff : (u v : ℕ) → (covers n r u v ≡ true) ↔ ((r u v ≡ true) × ((w : ℕ) → w < n → r u w ≡ true → r w v ≡ true → ⊥))
  unfolding covers
  covers_iff u v = (
    λ h.
        (and_left (r u v) _ h, λ w l p q. clash (and_intro _ _ p q) (any_miss between (below n) (not-true _ (and_right (r u v) _ h)) (below_mem l))),
    λ h.
        and_intro _ _ h.0 (not-false _ (any_none between (below n)
        λ w m. false_unless _ λ e. h.1 w (mem_below n m) (and_left (r u w) _ e) (and_right (r u w) _ e))),
  )
    where
      between : ℕ → Bool
      between w = r u w && r w v

  row : ℕ → List Arc
  row u = map (λ v. (u, v)) (keep (covers n r u) (below n))

  row_mem : (u : ℕ) {a : Arc} → Memᴰ a (row u) → (a.0 ≡ u) × (a.1 < n) × (covers n r u a.1 ≡ true)
  unfolding row
  row_mem u m =
      let s = Memᴰ.of_map (λ v. (u, v)) (keep (covers n r u) (below n)) m in
      let k = mem_keep (covers n r u) (below n) s.1 in
      subst (λ (b : Arc). (b.0 ≡ u) × (b.1 < n) × (covers n r u b.1 ≡ true)) s.2 (refl, mem_below n k.0, k.1)

  pub reduction_is_covers
      : ((u v : ℕ) → Memᴰ (u, v) (reduction n r)
      ↔ ((u < n) × (v < n) × (r u v ≡ true) × ((w : ℕ) → w < n → r u w ≡ true → r w v ≡ true → ⊥)))
      × Ascending (reduction n r)
  unfolding reduction pairs_of row below
  reduction_is_covers = (
    λ u v. (
      λ m.
          let s = mem_flat_map row (below n) m in
          let c = row_mem s.0 s.2 in
          let h = (covers_iff u v).0 (ap (λ x. covers n r x v) c.0 ∙ c.2) in
          (omega (arith, mem_below n s.1), c.1, h.0, h.1),
      λ c.
          flat_map_mem row (below_mem c.0) (Memᴰ.map (λ x. (u, x)) (keep_mem (covers n r u) (below_mem c.1) ((covers_iff u v).1 (c.2, c.3)))),
    ),
    rows_ascending row (λ u. row_ascending (covers n r u) u 0 n) (λ u a m. (row_mem u m).0) 0 n,
  )

  module _ (strict : Strict n r) where
    apart : {u v : ℕ} → u < n → r u v ≡ true → u ≢ v
    apart {u} l h d = clash (ap (r u) d ∙ h) (strict.irreflexive u l)

    reduction_below : (u v : ℕ) → before n (reduction n r) u v ≡ true → (u < n) × (v < n) × (r u v ≡ true)
    unfolding before
    reduction_below =
        via_ind (arc (reduction n r)) (λ u v. (u < n) × (v < n) × (r u v ≡ true))
        (λ u v h. let c = (reduction_is_covers.0 u v).0 ((arc_mem (reduction n r) u v).0 h) in (c.0, c.1, c.2))
        (λ u w v p q. (p.0, q.1, strict.transitive u w v p.0 p.1 q.1 p.2 q.2))
        n

    -- by induction on a bound k of the jobs between u and v: where k is one of them, it bounds those on either side of it
    reduction_above
        : (k : ℕ) → k ≤ n → (u v : ℕ) → u < n → v < n → r u v ≡ true
        → ((w : ℕ) → w < n → r u w ≡ true → r w v ≡ true → w < k) → before n (reduction n r) u v ≡ true
    unfolding before
    reduction_above zero lk u v lu lv h b =
        via_base _ n u v ((arc_mem (reduction n r) u v).1 ((reduction_is_covers.0 u v).1 (lu, lv, h, λ w l p q. absurd (omega (arith, b w l p q)))))
    reduction_above (suc k) lk u v lu lv h b =
        ⊎_elim
        (λ e.
        let p = and_left (r u k) (r k v) e in
        let q = and_right (r u k) (r k v) e in
        via_trans _ n u k v lk
        (reduction_above k (le_of_lt lk) u k lu lk p λ w l s t. omega (arith, b w l s (strict.transitive w k v l lk lv t q), apart l t))
        (reduction_above k (le_of_lt lk) k v lk lv q λ w l s t. omega (arith, b w l (strict.transitive u k w lu lk l p s) t, apart lk s)))
        (λ e.
        reduction_above k (le_of_lt lk) u v lu lv h λ w l s t.
        let d : w ≢ k = λ d. clash (and_intro (r u k) (r k v) (ap (r u) (sym d) ∙ s) (ap (λ x. r x v) (sym d) ∙ t)) e in
        omega (arith, b w l s t))
        (decided (r u k && r k v))

    pub reduction_closes : (u v : ℕ) → u < n → v < n → before n (reduction n r) u v ≡ r u v
    reduction_closes u v lu lv =
        same_test _ (r u v) (λ h. (reduction_below u v h).2) (λ h. reduction_above n (le_refl n) u v lu lv h (λ w l _ _. l))

  pub reduction_least
      : (arcs : List Arc) → ((u v : ℕ) → u < n → v < n → before n arcs u v ≡ r u v)
      → (a : Arc) → Memᴰ a (reduction n r) → Memᴰ a arcs
  unfolding before
  reduction_least arcs same a m =
      let c = (reduction_is_covers.0 a.0 a.1).0 m in
      ⊎_elim
      (λ h. (arc_mem arcs a.0 a.1).0 h)
      (λ s. absurd (c.3 s.0 s.1 (sym (same a.0 s.0 c.0 s.1) ∙ s.2) (sym (same s.0 a.1 s.1 c.1) ∙ s.3)))
      (via_split (arc arcs) n a.0 a.1 (same a.0 a.1 c.0 c.1 ∙ c.2))

-- the reduction depends on the relation among the jobs below n alone

module _ (n : ℕ) where
  covers_from : (r q : Rel) → ((u v : ℕ) → u < n → v < n → r u v ≡ q u v) → (u v : ℕ) → u < n → v < n → covers n r u v ≡ true → covers n q u v ≡ true
  covers_from r q same u v lu lv h =
      let c = (covers_iff n r u v).0 h in
      (covers_iff n q u v).1 (sym (same u v lu lv) ∙ c.0, λ w l x y. c.1 w l (same u w lu l ∙ x) (same w v l lv ∙ y))

  pub reduction_same : (r q : Rel) → ((u v : ℕ) → u < n → v < n → r u v ≡ q u v) → reduction n r ≡ reduction n q
  unfolding reduction pairs_of
  reduction_same r q same =
      flat_map_agree _ _ (below n) λ u lu.
      ap (map (λ v. (u, v)))
      (keep_agree _ _ (below n) λ v lv.
      same_test (covers n r u v) (covers n q u v)
      (covers_from r q same u v (mem_below n lu) (mem_below n lv))
      (covers_from q r (λ x y lx ly. sym (same x y lx ly)) u v (mem_below n lu) (mem_below n lv)))
