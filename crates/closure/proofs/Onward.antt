-- Runs by their first arc, and a row made from the finished rows of the jobs that its arcs lead to.
use Prim.Native.Nat.{ℕ, ◌+◌, ◌≤◌, ◌<◌}
use native.Mathlib.Decide.{ℕ_discrete}
use native.Mathlib.Omega.{arith}
use mathlib.Core.Path.{◌≡◌, sym, ap, ap₂, fun_ext, ◌∙◌}
use mathlib.Core.List.{List}
use mathlib.Core.Bool.{Bool, true, false, ◌&&◌, ◌||◌, not}
use mathlib.Core.Logic.{◌⊎◌, inl, inr, ⊎_elim}
use Rattle.std.specs.Prelude.{None}
use borrow.Author.Tests.{ne_eqb}
use lib.Dec.{eqb}
use lib.ListN.{length, set}
use Rattle.poset.specs.Lists.{exists, keep, below}
use Rattle.poset.specs.Order.{Rel, via, first_on_cycle_of, pairs_of}
use Rattle.poset.proofs.Laws.{decided, clash, false_unless, and_left, and_right, and_intro, or_cases, or_left, or_right, eqb_same, same_test}
use Rattle.poset.proofs.Laws.{any_hit, any_found, any_miss, below_mem, keep_agree, found_or_none}
use Rattle.poset.proofs.Closure.{via_base, via_trans, via_ind}
use Rattle.poset.proofs.Searches.{first_on_cycle_none}
use Rattle.poset.proofs.Sums.{sum_le, sum_agree, sum_zero, sum_const, sum_but, length_below}
use Rattle.relation.specs.Table.{has, holds, members}
use Rattle.relation.proofs.Lists.{keep_none, and-true, and_false}
use Rattle.relation.proofs.Sets.{members_below}
use Rattle.relation.proofs.Tables.{row_here, row_there}
use Rattle.relation.proofs.Chain.{via_inside}
use Rattle.closure.specs.Joins.{pass_joins, join_count}
use Rattle.closure.specs.Rows.{joins_but, Rows, Cyclic}
use Rattle.closure.proofs.Counting.{keep_small, pairs_count}

module _ (n : ℕ) (r : Rel) (inside : (u v : ℕ) → r u v ≡ true → (u < n) × (v < n)) where
  -- an arc, or an arc and a run on from its end
  abbrev First : ℕ → ℕ → Type 0
  First u v = (r u v ≡ true) ⊎ ((w : ℕ) × (r u w ≡ true) × (via r n w v ≡ true))

  first_run : (u v : ℕ) → First u v → via r n u v ≡ true
  first_run u v =
      ⊎_elim
      (via_base r n u v)
      (λ s. via_trans r n u s.0 v (inside u s.0 s.1).1 (via_base r n u s.0 s.1) s.2)

  -- each run begins with an arc
  pub run_first : (u v : ℕ) → via r n u v ≡ true → First u v
  run_first = via_ind r First (λ u v h. inl h) join n
    where
      join : (u w v : ℕ) → First u w → First w v → First u v
      join u w v p q =
          ⊎_elim
          (λ h. inr (w, h, first_run w v q))
          (λ s. inr (s.0, s.1, via_trans r n s.0 w v (via_inside n r inside n s.0 w s.2).1 s.2 (first_run w v q)))
          p

  pub run_row : n ≤ 128 → (u v : ℕ) → (r u v || exists (λ w. r u w && via r n w v) (below 128)) ≡ via r n u v
  run_row small u v = same_test _ _ on back
    where
      p : ℕ → Bool
      p w = r u w && via r n w v

      on : (r u v || exists p (below 128)) ≡ true → via r n u v ≡ true
      on h =
          first_run u v (⊎_elim
          inl
          (λ e. let f = any_found p (below 128) e in inr (f.0, and_left (r u f.0) _ f.2, and_right (r u f.0) _ f.2))
          (or_cases (r u v) _ h))

      back : via r n u v ≡ true → (r u v || exists p (below 128)) ≡ true
      back h =
          ⊎_elim
          (λ e. or_left _ _ e)
          (λ s. or_right (r u v) _ (any_hit p (below_mem (omega (arith, inside u s.0 s.1))) (and_intro _ _ s.1 s.2)))
          (run_first u v h)

  -- a run from a finished job leads to finished jobs
  run_stays : (left : List ℕ) → ((u v : ℕ) → has left u ≡ false → r u v ≡ true → has left v ≡ false)
      → (u v : ℕ) → via r n u v ≡ true → has left u ≡ false → has left v ≡ false
  run_stays left onward = via_ind r (λ u v. has left u ≡ false → has left v ≡ false) (λ u v h l. onward u v l h) (λ u w v p q l. q (p l)) n

-- the joins of all rows but those left: one for each arc of a job
module _ (n : ℕ) (r : Rel) where
  -- the joins for one row
  abbrev own : List ℕ → ℕ → ℕ
  own left u = elim (has left u) [ true ↦ 0 | false ↦ length (keep (r u) (below n)) ]

  own_left : (left : List ℕ) (u : ℕ) → has left u ≡ true → own left u ≡ 0
  own_left left u h = rw (own, h)

  own_made : (left : List ℕ) (u : ℕ) → has left u ≡ false → own left u ≡ length (keep (r u) (below n))
  own_made left u h = rw (own, h)

  own_small : (left : List ℕ) (u : ℕ) → own left u ≤ n
  own_small left u =
      ⊎_elim
      (λ h. omega (arith, own_left left u h))
      (λ h. omega (arith, own_made left u h, keep_small (r u) n))
      (decided (has left u))

  pub joins_small : n ≤ 128 → (left : List ℕ) → joins_but n r left ≤ 16384
  joins_small small left =
      omega (arith, sum_le (own left) (λ u. 128) (below n) (λ u m. omega (arith, own_small left u)), sum_const 128 (below n), length_below n)

  -- one row more
  pub joins_next
      : (left left' : List ℕ) (u : ℕ) → u < n → has left u ≡ true → ((v : ℕ) → has left' v ≡ (has left v && not (eqb u v)))
      → joins_but n r left' ≡ joins_but n r left + length (keep (r u) (below n))
  joins_next left left' u l h but =
      omega (
        arith,
        sum_but (own left) (own left') n u l (λ v d. ap (λ (b : Bool). elim b [ true ↦ 0 | false ↦ length (keep (r v) (below n)) ]) (sym (same v d))),
        own_left left u h,
        own_made left' u (but u ∙ ap (λ (b : Bool). has left u && not b) (eqb_same u) ∙ and_false (has left u)),
      )
    where
      same : (v : ℕ) → (v ≡ u → ⊥) → has left' v ≡ has left v
      same v d = but v ∙ ap (λ (b : Bool). has left v && not b) (ne_eqb u v (λ e. d (sym e))) ∙ and-true (has left v)

  pub joins_all : (left : List ℕ) → ((u : ℕ) → has left u ≡ false) → joins_but n r left ≡ length (pairs_of n r)
  joins_all left none_left = sum_agree (own left) (λ u. length (keep (r u) (below n))) (below n) (λ u m. own_made left u (none_left u)) ∙ sym (pairs_count n r)

  pub joins_none : (left : List ℕ) → ((u v : ℕ) → has left u ≡ false → r u v ≡ false) → joins_but n r left ≡ 0
  joins_none left empty =
      sum_zero (own left) (below n) λ u m.
      ⊎_elim
      (own_left left u)
      (λ h. own_made left u h ∙ ap length (keep_none (r u) (below n) (λ v k. empty u v h)))
      (decided (has left u))

-- a row is finished
module _ (n : ℕ) (r : Rel) (made : List (List ℕ)) (left : List ℕ) (joins : ℕ) (p : Rows n r made left joins)
    (u : ℕ) (here : has left u ≡ true) (last : (v : ℕ) → r u v ≡ true → has left v ≡ false)
    (left' : List ℕ) (but : (v : ℕ) → has left' v ≡ (has left v && not (eqb u v)))
  where
    -- a job that is not left any more is u, or was not left
    cases : (x : ℕ) → has left' x ≡ false → (x ≡ u) ⊎ (has left x ≡ false)
    cases x h =
        elim (ℕ_discrete x u) [
          | yes e ↦ inl e
          | no d ↦ inr (sym (but x ∙ ap (λ (b : Bool). has left x && not b) (ne_eqb u x (λ e. d (sym e))) ∙ and-true (has left x)) ∙ h)
        ]

    still : (x : ℕ) → has left x ≡ false → has left' x ≡ false
    still x h = but x ∙ ap (λ (b : Bool). b && not (eqb u x)) h

    other : (x : ℕ) → has left x ≡ false → x ≡ u → ⊥
    other x h e = clash here (ap (has left) (sym e) ∙ h)

    pub rows_next
        : (own row : List ℕ) → u < length made → ((v : ℕ) → has own v ≡ r u v)
        → ((v : ℕ) → has row v ≡ (has own v || exists (λ w. has own w && holds made w v) (below 128)))
        → (joins' : ℕ) → joins' ≡ joins + length (members own) → Rows n r (set made u row) left' joins'
    rows_next own row l mine joint joins' more =
        record {
          small = p.small;
          inside = p.inside;
          jobs = λ x h. p.jobs x (and_left (has left x) _ (sym (but x) ∙ h));
          finished =
              λ x v h.
              ⊎_elim
              (λ e. ap (λ y. holds (set made u row) y v) e ∙ row_here made u row l v ∙ whole v ∙ ap (λ y. via r n y v) (sym e))
              (λ d. row_there made u row x v (other x d) ∙ p.finished x v d)
              (cases x h);
          onward = λ x v h a. ⊎_elim (λ e. still v (last v (ap (λ y. r y v) (sym e) ∙ a))) (λ d. still v (p.onward x v d a)) (cases x h);
          acyclic = λ x h. ⊎_elim (λ e. ap (λ y. via r n y y) e ∙ free) (p.acyclic x) (cases x h);
          counted =
              omega (
                arith,
                more,
                p.counted,
                joins_next n r left left' u (p.jobs u here) here but,
                ap length (sym (members_below n own p.small (λ v h. (p.inside u v (sym (mine v) ∙ h)).1))
                    ∙ keep_agree (has own) (r u) (below n) (λ v m. mine v)),
              );
        }
      where
        ahead : (v w : ℕ) → (has own w && holds made w v) ≡ (r u w && via r n w v)
        ahead v w =
            ap (λ (b : Bool). b && holds made w v) (mine w)
            ∙ ⊎_elim
            (λ h. ap (λ (b : Bool). r u w && b) (p.finished w v (last w h)))
            (λ h. ap (λ (b : Bool). b && holds made w v) h ∙ sym (ap (λ (b : Bool). b && via r n w v) h))
            (decided (r u w))

        whole : (v : ℕ) → has row v ≡ via r n u v
        whole v =
            joint v
            ∙ ap₂ (λ (a b : Bool). a || b) (mine v) (ap (λ f. exists f (below 128)) (fun_ext λ w. ahead v w))
            ∙ run_row n r p.inside p.small u v

        -- u is not before itself: all that it leads to is finished, and u is not
        free : via r n u u ≡ false
        free =
            false_unless _ λ h.
            ⊎_elim
            (λ a. clash here (last u a))
            (λ s. clash here (run_stays n r p.inside left p.onward s.0 u s.2 (last s.0 s.1)))
            (run_first n r p.inside u u h)

-- before the first row: those of the jobs with no arc are finished
pub rows_none
    : (n : ℕ) (r : Rel) (made : List (List ℕ)) (left : List ℕ) → n ≤ 128 → ((u v : ℕ) → r u v ≡ true → (u < n) × (v < n))
    → ((u v : ℕ) → holds made u v ≡ false) → ((w : ℕ) → has left w ≡ exists (r w) (below 128)) → Rows n r made left 0
rows_none n r made left small inside blank dom =
    record {
      small = small;
      inside = inside;
      jobs = λ u h. (inside u _ (any_found (r u) (below 128) (sym (dom u) ∙ h)).2).0;
      finished = λ u v h. blank u v ∙ sym (no_run u v h);
      onward = λ u v h a. absurd (clash a (empty u v h));
      acyclic = λ u h. no_run u u h;
      counted = sym (joins_none n r left empty);
    }
  where
    empty : (u v : ℕ) → has left u ≡ false → r u v ≡ false
    empty u v h =
        false_unless _ λ e. clash e (any_miss (r u) (below 128) (sym (dom u) ∙ h) (below_mem (omega (arith, inside u v e))))

    no_run : (u v : ℕ) → has left u ≡ false → via r n u v ≡ false
    no_run u v h =
        false_unless _ λ e. ⊎_elim (λ a. clash a (empty u v h)) (λ s. clash s.1 (empty u s.0 h)) (run_first n r inside u v e)

-- the count without a cycle, and with one
module _ (n : ℕ) (r : Rel) where
  pub count_acyclic : first_on_cycle_of n (via r n) ≡ None → join_count n r ≡ length (pairs_of n r)
  unfolding join_count
  count_acyclic h = rw (join_count, h)

  pub count_cyclic : Cyclic n r → join_count n r ≡ pass_joins n r
  unfolding join_count
  count_cyclic c =
      ⊎_elim
      (λ f. rw (join_count, f.1))
      (λ h. absurd (clash c.2 ((first_on_cycle_none n (via r n)).0 h c.0 c.1)))
      (found_or_none (first_on_cycle_of n (via r n)))

-- after the last: there is no cycle, and the count is that of all pairs
module _ (n : ℕ) (r : Rel) (made : List (List ℕ)) (left : List ℕ) (joins : ℕ) (p : Rows n r made left joins)
    (end : exists (has left) (below 128) ≡ false)
  where
    none_left : (u : ℕ) → has left u ≡ false
    none_left u =
        false_unless _ λ e. clash e (any_miss (has left) (below 128) end (below_mem (omega (arith, p.jobs u e, p.small))))

    pub rows_table : (u v : ℕ) → holds made u v ≡ via r n u v
    rows_table u v = p.finished u v (none_left u)

    pub rows_count : joins ≡ join_count n r
    rows_count =
        p.counted ∙ joins_all n r left none_left ∙ sym (count_acyclic n r ((first_on_cycle_none n (via r n)).1 (λ u l. p.acyclic u (none_left u))))
