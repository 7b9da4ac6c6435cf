-- The jobs that wait on the stack: each leads to the next, and all of them are left.
use Prim.Native.Nat.{ℕ, zero, suc, ◌+◌, ◌-◌, ◌≤◌, ◌<◌}
use native.Mathlib.Nat.{eq-or-lt_of_le}
use native.Mathlib.Decide.{dec_le}
use native.Mathlib.Omega.{arith}
use mathlib.Core.Path.{◌≡◌, sym, ap, ap₂, ◌∙◌}
use mathlib.Core.List.{List}
use mathlib.Core.Bool.{Bool, true, false, ◌&&◌, ◌||◌, not}
use mathlib.Core.Logic.{⊎_elim}
use borrow.Author.Tests.{ne_eqb, lt-ltb, le-ltb}
use lib.Dec.{eqb, ltb}
use lib.ListN.{length, get_or, set, length-set}
use lib.Seq.{get_or-set_same, get_or-set_other}
use Rattle.poset.specs.Order.{Rel, via}
use Rattle.poset.proofs.Laws.{clash, and_left, and_right, and_intro, or_cases, or_left, or_right, not-true, not-false, eqb-true, eqb_same}
use Rattle.poset.proofs.Closure.{via_base, via_trans}
use Rattle.relation.specs.Table.{has, members}
use Rattle.closure.specs.Rows.{Cyclic}
use Rattle.closure.proofs.Counting.{keep_small, keep_more, keep_different}

-- how many jobs a set has

pub members_small : (s : List ℕ) → length (members s) ≤ 128
unfolding members
members_small s = keep_small (has s) 128

-- a job taken out of a set that has it
pub members_but
    : (s s' : List ℕ) (z : ℕ) → z < 128 → has s z ≡ true → ((x : ℕ) → has s' x ≡ (has s x && not (eqb z x))) → length (members s') < length (members s)
unfolding members
members_but s s' z l h but =
    keep_more (has s') (has s) 128 z l (but z ∙ ap₂ (λ (a b : Bool). a && not b) h (eqb_same z)) h (λ x e. and_left (has s x) _ (sym (but x) ∙ e))

-- the way from the stack's first job to the one that the search is at
module _ (stack : List ℕ) (at depth : ℕ) where
  abbrev pub along : ℕ → ℕ
  along i = elim (ltb i depth) [ true ↦ get_or stack i 0 | false ↦ at ]

  pub along_stack : (i : ℕ) → i < depth → along i ≡ get_or stack i 0
  along_stack i l = rw (along, lt-ltb i depth l)

  pub along_end : along depth ≡ at
  along_end = rw (along, le-ltb depth depth (omega arith))

-- each job of it leads to the next, and all are left; those met are finished or on the way
pub record Way (r : Rel) (stack left met : List ℕ) (at depth : ℕ) : Type 0 where
  pub size : length stack ≡ 128
  pub steps : (i : ℕ) → i < depth → r (along stack at depth i) (along stack at depth (i + 1)) ≡ true
  pub waiting : (i : ℕ) → i ≤ depth → has left (along stack at depth i) ≡ true
  pub once : (i j : ℕ) → i < j → j ≤ depth → along stack at depth i ≡ along stack at depth j → ⊥
  pub marked : (i : ℕ) → i < depth → has met (along stack at depth i) ≡ true
  pub known : (x : ℕ) → has met x ≡ true → has left x ≡ true → (i : ℕ) × (i ≤ depth) × (along stack at depth i ≡ x)

pub way_none
    : (r : Rel) (stack left met : List ℕ) (u : ℕ) → length stack ≡ 128 → has left u ≡ true → ((x : ℕ) → has met x ≡ false) → Way r stack left met u 0
way_none r stack left met u size h none =
    record {
      size = size;
      steps = λ i d. absurd (omega arith);
      waiting = λ i d. let e : i ≡ 0 = omega arith in rw e h;
      once = λ i j d e. absurd (omega arith);
      marked = λ i d. absurd (omega arith);
      known = λ x m a. absurd (clash m (none x));
    }

module _ (r : Rel) (stack left met : List ℕ) (at depth : ℕ) (p : Way r stack left met at depth) where
  pub way_here : has left at ≡ true
  way_here = ap (has left) (sym (along_end stack at depth)) ∙ p.waiting depth (omega arith)

  -- as many jobs are left as are on the way, or more
  pub way_room : ((u : ℕ) → has left u ≡ true → u < 128) → depth < length (members left)
  unfolding members
  way_room small =
      let e =
      keep_different (has left) 128 (along stack at depth) (depth + 1)
      (λ i l. let w = p.waiting i (omega arith) in (small _ w, w)) (λ i j l m. p.once i j l (omega arith))
      in
      omega (arith, e)

  -- an arc back to a job on the way: it is before itself
  pub way_cycle
      : (n : ℕ) → ((u v : ℕ) → r u v ≡ true → (u < n) × (v < n)) → (v : ℕ) → r at v ≡ true → (i : ℕ) → i ≤ depth → along stack at depth i ≡ v → Cyclic n r
  way_cycle n inside v a i l e = (v, (inside at v a).1, ap (λ x. via r n x v) (sym e) ∙ on (depth - i) i (omega arith))
    where
      on : (k i : ℕ) → i + k ≡ depth → via r n (along stack at depth i) v ≡ true
      on zero i e = let d : i ≡ depth = omega arith in rw (d, along_end stack at depth) (via_base r n at v a)
      on (suc k) i e =
          let s = p.steps i (omega arith) in
          via_trans r n (along stack at depth i) (along stack at depth (i + 1)) v (inside _ _ s).1 (via_base r n _ _ s) (on k (i + 1) (omega arith))

  module _ (met' : List ℕ) (more : (x : ℕ) → has met' x ≡ (has met x || eqb at x)) where
    -- a job that is left and met is on the way, and so is the one that the search is at
    pub way_known : (x : ℕ) → has met' x ≡ true → has left x ≡ true → (i : ℕ) × (i ≤ depth) × (along stack at depth i ≡ x)
    way_known x m h =
        ⊎_elim
        (λ c. p.known x c h)
        (λ c. (depth, omega arith, along_end stack at depth ∙ eqb-true at x c))
        (or_cases (has met x) _ (sym (more x) ∙ m))

    way_marked : (i : ℕ) → i ≤ depth → has met' (along stack at depth i) ≡ true
    way_marked i l =
        ⊎_elim
        (λ (e : i ≡ depth). rw (e, along_end stack at depth) (more at ∙ or_right (has met at) _ (eqb_same at)))
        (λ (e : i < depth). more _ ∙ or_left _ _ (p.marked i e))
        (eq-or-lt_of_le l)

    -- on to another job
    pub way_push
        : (v : ℕ) → has left v ≡ true → r at v ≡ true → has met' v ≡ false → depth < 128 → Way r (set stack depth at) left met' v (depth + 1)
    way_push v h a fresh room =
        record {
          size = length-set stack depth at ∙ p.size;
          steps =
              λ i d.
              ⊎_elim
              (λ (e : i ≡ depth). rw (e, here, old depth (omega arith), along_end stack at depth) a)
              (λ (e : i < depth). rw (old i (omega arith), old (i + 1) (omega arith)) (p.steps i e))
              (eq-or-lt_of_le (omega arith));
          waiting = λ i d. each i d (λ x. has left x ≡ true) h (p.waiting i);
          once =
              λ i j d e c.
              ⊎_elim
              (λ (f : j ≡ depth + 1). clash (way_marked i (omega arith)) (ap (has met') (sym (old i (omega arith)) ∙ c ∙ ap way f ∙ here) ∙ fresh))
              (λ (f : j < depth + 1). p.once i j d (omega arith) (sym (old i (omega arith)) ∙ c ∙ old j (omega arith)))
              (eq-or-lt_of_le e);
          marked = λ i d. rw (old i (omega arith)) (way_marked i (omega arith));
          known = λ x m b. let (i, l, f) = way_known x m b in (i, omega arith, old i l ∙ f);
        }
      where
        way : ℕ → ℕ
        way = along (set stack depth at) v (depth + 1)

        here : way (depth + 1) ≡ v
        here = along_end (set stack depth at) v (depth + 1)

        old : (i : ℕ) → i ≤ depth → way i ≡ along stack at depth i
        old i l =
            along_stack (set stack depth at) v (depth + 1) i (omega arith)
            ∙ ⊎_elim
            (λ (e : i ≡ depth). rw (e, along_end stack at depth) (get_or-set_same stack depth at 0 (omega (arith, p.size))))
            (λ (e : i < depth). get_or-set_other stack depth i at 0 (λ c. omega arith) ∙ sym (along_stack stack at depth i e))
            (eq-or-lt_of_le l)

        each : (i : ℕ) → i ≤ depth + 1 → (P : ℕ → Type 0) → P v → (i ≤ depth → P (along stack at depth i)) → P (way i)
        each i l P q f =
            elim (dec_le i depth) [
              | yes d ↦ rw (old i d) (f d)
              | no d ↦ let e : i ≡ depth + 1 = omega arith in rw (e, here) q
            ]

  -- the job that the search is at leaves, and it goes back to the one ahead
  module _ (left' : List ℕ) (but : (x : ℕ) → has left' x ≡ (has left x && not (eqb at x))) where
    pub way_pop : (d : ℕ) → depth ≡ d + 1 → Way r stack left' met (get_or stack d 0) d
    way_pop d e =
        record {
          size = p.size;
          steps = λ i l. rw (same i (omega arith), same (i + 1) (omega arith)) (p.steps i (omega arith));
          waiting =
              λ i l.
              rw (same i l)
              (but _
              ∙ and_intro _ _ (p.waiting i (omega arith))
              (not-false _ (ne_eqb at _ (λ c. p.once i depth (omega arith) (omega arith) (sym c ∙ sym (along_end stack at depth))))));
          once = λ i j l m c. p.once i j l (omega arith) (sym (same i (omega arith)) ∙ c ∙ same j m);
          marked = λ i l. rw (same i (omega arith)) (p.marked i (omega arith));
          known =
              λ x m h.
              let f = sym (but x) ∙ h in
              let (i, l, c) = p.known x m (and_left (has left x) _ f) in
              let g = short i l (λ g. gone x f (sym (along_end stack at depth) ∙ ap (along stack at depth) (sym g) ∙ c)) in
              (i, g, same i g ∙ c);
        }
      where
        short : (i : ℕ) → i ≤ depth → (i ≡ depth → ⊥) → i ≤ d
        short i l other = ⊎_elim (λ (g : i ≡ depth). absurd (other g)) (λ (g : i < depth). omega arith) (eq-or-lt_of_le l)

        gone : (x : ℕ) → (has left x && not (eqb at x)) ≡ true → at ≡ x → ⊥
        gone x f c = clash (ap (eqb at) (sym c) ∙ eqb_same at) (not-true _ (and_right (has left x) _ f))

        same : (i : ℕ) → i ≤ d → along stack (get_or stack d 0) d i ≡ along stack at depth i
        same i l =
            ⊎_elim
            (λ (c : i ≡ d). rw (c, along_end stack (get_or stack d 0) d) (sym (along_stack stack at depth d (omega arith))))
            (λ (c : i < d). along_stack stack (get_or stack d 0) d i c ∙ sym (along_stack stack at depth i (omega arith)))
            (eq-or-lt_of_le l)
