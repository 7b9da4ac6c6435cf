-- The jobs that stand later in a sequence, row by row from its last entry back.
use Prim.Native.Nat.{ℕ, suc, ◌-◌, ◌≤◌, ◌<◌}
use mathlib.Core.Path.{◌≡◌, refl, sym, ap, ap₂, ◌∙◌}
use mathlib.Core.List.{List, [], ◌∷◌, Memᴰ}
use mathlib.Core.Bool.{Bool, true, false, ◌&&◌, ◌||◌, not, and-true, or-false}
use mathlib.Core.Logic.{⊎_elim}
use native.Mathlib.Omega.{arith}
use lib.Dec.{eqb}
use lib.ListN.{length, get_or, set, take, drop, replicate, length-set, take-append-drop}
use lib.Seq.{drop-cons, drop-length}
use Rattle.poset.specs.Lists.{exists, member, occurrences, ahead_in}
use Rattle.poset.specs.Order.{Rel}
use Rattle.poset.proofs.Laws.{decided, clash, false_unless, or_right, eqb-true, eqb_same, eqb_differ, any_yes, any_not}
use Rattle.poset.proofs.Laws.{member_mem, mem_member, mem_count, count_same, count_append, same_count_mem}
use Rattle.poset.proofs.Ahead.{ahead_here, ahead_later}
use Rattle.relation.specs.Table.{has, holds}
use Rattle.relation.proofs.Tables.{set_row, has_blank, holds_blank}
use Rattle.record.specs.Bits.{AllBelow}

-- what stands ahead is in the list
pub ahead_first : (u v : ℕ) (xs : List ℕ) → ahead_in u v xs ≡ true → Memᴰ u xs
unfolding ahead_in
ahead_first u v [] h = absurd (clash h refl)
ahead_first u v (x ∷ xs) h =
    ⊎_elim
    (λ e. Memᴰ.head (eqb-true u x e))
    (λ e. Memᴰ.tail (ahead_first u v xs (sym (ahead_later u v x xs e) ∙ h)))
    (decided (eqb u x))

-- the entries of xs from i on are passed, and the rows hold what the relation is there
pub record Passed (rel : ℕ → Rel) (xs : List ℕ) (i : ℕ) (rows : List (List ℕ)) (passed : List ℕ) : Type 0 where
  pub within : i ≤ length xs
  pub size : length rows ≡ 128
  pub jobs : (v : ℕ) → has passed v ≡ member v (drop i xs)
  pub held : (u v : ℕ) → holds rows u v ≡ rel i u v

member_more : (v x : ℕ) (xs : List ℕ) → member v (x ∷ xs) ≡ (member v xs || eqb x v)
unfolding member
member_more v x xs =
    ⊎_elim
    (λ (e : eqb v x ≡ true). any_yes (eqb v) x xs e ∙ sym (or_right (exists (eqb v) xs) _ (ap (λ (y : ℕ). eqb y v) (sym (eqb-true v x e)) ∙ eqb_same v)))
    (λ (e : eqb v x ≡ false).
    let differ : eqb x v ≡ false = eqb_differ x v (λ q. clash (ap (eqb v) q ∙ eqb_same v) e) in
    any_not (eqb v) x xs e ∙ sym (ap (λ (b : Bool). exists (eqb v) xs || b) differ ∙ or-false (exists (eqb v) xs)))
    (decided (eqb v x))

module _ (rel : ℕ → Rel) (xs : List ℕ) where
  passed_none : (i : ℕ) (rows : List (List ℕ)) → i ≡ length xs → length rows ≡ 128 → ((u v : ℕ) → holds rows u v ≡ rel i u v)
      → Passed rel xs i rows (replicate 2 0)
  unfolding member exists
  passed_none i rows e size held = record {
    within = omega arith;
    size = size;
    jobs = λ v. has_blank v ∙ ap (member v) (sym (ap (λ (k : ℕ). drop k xs) e ∙ drop-length xs));
    held = held;
  }

  module _ (i : ℕ) (rows : List (List ℕ)) (passed : List ℕ) (p : Passed rel xs i rows passed) (some : 0 < i) (job : ℕ)
      (same : job ≡ get_or xs (i - 1) 0) where
    entry_first : drop (i - 1) xs ≡ job ∷ drop i xs
    entry_first =
        let next : suc (i - 1) ≡ i = omega arith in
        drop-cons xs (i - 1) 0 (omega (arith, p.within)) ∙ ap₂ (λ (j k : ℕ). j ∷ drop k xs) (sym same) next

    -- one entry more: the row of its job is written
    passed_more : (one more row : List ℕ) → job < 128 → ((v : ℕ) → has one v ≡ eqb job v) → ((v : ℕ) → has more v ≡ (has passed v || has one v))
        → ((v : ℕ) → has row v ≡ rel (i - 1) job v) → ((u v : ℕ) → (u ≡ job → ⊥) → rel i u v ≡ rel (i - 1) u v)
        → Passed rel xs (i - 1) (set rows job row) more
    passed_more one more row small single both here there = record {
      within = omega (arith, p.within);
      size = length-set rows job row ∙ p.size;
      jobs = λ v. both v ∙ ap₂ ◌||◌ (p.jobs v) (single v) ∙ sym (ap (member v) entry_first ∙ member_more v job (drop i xs));
      held = set_row rows job row (rel (i - 1)) (rw p.size small) here (λ u v d. p.held u v ∙ there u v d);
    }

-- for each job those that stand later
module _ (xs : List ℕ) where
  abbrev pub later_from : ℕ → Rel
  later_from i u v = ahead_in u v (drop i xs)

  pub later_none : (i : ℕ) → i ≡ length xs → Passed later_from xs i (replicate 128 (replicate 2 0)) (replicate 2 0)
  unfolding ahead_in
  later_none i e =
      let none : drop i xs ≡ [] = ap (λ (k : ℕ). drop k xs) e ∙ drop-length xs in
      passed_none later_from xs i _ e refl (λ u v. holds_blank 128 u v ∙ ap (ahead_in u v) (sym none))

  pub later_more : (i : ℕ) (rows : List (List ℕ)) (passed : List ℕ) → Passed later_from xs i rows passed → 0 < i
      → (job : ℕ) → job ≡ get_or xs (i - 1) 0 → (one more : List ℕ) → job < 128 → ((v : ℕ) → has one v ≡ eqb job v)
      → ((v : ℕ) → has more v ≡ (has passed v || has one v)) → Passed later_from xs (i - 1) (set rows job passed) more
  later_more i rows passed p some job e one more small single both =
      let from = entry_first later_from xs i rows passed p some job e in
      passed_more later_from xs i rows passed p some job e one more passed small single both
      (λ v. p.jobs v ∙ sym (ap (ahead_in job v) from ∙ ahead_here job v job (drop i xs) (eqb_same job)))
      (λ u v d. sym (ap (ahead_in u v) from ∙ ahead_later u v job (drop i xs) (eqb_differ u job d)))

-- a relation, and of the jobs passed only those that stand later too

unfoldable pub behind : ℕ → ℕ → List ℕ → Bool
behind u v ys = not (member u ys) || ahead_in u v ys

behind_none : (u v : ℕ) (ys : List ℕ) → member u ys ≡ false → behind u v ys ≡ true
unfolding behind
behind_none u v ys e = ap (λ (b : Bool). not b || ahead_in u v ys) e

behind_in : (u v : ℕ) (ys : List ℕ) → member u ys ≡ true → behind u v ys ≡ ahead_in u v ys
unfolding behind
behind_in u v ys e = ap (λ (b : Bool). not b || ahead_in u v ys) e

behind_later : (u v x : ℕ) (ys : List ℕ) → eqb u x ≡ false → behind u v (x ∷ ys) ≡ behind u v ys
unfolding behind member
behind_later u v x ys e = ap₂ (λ (a b : Bool). not a || b) (any_not (eqb u) x ys e) (ahead_later u v x ys e)

behind_here : (u v : ℕ) (ys : List ℕ) → behind u v (u ∷ ys) ≡ member v ys
unfolding member
behind_here u v ys = behind_in u v (u ∷ ys) (any_yes (eqb u) u ys (eqb_same u)) ∙ ahead_here u v u ys (eqb_same u)

module _ (first : Rel) (xs : List ℕ) where
  abbrev pub both_from : ℕ → Rel
  both_from i u v = first u v && behind u v (drop i xs)

  pub both_none : (i : ℕ) (rows : List (List ℕ)) → i ≡ length xs → length rows ≡ 128 → ((u v : ℕ) → holds rows u v ≡ first u v)
      → Passed both_from xs i rows (replicate 2 0)
  unfolding member exists
  both_none i rows e size held =
      let none : drop i xs ≡ [] = ap (λ (k : ℕ). drop k xs) e ∙ drop-length xs in
      passed_none both_from xs i rows e size
      (λ u v. held u v ∙ sym (ap (λ (b : Bool). first u v && b) (behind_none u v (drop i xs) (ap (member u) none)) ∙ and-true (first u v)))

  module _ (once : (u : ℕ) → occurrences u xs ≤ 1) (i : ℕ) (rows : List (List ℕ)) (passed : List ℕ) (p : Passed both_from xs i rows passed)
      (some : 0 < i) (job : ℕ) (same : job ≡ get_or xs (i - 1) 0) where
    from : drop (i - 1) xs ≡ job ∷ drop i xs
    from = entry_first both_from xs i rows passed p some job same

    not_before : member job (drop i xs) ≡ false
    not_before = false_unless _ λ h.
        omega (
          arith,
          once job,
          ap (occurrences job) (sym (take-append-drop (i - 1) xs)) ∙ count_append job (take (i - 1) xs) (drop (i - 1) xs),
          ap (occurrences job) from ∙ count_same job job (drop i xs) refl,
          mem_count (member_mem job (drop i xs) h),
        )

    pub both_more : (one more row : List ℕ) → job < 128 → ((v : ℕ) → has one v ≡ eqb job v) → ((v : ℕ) → has more v ≡ (has passed v || has one v))
        → ((v : ℕ) → has row v ≡ (holds rows job v && has passed v)) → Passed both_from xs (i - 1) (set rows job row) more
    both_more one more row small single both cut =
        passed_more both_from xs i rows passed p some job same one more row small single both
        (λ v.
        let before : holds rows job v ≡ first job v =
        p.held job v ∙ ap (λ (b : Bool). first job v && b) (behind_none job v (drop i xs) not_before) ∙ and-true (first job v) in
        cut v ∙ ap₂ ◌&&◌ before (p.jobs v ∙ sym (ap (behind job v) from ∙ behind_here job v (drop i xs))))
        (λ u v d. ap (λ (b : Bool). first u v && b) (sym (ap (behind u v) from ∙ behind_later u v job (drop i xs) (eqb_differ u job d))))

  pub both_all : (i : ℕ) (rows : List (List ℕ)) (passed : List ℕ) → Passed both_from xs i rows passed → i ≡ 0
      → ((u v : ℕ) → first u v ≡ true → Memᴰ u xs) → (u v : ℕ) → holds rows u v ≡ (first u v && ahead_in u v xs)
  both_all i rows passed p e inside u v =
      p.held u v ∙ ap (λ (k : ℕ). first u v && behind u v (drop k xs)) e
      ∙ ⊎_elim
      (λ (m : member u xs ≡ true). ap (λ (b : Bool). first u v && b) (behind_in u v xs m))
      (λ (m : member u xs ≡ false).
      let none : first u v ≡ false = false_unless _ (λ h. clash (mem_member (inside u v h)) m) in
      ap (λ (b : Bool). b && behind u v xs) none ∙ sym (ap (λ (b : Bool). b && ahead_in u v xs) none))
      (decided (member u xs))

-- of two sequences with the same jobs
pub below_same : (m : ℕ) (xs ys : List ℕ) → AllBelow m xs → ((u : ℕ) → occurrences u ys ≡ occurrences u xs) → AllBelow m ys
below_same m xs ys h same u i = h u (same_count_mem (same u) i)
