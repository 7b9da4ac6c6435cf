-- How many of the numbers below n pass a test, and how many pairs of them.
use Prim.Native.Nat.{ℕ, zero, suc, ◌+◌, ◌≤◌, ◌<◌}
use native.Mathlib.Omega.{arith}
use mathlib.Core.Path.{◌≡◌, sym, ap, ◌∙◌}
use mathlib.Core.List.{List, map}
use mathlib.Core.Bool.{Bool, true, false}
use mathlib.Core.Logic.{⊎_elim}
use lib.ListN.{length, length-map}
use lib.Dec.{eqb}
use Rattle.poset.specs.Lists.{exists, sum, keep, below}
use Rattle.poset.specs.Order.{Arc, Rel, pairs_of}
use Rattle.poset.proofs.Laws.{decided, false_unless, eqb-true, eqb_same, any_hit, any_found, below_mem, mem_below, keep_agree}
use Rattle.poset.proofs.Sums.{bit, sum_gap, sum_agree, sum_zero, sum_next, sum_but, length_keep, length_keep_le, length_flat_map, length_below}
use Rattle.relation.proofs.Lists.{keep_none, keep_fewer}

module _ (p : ℕ → Bool) (n : ℕ) where
  -- with n itself one more, if it passes
  pub keep_next : length (keep p (below (n + 1))) ≡ length (keep p (below n)) + bit (p n)
  keep_next = length_keep p (below (n + 1)) ∙ sum_next (λ x. bit (p x)) n ∙ ap (λ (m : ℕ). m + bit (p n)) (sym (length_keep p (below n)))

  pub keep_small : length (keep p (below n)) ≤ n
  keep_small = omega (arith, length_keep_le p (below n), length_below n)

-- a test that one number more passes, and all that pass another
pub keep_more
    : (p q : ℕ → Bool) (n z : ℕ) → z < n → p z ≡ false → q z ≡ true → ((x : ℕ) → p x ≡ true → q x ≡ true)
    → length (keep p (below n)) < length (keep q (below n))
keep_more p q n z l old new more =
    omega (
      arith,
      length_keep p (below n),
      length_keep q (below n),
      sum_gap (λ x. bit (p x)) (λ x. bit (q x)) 1 (λ x m. at_most_lem x) (below_mem l) (omega (arith, ap bit old, ap bit new)),
    )
  where
    at_most_lem : (x : ℕ) → bit (p x) ≤ bit (q x)
    at_most_lem x = ⊎_elim (λ e. omega (arith, ap bit e, ap bit (more x e))) (λ e. omega (arith, ap bit e)) (decided (p x))

-- different numbers below n that pass a test are no more than there are
module _ (p : ℕ → Bool) (n : ℕ) (f : ℕ → ℕ) (k : ℕ) (all : (i : ℕ) → i < k → (f i < n) × (p (f i) ≡ true))
    (once : (i j : ℕ) → i < j → j < k → f i ≡ f j → ⊥)
  where
    -- one of the first i
    abbrev named : ℕ → ℕ → Bool
    named i x = exists (λ j. eqb (f j) x) (below i)

    named_hit : (i j : ℕ) → j < i → named i (f j) ≡ true
    named_hit i j l = any_hit (λ m. eqb (f m) (f j)) (below_mem l) (eqb_same (f j))

    named_found : (i x : ℕ) → named i x ≡ true → (j : ℕ) × (j < i) × (f j ≡ x)
    named_found i x h = let g = any_found (λ j. eqb (f j) x) (below i) h in (g.0, mem_below i g.1, eqb-true (f g.0) x g.2)

    named_new : (i : ℕ) → i < k → named i (f i) ≡ false
    named_new i l = false_unless _ (λ h. let (j, m, e) = named_found i (f i) h in once j i m l e)

    named_more : (i x : ℕ) → named i x ≡ true → named (suc i) x ≡ true
    named_more i x h = let (j, m, e) = named_found i x h in ap (named (suc i)) (sym e) ∙ named_hit (suc i) j (omega arith)

    among : (i : ℕ) → i ≤ k → i ≤ length (keep (named i) (below n))
    among zero l = omega arith
    among (suc i) l =
        omega (
          arith,
          among i (omega arith),
          keep_more (named i) (named (suc i)) n (f i) (all i l).0 (named_new i l) (named_hit (suc i) i (omega arith)) (named_more i),
        )

    pub keep_different : k ≤ length (keep p (below n))
    keep_different =
        omega (
          arith,
          among k (omega arith),
          keep_fewer (named k) p (λ x h. let (j, m, e) = named_found k x h in ap p (sym e) ∙ (all j m).1) (below n),
        )

-- the pairs of a relation, row by row
pub pairs_count : (n : ℕ) (r : Rel) → length (pairs_of n r) ≡ sum (λ u. length (keep (r u) (below n))) (below n)
unfolding pairs_of
pairs_count n r =
    length_flat_map row (below n) ∙ sum_agree (λ u. length (row u)) _ (below n) (λ u m. length-map {B = Arc} (keep (r u) (below n)) (λ v. (u, v)))
  where
    row : ℕ → List Arc
    row u = map (λ v. (u, v)) (keep (r u) (below n))

pub pairs_none : (n : ℕ) (r : Rel) → ((u v : ℕ) → r u v ≡ false) → length (pairs_of n r) ≡ 0
pairs_none n r h =
    pairs_count n r
    ∙ sum_zero (λ u. length (keep (r u) (below n))) (below n) (λ u m. ap length (keep_none (r u) (below n) (λ v k. h u v)))

-- a relation that has one pair more, and is as it was at any other
pub pairs_more
    : (n : ℕ) (r q : Rel) (a b : ℕ) → a < n → b < n → ((u v : ℕ) → ((u ≡ a) × (v ≡ b) → ⊥) → r u v ≡ q u v) → r a b ≡ false → q a b ≡ true
    → length (pairs_of n q) ≡ suc (length (pairs_of n r))
pairs_more n r q a b la lb same old new =
    omega (
      arith,
      pairs_count n r,
      pairs_count n q,
      sum_but (λ u. length (keep (r u) (below n))) (λ u. length (keep (q u) (below n))) n a la rows,
      length_keep (r a) (below n),
      length_keep (q a) (below n),
      sum_but (λ v. bit (r a v)) (λ v. bit (q a v)) n b lb (λ v d. ap bit (same a v (λ e. d e.1))),
      ap bit old,
      ap bit new,
    )
  where
    rows : (u : ℕ) → (u ≡ a → ⊥) → length (keep (r u) (below n)) ≡ length (keep (q u) (below n))
    rows u d = ap length (keep_agree (r u) (q u) (below n) (λ v m. same u v (λ e. d e.0)))
