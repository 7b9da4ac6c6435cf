-- Lists without repeats, sums over them, and a sum by how often each number stands in a list.
use Prim.Native.Nat.{ℕ, ◌+◌, ◌*◌, ◌≤◌, ◌<◌}
use mathlib.Core.Path.{◌≡◌, refl, sym, ap, ◌∙◌}
use mathlib.Core.List.{List, [], ◌∷◌, Memᴰ}
use mathlib.Core.Bool.{Bool, true, false, cond}
use mathlib.Core.Logic.{⊎_elim}
use native.Mathlib.Omega.{arith}
use lib.Dec.{eqb}
use lib.ListN.{length}
use Rattle.poset.specs.Lists.{exists, keep, member, occurrences, sum, below}
use Rattle.poset.proofs.Laws.{decided, clash, false_unless, eqb-true, eqb_same, any_yes, any_not, keep_yes, keep_not, mem_keep, member_mem}
use Rattle.poset.proofs.Laws.{count_same, count_other, mem_count, count_zero, count_append}
use Rattle.poset.proofs.Sums.{bit, sum_le, sum_gap, sum_agree, sum_add, sum_const, sum_swap, sum_one, length_keep, length_below}

-- a list without repeats

abbrev pub Distinct : List ℕ → Type 0
Distinct xs = (u : ℕ) → occurrences u xs ≤ 1

distinct_tail : (x : ℕ) (xs : List ℕ) → Distinct (x ∷ xs) → Distinct xs
distinct_tail x xs d u = omega (arith, d u, count_append u (x ∷ []) xs)

distinct_head : (x : ℕ) (xs : List ℕ) → Distinct (x ∷ xs) → Memᴰ x xs → ⊥
distinct_head x xs d m = omega (arith, d x, count_same x x xs refl, mem_count m)

pub distinct_cons : (x : ℕ) (xs : List ℕ) → (Memᴰ x xs → ⊥) → Distinct xs → Distinct (x ∷ xs)
distinct_cons x xs new d u =
    ⊎_elim
    (λ (e : eqb u x ≡ true).
    let none = count_zero x xs new in
    let q = eqb-true u x e in
    omega (arith, count_same u x xs q, ap (λ v. occurrences v xs) q))
    (λ (e : eqb u x ≡ false). omega (arith, d u, count_other u x xs (λ q. clash (ap (eqb u) (sym q) ∙ eqb_same u) e)))
    (decided (eqb u x))

distinct_keep : (p : ℕ → Bool) (xs : List ℕ) → Distinct xs → Distinct (keep p xs)
unfolding keep
distinct_keep p [] d = d
distinct_keep p (x ∷ xs) d =
    let rest = distinct_keep p xs (distinct_tail x xs d) in
    ⊎_elim
    (λ (e : p x ≡ true). rw (keep_yes p x xs e) (distinct_cons x (keep p xs) (λ m. distinct_head x xs d (mem_keep p xs m).0) rest))
    (λ (e : p x ≡ false). rw (keep_not p x xs e) rest)
    (decided (p x))

pub cond_le : (b : Bool) (k : ℕ) → cond b k 0 ≤ k
cond_le true k = omega arith
cond_le false k = omega arith

-- a list without repeats whose elements are all in another has no greater sum than they have there
pub subset_sum : (w : ℕ → ℕ) (xs ys : List ℕ) → Distinct xs → ((u : ℕ) → Memᴰ u xs → Memᴰ u ys)
    → sum w xs ≤ sum (λ u. cond (member u xs) (w u) 0) ys
unfolding member exists
subset_sum w [] ys d i = omega arith
subset_sum w (x ∷ xs) ys d i =
    omega (
      arith,
      subset_sum w xs ys (distinct_tail x xs d) (λ u m. i u (Memᴰ.tail m)),
      sum_gap (λ u. cond (member u xs) (w u) 0) (λ u. cond (member u (x ∷ xs)) (w u) 0) (w x) (λ u m. grows u) (i x (Memᴰ.head refl)) here,
    )
  where
    grows : (u : ℕ) → cond (member u xs) (w u) 0 ≤ cond (member u (x ∷ xs)) (w u) 0
    grows u =
        ⊎_elim
        (λ (e : eqb u x ≡ true). rw (any_yes (eqb u) x xs e) (cond_le (member u xs) (w u)))
        (λ (e : eqb u x ≡ false). rw (any_not (eqb u) x xs e) (omega arith))
        (decided (eqb u x))

    here : cond (member x xs) (w x) 0 + w x ≤ cond (member x (x ∷ xs)) (w x) 0
    here = rw (any_yes (eqb x) x xs (eqb_same x), false_unless (member x xs) (λ h. distinct_head x xs d (member_mem x xs h))) (omega arith)

-- so two lists without repeats that have the same elements are as long
pub same_length : (xs ys : List ℕ) → Distinct xs → Distinct ys → ((u : ℕ) → Memᴰ u xs → Memᴰ u ys)
    → ((u : ℕ) → Memᴰ u ys → Memᴰ u xs) → length xs ≡ length ys
same_length xs ys d e to from = omega (arith, no_longer xs ys d to, no_longer ys xs e from)
  where
    no_longer : (ks ls : List ℕ) → Distinct ks → ((u : ℕ) → Memᴰ u ks → Memᴰ u ls) → length ks ≤ length ls
    no_longer ks ls f i =
        omega (
          arith,
          sum_const 1 ks,
          sum_const 1 ls,
          subset_sum (λ u. 1) ks ls f i,
          sum_le (λ u. cond (member u ks) 1 0) (λ u. 1) ls (λ u m. cond_le (member u ks) 1),
        )

-- pigeons: different elements, no two of which f sends to one number below k, are at most k

alone : (xs : List ℕ) → Distinct xs → ((u v : ℕ) → Memᴰ u xs → Memᴰ v xs → u ≡ v) → length xs ≤ 1
alone [] d h = omega arith
alone (x ∷ []) d h = omega arith
alone (x ∷ y ∷ xs) d h =
    absurd (distinct_head x (y ∷ xs) d (Memᴰ.head (h x y (Memᴰ.head refl) (Memᴰ.tail (Memᴰ.head refl)))))

pub pigeons : (k : ℕ) (f : ℕ → ℕ) (xs : List ℕ) → Distinct xs → ((u : ℕ) → Memᴰ u xs → f u < k)
    → ((u v : ℕ) → Memᴰ u xs → Memᴰ v xs → f u ≡ f v → u ≡ v) → length xs ≤ k
pigeons k f xs d small apart =
    omega (
      arith,
      sum_const 1 xs,
      sum_agree (λ u. sum (λ g. bit (eqb (f u) g)) (below k)) (λ u. 1) xs (λ u m. sum_one 1 (f u) k (small u m)),
      sum_swap (λ u g. bit (eqb (f u) g)) xs (below k),
      sum_le (λ g. sum (λ u. bit (eqb (f u) g)) xs) (λ g. 1) (below k) (λ g m. hole g),
      sum_const 1 (below k),
      length_below k,
    )
  where
    same : (g u v : ℕ) → Memᴰ u (keep (λ x. eqb (f x) g) xs) → Memᴰ v (keep (λ x. eqb (f x) g) xs) → u ≡ v
    same g u v p q =
        let a = mem_keep (λ x. eqb (f x) g) xs p in
        let b = mem_keep (λ x. eqb (f x) g) xs q in
        apart u v a.0 b.0 (eqb-true (f u) g a.1 ∙ sym (eqb-true (f v) g b.1))

    hole : (g : ℕ) → sum (λ u. bit (eqb (f u) g)) xs ≤ 1
    hole g =
        omega (
          arith,
          length_keep (λ x. eqb (f x) g) xs,
          alone (keep (λ x. eqb (f x) g) xs) (distinct_keep (λ x. eqb (f x) g) xs d) (same g),
        )

-- a sum by how often each of the numbers below n stands in the list

count_more : (f : ℕ → ℕ) (u x : ℕ) (xs : List ℕ) → occurrences u (x ∷ xs) * f u ≡ cond (eqb x u) (f x) 0 + occurrences u xs * f u
count_more f u x xs =
    ⊎_elim
    (λ (e : eqb x u ≡ true). let q = eqb-true x u e in rw (e, count_same u x xs (sym q)) (omega (arith, ap f q)))
    (λ (e : eqb x u ≡ false). rw (e, count_other u x xs (λ q. clash (ap (eqb x) q ∙ eqb_same x) e)) (omega arith))
    (decided (eqb x u))

pub sum_counts : (f : ℕ → ℕ) (n : ℕ) (xs : List ℕ) → ((u : ℕ) → Memᴰ u xs → u < n) → sum f xs ≡ sum (λ u. occurrences u xs * f u) (below n)
unfolding occurrences
sum_counts f n [] h = omega (arith, sum_agree (λ u. 0 * f u) (λ u. 0) (below n) (λ u m. omega arith), sum_const 0 (below n))
sum_counts f n (x ∷ xs) h =
    omega (
      arith,
      sum_counts f n xs (λ u m. h u (Memᴰ.tail m)),
      sum_agree (λ u. occurrences u (x ∷ xs) * f u) (λ u. cond (eqb x u) (f x) 0 + occurrences u xs * f u) (below n) (λ u m. count_more f u x xs),
      sum_add (λ u. cond (eqb x u) (f x) 0) (λ u. occurrences u xs * f u) (below n),
      sum_one (f x) x n (h x (Memᴰ.head refl)),
    )
