-- What a run has at most, by the leaves of its tree: hours, jobs, and one job so often. It has a job at least.
use Prim.Native.Nat.{ℕ, ◌+◌, ◌*◌, ◌≤◌, ◌<◌}
use mathlib.Core.Path.{◌≡◌, refl}
use mathlib.Core.List.{List, [], ◌∷◌, ◌++◌, map, flat_map}
use mathlib.Core.Bool.{true, false}
use mathlib.Core.Logic.{⊎_elim}
use native.Mathlib.Omega.{arith}
use lib.Dec.{ltb}
use lib.ListN.{length, length-append}
use Rattle.poset.specs.Lists.{occurrences, sum}
use Rattle.poset.specs.Tree.{Kind, series, parallel, Tree, leaf, node, Forest, last, more, leaves, forest_leaves}
use Rattle.poset.proofs.Laws.{decided, count_append}
use Rattle.poset.proofs.Sums.{sum_const, sum_append}
use Rattle.longest.specs.Longest.{WorkRun, joined_runs, longest, forest_longest}
use Rattle.longest.specs.Stack.{jobs_of}

-- a measure that two runs one after the other have together at most
abbrev pub Measure : (WorkRun → ℕ) → Type 0
Measure μ = (a b : WorkRun) → μ (a.0 + b.0, a.1 ++ b.1) ≤ μ a + μ b

pub joined_measure : (μ : WorkRun → ℕ) → Measure μ → (k : Kind) (a b : WorkRun) → μ (joined_runs k a b) ≤ μ a + μ b
unfolding joined_runs
joined_measure μ m series a b = m a b
joined_measure μ m parallel a b =
    ⊎_elim
    (λ (e : ltb a.0 b.0 ≡ true). rw e (omega arith))
    (λ (e : ltb a.0 b.0 ≡ false). rw e (omega arith))
    (decided (ltb a.0 b.0))

module _ (hours : ℕ → ℕ) (μ : WorkRun → ℕ) (m : Measure μ) (w : ℕ → ℕ) (alone : (j : ℕ) → μ (hours j, j ∷ []) ≤ w j) where
  group_measured : (k : Kind) (a b : WorkRun) (xs ys : List ℕ) → μ a ≤ sum w xs → μ b ≤ sum w ys → μ (joined_runs k a b) ≤ sum w (xs ++ ys)
  group_measured k a b xs ys p q = omega (arith, joined_measure μ m k a b, sum_append w xs ys)

  mutual
    unfolding longest leaves

    measured : (t : Tree) → μ (longest hours t) ≤ sum w (leaves t)
    measured (leaf j) = omega (arith, alone j)
    measured (node k t f) =
        group_measured k (longest hours t) (forest_longest hours k f) (leaves t) (forest_leaves f) (measured t) (forest_measured k f)

    forest_measured : (k : Kind) (f : Forest) → μ (forest_longest hours k f) ≤ sum w (forest_leaves f)
    forest_measured k (last t) = measured t
    forest_measured k (more t f) =
        group_measured k (longest hours t) (forest_longest hours k f) (leaves t) (forest_leaves f) (measured t) (forest_measured k f)

  row_measured : (ts : List Tree) → sum μ (map (longest hours) ts) ≤ sum w (flat_map leaves ts)
  unfolding flat_map
  row_measured [] = omega arith
  row_measured (t ∷ ts) = omega (arith, measured t, row_measured ts, sum_append w (leaves t) (flat_map leaves ts))

-- the hours together, of a tree's run and of those of a row

module _ (most : ℕ) (hours : ℕ → ℕ) (small : (u : ℕ) → hours u ≤ most) where
  pub run_small : (t : Tree) → (longest hours t).0 ≤ most * length (leaves t)
  run_small t = omega (arith, measured hours (λ a. a.0) (λ a b. omega arith) (λ j. most) small t, sum_const most (leaves t))

  pub runs_small : (ts : List Tree) → sum (λ (a : WorkRun). a.0) (map (longest hours) ts) ≤ most * length (flat_map leaves ts)
  runs_small ts = omega (arith, row_measured hours (λ a. a.0) (λ a b. omega arith) (λ j. most) small ts, sum_const most (flat_map leaves ts))

-- how many jobs
pub run_short : (hours : ℕ → ℕ) (t : Tree) → length (longest hours t).1 ≤ length (leaves t)
run_short hours t =
    omega (
      arith,
      measured hours (λ a. length a.1) (λ a b. omega (arith, length-append a.1 b.1)) (λ j. 1) (λ j. omega arith) t,
      sum_const 1 (leaves t),
    )

joined_some : (k : Kind) (a b : WorkRun) → 0 < length a.1 → 0 < length b.1 → 0 < length (joined_runs k a b).1
unfolding joined_runs
joined_some series a b p q = omega (arith, p, length-append a.1 b.1)
joined_some parallel a b p q =
    ⊎_elim
    (λ (e : ltb a.0 b.0 ≡ true). rw e q)
    (λ (e : ltb a.0 b.0 ≡ false). rw e p)
    (decided (ltb a.0 b.0))

module _ (hours : ℕ → ℕ) where
  mutual
    unfolding longest

    pub run_some : (t : Tree) → 0 < length (longest hours t).1
    run_some (leaf j) = omega arith
    run_some (node k t f) = joined_some k (longest hours t) (forest_longest hours k f) (run_some t) (forest_some k f)

    forest_some : (k : Kind) (f : Forest) → 0 < length (forest_longest hours k f).1
    forest_some k (last t) = run_some t
    forest_some k (more t f) = joined_some k (longest hours t) (forest_longest hours k f) (run_some t) (forest_some k f)

-- how often one stands in it

module _ (u : ℕ) where
  abbrev times : WorkRun → ℕ
  times a = occurrences u a.1

  pub counts : Measure times
  counts a b = omega (arith, count_append u a.1 b.1)

  count_sum : (xs : List ℕ) → sum (λ j. occurrences u (j ∷ [])) xs ≡ occurrences u xs
  unfolding occurrences
  count_sum [] = refl
  count_sum (x ∷ xs) = omega (arith, count_sum xs, count_append u (x ∷ []) xs)

  jobs_sum : (rs : List WorkRun) → sum times rs ≡ occurrences u (jobs_of rs)
  unfolding occurrences flat_map
  jobs_sum [] = refl
  jobs_sum (a ∷ rs) = omega (arith, jobs_sum rs, count_append u a.1 (jobs_of rs))

  module _ (hours : ℕ → ℕ) where
    pub run_of_leaves : (t : Tree) → occurrences u (longest hours t).1 ≤ occurrences u (leaves t)
    run_of_leaves t =
        omega (arith, measured hours times counts (λ j. occurrences u (j ∷ [])) (λ j. omega arith) t, count_sum (leaves t))

    pub runs_of_leaves : (ts : List Tree) → occurrences u (jobs_of (map (longest hours) ts)) ≤ occurrences u (flat_map leaves ts)
    runs_of_leaves ts =
        omega (
          arith,
          jobs_sum (map (longest hours) ts),
          row_measured hours times counts (λ j. occurrences u (j ∷ [])) (λ j. omega arith) ts,
          count_sum (flat_map leaves ts),
        )
