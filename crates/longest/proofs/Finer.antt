-- Schedules in a unit of which an hour has m: starts and total are m times as many, so no schedule gains by starting a job within an hour.
use Prim.Native.Nat.{ℕ, ◌*◌, ◌≤◌, max}
use mathlib.Core.Path.{◌≡◌, refl, subst, fun_ext}
use mathlib.Core.Bool.{true, false}
use mathlib.Core.Logic.{⊎_elim}
use native.Mathlib.Decide.{dec_le}
use native.Mathlib.Nat.{mul-le-mul_left}
use native.Mathlib.Omega.{arith}
use Rattle.poset.specs.Lists.{member}
use Rattle.poset.specs.Order.{Rel}
use Rattle.poset.specs.Tree.{Kind, series, parallel, Tree, leaf, node, Forest, last, more, leaves, Means}
use Rattle.poset.proofs.Laws.{decided}
use Rattle.longest.specs.Longest.{WorkRun, joined_runs, longest, forest_longest}
use Rattle.longest.specs.Schedules.{IsFewest, waits, earliest_start, forest_start}
use Rattle.longest.proofs.Scheduling.{parallel_total, group_start, tree_fewest}

module _ (m : ℕ) where
  max_finer : (x y : ℕ) → max (m * x) (m * y) ≡ m * max x y
  max_finer x y =
      elim (dec_le x y) [
        | yes l ↦ let e : max x y ≡ y = omega arith in rw e (omega (arith, mul-le-mul_left m l))
        | no l ↦ let e : max x y ≡ x = omega arith in let g : y ≤ x = omega arith in rw e (omega (arith, mul-le-mul_left m g))
      ]

  joined_finer : (k : Kind) (a b c d : WorkRun) → c.0 ≡ m * a.0 → d.0 ≡ m * b.0 → (joined_runs k c d).0 ≡ m * (joined_runs k a b).0
  unfolding joined_runs
  joined_finer series a b c d p q = omega arith
  joined_finer parallel a b c d p q = rw (parallel_total c d, parallel_total a b, p, q) (max_finer a.0 b.0)

  waits_finer : (k : Kind) (x : ℕ) → waits k (m * x) ≡ m * waits k x
  unfolding waits
  waits_finer series x = refl
  waits_finer parallel x = omega arith

  module _ (hours : ℕ → ℕ) where
    abbrev finer : ℕ → ℕ
    finer u = m * hours u

    mutual
      unfolding longest

      run_finer : (t : Tree) → (longest finer t).0 ≡ m * (longest hours t).0
      run_finer (leaf j) = refl
      run_finer (node k t f) =
          joined_finer k (longest hours t) (forest_longest hours k f) (longest finer t) (forest_longest finer k f) (run_finer t) (forest_finer k f)

      forest_finer : (k : Kind) (f : Forest) → (forest_longest finer k f).0 ≡ m * (forest_longest hours k f).0
      forest_finer k (last t) = run_finer t
      forest_finer k (more t f) =
          joined_finer k (longest hours t) (forest_longest hours k f) (longest finer t) (forest_longest finer k f) (run_finer t) (forest_finer k f)

    group_start_lem : (k : Kind) (t : Tree) (f : Forest) (u : ℕ) → earliest_start finer t u ≡ m * earliest_start hours t u
        → forest_start finer k f u ≡ m * forest_start hours k f u → group_start finer k t f u ≡ m * group_start hours k t f u
    group_start_lem k t f u p q =
        ⊎_elim
        (λ (e : member u (leaves t) ≡ true). rw e p)
        (λ (e : member u (leaves t) ≡ false). rw (e, run_finer t, waits_finer k (longest hours t).0) (omega arith))
        (decided (member u (leaves t)))

    mutual
      unfolding earliest_start

      start_finer : (t : Tree) (u : ℕ) → earliest_start finer t u ≡ m * earliest_start hours t u
      start_finer (leaf j) u = omega arith
      start_finer (node k t f) u = group_start_lem k t f u (start_finer t u) (forest_start_lem k f u)

      forest_start_lem : (k : Kind) (f : Forest) (u : ℕ) → forest_start finer k f u ≡ m * forest_start hours k f u
      forest_start_lem k (last t) u = start_finer t u
      forest_start_lem k (more t f) u = group_start_lem k t f u (start_finer t u) (forest_start_lem k f u)

pub finer_fewest
    : (n : ℕ) (r : Rel) (t : Tree) → Means n t r → (hours : ℕ → ℕ) (m : ℕ)
    → IsFewest n r (λ u. m * hours u) (λ u. m * earliest_start hours t u) (m * (longest hours t).0)
finer_fewest n r t means hours m =
    subst (λ (start : ℕ → ℕ). IsFewest n r (λ u. m * hours u) start (m * (longest hours t).0)) (fun_ext λ u. start_finer m hours t u)
    (subst (IsFewest n r (λ u. m * hours u) (earliest_start (λ u. m * hours u) t)) (run_finer m hours t) (tree_fewest n r t means (λ u. m * hours u)))
