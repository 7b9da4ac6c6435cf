-- A strict order on n jobs has at most n² / 4 covering pairs: the graph of these pairs has no triangle (Mantel).
use Prim.Native.Nat.{ℕ, zero, suc, ◌+◌, ◌*◌, ◌≤◌, ◌<◌}
use mathlib.Core.Path.{◌≡◌, refl}
use mathlib.Core.List.{List, [], ◌∷◌, Memᴰ}
use mathlib.Core.Bool.{Bool, true, false, ◌||◌, not}
use mathlib.Core.Logic.{◌⊎◌, inl, inr}
use native.Mathlib.Nat.{mul-le-mul, mul-le-mul_left}
use native.Mathlib.Omega.{arith}
use lib.ListN.{length, length-map}
use Rattle.poset.specs.Lists.{sum, below}
use Rattle.poset.specs.Order.{Rel, Strict, comparable, covers, pairs_of, reduction}
use Rattle.poset.proofs.Laws.{clash, or_cases, mem_below}
use Rattle.poset.proofs.Reduction.{covers_iff}
use Rattle.poset.proofs.Sums.{bit, sum_le, sum_add, sum_scale, sum_const, sum_pairs, Top, largest, length_keep, length_flat_map, length_below}

-- numbers and tests

four_products : (a b : ℕ) → 4 * (a * b) ≤ (a + b) * (a + b)
four_products zero b = omega arith
four_products (suc a) zero = omega arith
four_products (suc a) (suc b) = omega (arith, four_products a b)

not_all : (p q t : Bool) → (p ≡ true → q ≡ true → t ≡ true → ⊥) → bit p ≤ bit (not q) * bit p + bit (not t) * bit p
not_all false q t h = omega arith
not_all true false t h = omega arith
not_all true true false h = omega arith
not_all true true true h = absurd (h refl refl refl)

not_both : (p q : Bool) → (p ≡ true → q ≡ true → ⊥) → bit p + bit q + bit (not (p || q)) ≤ 1
not_both false false h = omega arith
not_both false true h = omega arith
not_both true false h = omega arith
not_both true true h = absurd (h refl refl)

-- graphs

-- the pairs of c among the jobs of a list
edges : Rel → List ℕ → ℕ
edges c js = sum (λ u. sum (λ v. bit (c u v)) js) js

-- the pairs of c that a job stands in
degree : Rel → List ℕ → ℕ → ℕ
degree c js u = sum (λ v. bit (c u v)) js + sum (λ v. bit (c v u)) js

-- 1 for a job that no pair of c joins to x
apart : Rel → ℕ → ℕ → ℕ
apart c x u = bit (not (comparable c x u))

-- no pair of c goes both ways, and no job is joined to both jobs of a pair
record TriangleFree (c : Rel) (js : List ℕ) : Type 0 where
  one_way : (u v : ℕ) → Memᴰ u js → Memᴰ v js → c u v ≡ true → c v u ≡ true → ⊥
  no_triangle : (x u v : ℕ) → Memᴰ x js → Memᴰ u js → Memᴰ v js
      → c u v ≡ true → comparable c x u ≡ true → comparable c x v ≡ true → ⊥

module _ (c : Rel) (js : List ℕ) (free : TriangleFree c js) (x : ℕ) (x_in : Memᴰ x js) where
  -- every pair has a job apart from x, so the degrees of these jobs count every pair
  few_edges : Top (degree c js) x js → edges c js ≤ degree c js x * sum (apart c x) js
  unfolding edges degree apart
  few_edges top =
      omega (
        arith,
        sum_pairs (λ u v. bit (c u v)) firsts seconds js (λ u v mu mv. not_all _ _ _ (free.no_triangle x u v x_in mu mv)),
        sum_le (λ u. sum (firsts u) js + sum (seconds u) js) (λ u. degree c js x * apart c x u) js row,
        sum_scale (degree c js x) (apart c x) js,
      )
    where
      firsts : ℕ → ℕ → ℕ
      firsts u v = apart c x u * bit (c u v)

      seconds : ℕ → ℕ → ℕ
      seconds u v = apart c x u * bit (c v u)

      row : (u : ℕ) → Memᴰ u js → sum (firsts u) js + sum (seconds u) js ≤ degree c js x * apart c x u
      row u m =
          let k = apart c x u in
          omega (arith, sum_scale k (λ v. bit (c u v)) js, sum_scale k (λ v. bit (c v u)) js, mul-le-mul_left k (top u m))

  -- the jobs that are not apart from x are as many as its degree
  few_apart : degree c js x + sum (apart c x) js ≤ length js
  unfolding degree apart comparable
  few_apart =
      let after : ℕ → ℕ = λ v. bit (c x v) in
      let ahead : ℕ → ℕ = λ v. bit (c v x) in
      omega (
        arith,
        sum_le (λ v. after v + ahead v + apart c x v) (λ v. 1) js (λ v m. not_both _ _ (free.one_way x v x_in m)),
        sum_add (λ v. after v + ahead v) (apart c x) js,
        sum_add after ahead js,
        sum_const 1 js,
      )

mantel : (c : Rel) (js : List ℕ) → TriangleFree c js → 4 * edges c js ≤ length js * length js
unfolding edges
mantel c [] free = omega arith
mantel c (j ∷ js) free =
    let all = j ∷ js in
    let (x, m, top) = largest (degree c all) j js in
    let few = few_apart c all free x m in
    omega (arith, few_edges c all free x m top, four_products (degree c all x) (sum (apart c x) all), mul-le-mul few few)

-- covering pairs

module _ (n : ℕ) (r : Rel) (s : Strict n r) where
  covers_before : {u v : ℕ} → covers n r u v ≡ true → r u v ≡ true
  covers_before {u} {v} h = ((covers_iff n r u v).0 h).0

  covers_next : {u v w : ℕ} → w < n → covers n r u v ≡ true → r u w ≡ true → r w v ≡ true → ⊥
  covers_next {u} {v} {w} l h = ((covers_iff n r u v).0 h).1 w l

  no_cycle : {u v : ℕ} → u < n → v < n → r u v ≡ true → r v u ≡ true → ⊥
  no_cycle {u} {v} k l p q = clash (s.transitive u v u k l k p q) (s.irreflexive u k)

  no_triangle_covers : {x u v : ℕ} → x < n → u < n → v < n → covers n r u v ≡ true
      → (covers n r x u ≡ true) ⊎ (covers n r u x ≡ true) → (covers n r x v ≡ true) ⊎ (covers n r v x ≡ true) → ⊥
  no_triangle_covers i j k uv (inl xu) (inl xv) = covers_next j xv (covers_before xu) (covers_before uv)
  no_triangle_covers i j k uv (inl xu) (inr vx) =
      no_cycle i k (s.transitive _ _ _ i j k (covers_before xu) (covers_before uv)) (covers_before vx)
  no_triangle_covers i j k uv (inr ux) (inl xv) = covers_next i uv (covers_before ux) (covers_before xv)
  no_triangle_covers i j k uv (inr ux) (inr vx) = covers_next k ux (covers_before uv) (covers_before vx)

  covers_free : TriangleFree (covers n r) (below n)
  unfolding comparable
  covers_free = record {
    one_way = λ u v i j p q. no_cycle (mem_below n i) (mem_below n j) (covers_before p) (covers_before q);
    no_triangle = λ x u v i j k uv p q.
        no_triangle_covers (mem_below n i) (mem_below n j) (mem_below n k) uv (or_cases _ _ p) (or_cases _ _ q);
  }

pub reduction_bound : (n : ℕ) (r : Rel) → Strict n r → 4 * length (reduction n r) ≤ n * n
unfolding reduction pairs_of edges
reduction_bound n r s = simp (length_flat_map, length-map, length_keep) (simp length_below at (mantel (covers n r) (below n) (covers_free n r s)))

pub reduction_fits : (n : ℕ) (r : Rel) → n ≤ 128 → Strict n r → length (reduction n r) ≤ 4096
reduction_fits n r h s = omega (arith, mul-le-mul h h, reduction_bound n r s)
