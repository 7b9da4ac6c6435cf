-- Warshall's closure on two columns of words: a pass through one job, and the passes one after the other.
use Prim.Native.Nat.{ℕ, suc, ◌+◌, ◌-◌, ◌*◌, ◌≤◌, ◌<◌}
use native.Mathlib.Numerals.{add-one}
use native.Mathlib.Omega.{arith}
use mathlib.Core.Path.{◌≡◌, refl, sym, ap, ap₂, subst, fun_ext, ◌∙◌}
use mathlib.Core.List.{List, [], ◌∷◌}
use mathlib.Core.Bool.{Bool, true, false, ◌&&◌, ◌||◌}
use mathlib.Core.Logic.{⊎_elim}
use lib.ListN.{length, get_or, replicate}
use Rattle.poset.specs.Lists.{exists, keep, below, sum, up_from}
use Rattle.poset.specs.Order.{Rel, via}
use Rattle.poset.proofs.Laws.{decided, clash, false_unless, any_hit, any_found, any_none, keep_agree, below_mem}
use Rattle.poset.proofs.Sums.{sum_le, sum_const, sum_next, length_below}
use Rattle.poset.proofs.Closure.{via_step, via_ind}
use Rattle.relation.specs.Table.{bit, has, holds}
use Rattle.closure.specs.Columns.{columns, Joins}
use Rattle.closure.specs.Joins.{joins_at, pass_joins}
use Rattle.relation.proofs.Lists.{and_false, or-false, keep_none, any_next}
use Rattle.relation.proofs.Sets.{has_none, job_ind}
use Rattle.closure.proofs.Counting.{keep_small}
use Rattle.closure.proofs.Columns.{column_low, column_high, column_beyond, tally}
use Rattle.relation.proofs.Tables.{has_blank}
use Rattle.relation.proofs.Chain.{via_inside}

-- the joins of a pass through k

module _ (n : ℕ) (r : Rel) (k : ℕ) where
  pub joins_some : exists (r k) (below n) ≡ true → joins_at n r k ≡ length (keep (λ u. r u k) (below n))
  unfolding joins_at
  joins_some h = rw (h, joins_at)

  pub joins_none : exists (r k) (below n) ≡ false → joins_at n r k ≡ 0
  unfolding joins_at
  joins_none h = rw (h, joins_at)

  pub joins_small : joins_at n r k ≤ n
  joins_small =
      ⊎_elim
      (λ h. omega (arith, joins_some h, keep_small (λ u. r u k) n))
      (λ h. omega (arith, joins_none h))
      (decided (exists (r k) (below n)))

  -- no job is before k
  joins_unreached : ((u : ℕ) → r u k ≡ false) → joins_at n r k ≡ 0
  joins_unreached h =
      ⊎_elim
      (λ e. joins_some e ∙ ap length (keep_none (λ u. r u k) (below n) (λ u m. h u)))
      (λ e. joins_none e)
      (decided (exists (r k) (below n)))

-- Warshall's step on columns: what is before k is before all that k is before
abbrev pub Step : List ℕ → List ℕ → ℕ → List ℕ → List ℕ → Type 0
Step low high k low' high' = (u v : ℕ) → columns low' high' u v ≡ (columns low high u v || (columns low high u k && columns low high k v))

module _ (low high : List ℕ) (k : ℕ) where
  -- where the words of row k are 0 there is nothing to do

  module _ (h : exists (has (get_or low k 0 ∷ get_or high k 0 ∷ [])) (below 128) ≡ false) where
    idle : (v : ℕ) → columns low high k v ≡ false
    unfolding columns
    idle = has_none (get_or low k 0 ∷ get_or high k 0 ∷ []) refl h

    pub step_idle : Step low high k low high
    step_idle u v =
        sym (ap (λ (b : Bool). columns low high u v || (columns low high u k && b)) (idle v)
        ∙ ap (λ (b : Bool). columns low high u v || b) (and_false (columns low high u k)) ∙ or-false (columns low high u v))

    pub joins_idle : (n : ℕ) → 0 ≡ joins_at n (columns low high) k
    joins_idle n = sym (joins_none n (columns low high) k (any_none (columns low high k) (below n) (λ v m. idle v)))

  -- where they are not, k is before a job
  busy
      : (n : ℕ) → ((u v : ℕ) → columns low high u v ≡ true → (u < n) × (v < n)) → exists (has (get_or low k 0 ∷ get_or high k 0 ∷ [])) (below 128) ≡ true
      → exists (columns low high k) (below n) ≡ true
  unfolding columns
  busy n inside h =
      let f = any_found (has (get_or low k 0 ∷ get_or high k 0 ∷ [])) (below 128) h in
      any_hit (columns low high k) (below_mem (inside k f.0 f.2).1) f.2

  -- the bit of k in the words of its column

  pub in_low : k < 64 → (u : ℕ) → bit (get_or low u 0) k ≡ columns low high u k
  in_low l u = sym (column_low low high u k l)

  pub in_high : 64 ≤ k → k < 128 → (u : ℕ) → bit (get_or high u 0) (k - 64) ≡ columns low high u k
  in_high l m u = let e : 64 + (k - 64) ≡ k = omega arith in sym (column_high low high u (k - 64) (omega arith)) ∙ ap (columns low high u) e

  module _ (test : List ℕ) (j : ℕ) (same : (u : ℕ) → bit (get_or test u 0) j ≡ columns low high u k) where
    module _ (n : ℕ) (inside : (u v : ℕ) → columns low high u v ≡ true → (u < n) × (v < n)) where
      pub step_clear : (u : ℕ) → n ≤ u → bit (get_or test u 0) j ≡ false
      step_clear u l = same u ∙ false_unless _ (λ e. omega (arith, (inside u k e).0))

      pub joins_busy
          : exists (has (get_or low k 0 ∷ get_or high k 0 ∷ [])) (below 128) ≡ true → (count : ℕ) → count ≡ tally test j n
          → count ≡ joins_at n (columns low high) k
      joins_busy h count c =
          c ∙ ap length (keep_agree (λ u. bit (get_or test u 0) j) (λ u. columns low high u k) (below n) (λ u m. same u))
          ∙ sym (joins_some n (columns low high) k (busy n inside h))

    pub step_joined
        : (low' high' : List ℕ) → Joins test j (get_or low k 0) low low' → Joins test j (get_or high k 0) high high' → Step low high k low' high'
    step_joined low' high' p q u =
        job_ind (λ v. columns low' high' u v ≡ (columns low high u v || (columns low high u k && columns low high k v)))
        (λ i l. column_low low' high' u i l ∙ p u i l ∙ sym (either (column_low low high u i l) (column_low low high k i l)))
        (λ i l. column_high low' high' u i l ∙ q u i l ∙ sym (either (column_high low high u i l) (column_high low high k i l)))
        (λ v l.
        column_beyond low' high' u v l
        ∙ sym (either (column_beyond low high u v l) (column_beyond low high k v l) ∙ and_false (bit (get_or test u 0) j)))
      where
        either : {x y x' y' : Bool} → x ≡ x' → y ≡ y' → (x || (columns low high u k && y)) ≡ (x' || (bit (get_or test u 0) j && y'))
        either {y = y} {x' = x'} e d = ap₂ (λ (a b : Bool). a || (b && y)) e (sym (same u)) ∙ ap (λ (a : Bool). x' || (bit (get_or test u 0) j && a)) d

-- after the passes through the jobs below k, and the joins that they took
pub record Closed (r : Rel) (low high : List ℕ) (n count k : ℕ) : Type 0 where
  pub within : k ≤ n
  pub rows : (length low ≡ 128) × (length high ≡ 128)
  pub runs : (u v : ℕ) → columns low high u v ≡ via r k u v
  pub counted : count ≡ sum (λ j. joins_at n (via r j) j) (below k)

pub closed_none : (low high : List ℕ) (n : ℕ) → (length low ≡ 128) × (length high ≡ 128) → Closed (columns low high) low high n 0 0
unfolding via below up_from
closed_none low high n h = record { within = omega arith; rows = h; runs = λ u v. refl; counted = refl }

module _ (r : Rel) (n : ℕ) (low high : List ℕ) (count k : ℕ) (p : Closed r low high n count k) where
  pub closed_inside : ((u v : ℕ) → r u v ≡ true → (u < n) × (v < n)) → (u v : ℕ) → columns low high u v ≡ true → (u < n) × (v < n)
  closed_inside inside u v e = via_inside n r inside k u v (sym (p.runs u v) ∙ e)

  pub closed_small : n ≤ 128 → count ≤ 128 * k
  closed_small l =
      omega (
        arith,
        p.counted,
        sum_le (λ j. joins_at n (via r j) j) (λ j. 128) (below k) (λ j m. omega (arith, joins_small n (via r j) j)),
        sum_const 128 (below k),
        length_below k,
      )

  pub closed_next
      : k < n → (low' high' : List ℕ) → (length low' ≡ 128) × (length high' ≡ 128) → Step low high k low' high'
      → (more : ℕ) → more ≡ joins_at n (columns low high) k → Closed r low' high' n (count + more) (k + 1)
  closed_next l low' high' m h more c =
      let e : k + 1 ≡ suc k = add-one k in
      record {
        within = omega arith;
        rows = m;
        runs = λ u v. h u v ∙ rw (e, via_step, ← p.runs u v, ← p.runs u k, ← p.runs k v);
        counted =
            ap₂ ◌+◌ p.counted (c ∙ ap (λ q. joins_at n q k) (fun_ext λ u. fun_ext λ v. p.runs u v)) ∙ sym (sum_next (λ j. joins_at n (via r j) j) k);
      }

  module _ (l : n ≤ k) (t : List (List ℕ)) (same : (u v : ℕ) → r u v ≡ holds t u v) where
    all : k ≡ n
    all = omega (arith, p.within)

    held : r ≡ holds t
    held = fun_ext λ x. fun_ext λ y. same x y

    pub closed_end : (u v : ℕ) → columns low high u v ≡ via (holds t) n u v
    closed_end u v = p.runs u v ∙ ap (λ (m : ℕ). via r m u v) all ∙ ap (λ q. via q n u v) held

    pub joins_end : count ≡ pass_joins n (holds t)
    unfolding pass_joins
    joins_end = p.counted ∙ ap (λ (m : ℕ). sum (λ j. joins_at n (via r j) j) (below m)) all ∙ ap (pass_joins n) held

-- the range of a relation, row by row
pub record Ranged (r : Rel) (jobs : List ℕ) (n u : ℕ) : Type 0 where
  pub within : u ≤ n
  pub reached : (v : ℕ) → has jobs v ≡ exists (λ x. r x v) (below u)

module _ (r : Rel) (n : ℕ) where
  pub ranged_none : Ranged r (replicate 2 0) n 0
  unfolding exists below up_from
  ranged_none = record { within = omega arith; reached = has_blank }

  pub ranged_next
      : (jobs : List ℕ) (u : ℕ) → Ranged r jobs n u → u < n → (more : List ℕ) → ((v : ℕ) → has more v ≡ (has jobs v || r u v)) → Ranged r more n (u + 1)
  ranged_next jobs u p l more h =
      record { within = omega arith; reached = λ v. h v ∙ ap (λ (b : Bool). b || r u v) (p.reached v) ∙ sym (any_next (λ x. r x v) u) }

  pub ranged_end : (jobs : List ℕ) (u : ℕ) → Ranged r jobs n u → n ≤ u → (v : ℕ) → has jobs v ≡ exists (λ x. r x v) (below n)
  ranged_end jobs u p l v = let e : u ≡ n = omega (arith, p.within) in p.reached v ∙ ap (λ (m : ℕ). exists (λ x. r x v) (below m)) e

-- a pass through a job that no job is before changes nothing
module _ (r : Rel) (n : ℕ) (low high : List ℕ) (count k : ℕ) (p : Closed r low high n count k) where
  pub closed_skip
      : (jobs : List ℕ) → ((u v : ℕ) → r u v ≡ true → has jobs v ≡ true) → k < n → has jobs k ≡ false → Closed r low high n count (k + 1)
  closed_skip jobs reached l h =
      let e : count + 0 ≡ count = omega arith in
      subst (λ (m : ℕ). Closed r low high n m (k + 1)) e
      (closed_next r n low high count k p l low high p.rows
      (λ u v. sym (ap (λ (b : Bool). columns low high u v || (b && columns low high k v)) (none u) ∙ or-false (columns low high u v)))
      0 (sym (joins_unreached n (columns low high) k none)))
    where
      none : (u : ℕ) → columns low high u k ≡ false
      none u =
          false_unless _ (λ e. clash (via_ind r (λ x y. has jobs y ≡ true) reached (λ x w y a b. b) k u k (sym (p.runs u k) ∙ e)) h)
