-- Arcs, the order that they generate, its transitive reduction, and the forbidden N.
use Rattle.std.specs.Prelude.{ℕ, zero, suc, ◌<◌, ◌≡◌, Bool, true, false, ◌&&◌, ◌||◌, not, ◌⊎◌, eqb}
use mathlib.Core.List.{List, [], ◌∷◌, map, flat_map, Memᴰ}
use Rattle.std.specs.Prelude.{Option}
use Rattle.poset.specs.Lists.{exists, keep, below, first, only_if}

-- An arc: the first job is done before the second. (Document 01: an order.)
abbrev pub Arc : Type 0
Arc = ℕ × ℕ

abbrev pub Rel : Type 0
Rel = ℕ → ℕ → Bool

-- the arcs name jobs below n alone
abbrev pub Within : ℕ → List Arc → Type 0
Within n arcs = (a : Arc) → Memᴰ a arcs → (a.0 < n) × (a.1 < n)

-- a run of one or more arcs leads from the one job to the other
pub data Run (arcs : List Arc) : ℕ → ℕ → Type 0 where
  one : {u v : ℕ} → Memᴰ (u, v) arcs → Run arcs u v
  then : {u w v : ℕ} → Memᴰ (u, w) arcs → Run arcs w v → Run arcs u v

unfoldable pub arc : List Arc → Rel
arc arcs u v = exists (λ a. eqb a.0 u && eqb a.1 v) arcs

-- a run of r whose inner jobs are all below k (Warshall)
unfoldable pub via : Rel → ℕ → Rel
via r zero u v = r u v
via r (suc k) u v = elim (via r k u v) [ true ↦ true | false ↦ elim (via r k u k) [ true ↦ via r k k v | false ↦ false ] ]

-- the transitive closure of arcs among the jobs below n (Document 01: before, the followed-on order)
unfoldable pub before : ℕ → List Arc → Rel
before n arcs = via (arc arcs) n

-- a strict partial order on the jobs below n
pub record Strict (n : ℕ) (r : Rel) : Type 0 where
  pub irreflexive : (u : ℕ) → u < n → r u u ≡ false
  pub transitive : (u v w : ℕ) → u < n → v < n → w < n → r u v ≡ true → r v w ≡ true → r u w ≡ true

-- the first job on a cycle, that is, before itself (Document 01: a circle)
unfoldable pub first_on_cycle_of : ℕ → Rel → Option ℕ
first_on_cycle_of n r = first (λ u. only_if (r u u) u) (below n)

unfoldable pub comparable : Rel → Rel
comparable r u v = r u v || r v u

-- two different jobs, neither before the other (Document 01: free)
unfoldable pub incomparable : Rel → Rel
incomparable r u v = not (eqb u v) && (not (r u v) && not (r v u))

abbrev pub Four : Type 0
Four = ℕ × ℕ × ℕ × ℕ

-- the N: a before c, b before c, b before d, and a b, c d, a d incomparable
unfoldable pub is_n : Rel → ℕ → ℕ → ℕ → ℕ → Bool
is_n r a b c d = r a c && (r b c && (r b d && (incomparable r a b && (incomparable r c d && incomparable r a d))))

-- four jobs below n that stand as an N
pub record NAt (n : ℕ) (r : Rel) (q : Four) : Type 0 where
  pub a_below : q.0 < n
  pub b_below : q.1 < n
  pub c_below : q.2 < n
  pub d_below : q.3 < n
  pub stands : is_n r q.0 q.1 q.2 q.3 ≡ true

-- (Document 01: crossed)
abbrev pub HasN : ℕ → Rel → Type 0
HasN n r = (q : Four) × NAt n r q

-- the N with the least a, then b, c, d
unfoldable pub first_n_of : ℕ → Rel → Option Four
first_n_of n r =
    let js = below n in
    first (λ a. first (λ b. first (λ c. first (λ d. only_if (is_n r a b c d) (a, b, c, d)) js) js) js) js

-- lexicographically smaller: at the first place where the two differ
abbrev pub SmallerArc : Arc → Arc → Type 0
SmallerArc p q = (p.0 < q.0) ⊎ ((p.0 ≡ q.0) × (p.1 < q.1))

abbrev pub SmallerFour : Four → Four → Type 0
SmallerFour p q =
    (p.0 < q.0)
    ⊎ ((p.0 ≡ q.0) × ((p.1 < q.1) ⊎ ((p.1 ≡ q.1) × ((p.2 < q.2) ⊎ ((p.2 ≡ q.2) × (p.3 < q.3))))))

-- u is before v and no job is both after u and before v
unfoldable pub covers : ℕ → Rel → Rel
covers n r u v = r u v && not (exists (λ w. r u w && r w v) (below n))

-- the pairs of a relation among the jobs below n, by first job, then second
unfoldable pub pairs_of : ℕ → Rel → List Arc
pairs_of n r = flat_map (λ u. map (λ v. (u, v)) (keep (r u) (below n))) (below n)

-- the transitive reduction (Document 01: the reduced orders)
unfoldable pub reduction : ℕ → Rel → List Arc
reduction n r = pairs_of n (covers n r)

-- each arc of a list is smaller than the next
pub data Ascending : List Arc → Type 0 where
  empty : Ascending []
  single : {a : Arc} → Ascending (a ∷ [])
  next : {a b : Arc} {arcs : List Arc} → SmallerArc a b → Ascending (b ∷ arcs) → Ascending (a ∷ b ∷ arcs)
