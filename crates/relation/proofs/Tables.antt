-- What a table holds as its rows are set.
use Prim.Native.Nat.{ℕ, zero, suc, ◌+◌, ◌/◌, ◌%◌, ◌≤◌, ◌<◌, zero-le}
use native.Mathlib.Nat.{eq-or-lt_of_le}
use native.Mathlib.Decide.{dec_lt, ℕ_discrete}
use native.Mathlib.Omega.{arith}
use mathlib.Core.Path.{◌≡◌, refl, sym, ap, ◌∙◌}
use mathlib.Core.List.{List, [], ◌∷◌}
use mathlib.Core.Bool.{true, false, not, xor}
use mathlib.Core.Logic.{⊎_elim}
use lib.ListN.{length, get_or, set, take, replicate, length-set}
use lib.Seq.{get_or-set_same, get_or-set_other, length-take-le}
use Rattle.std.proofs.lemmas.List.{get_or_default, get_or-take}
use Rattle.poset.specs.Lists.{exists, below}
use Rattle.poset.specs.Order.{Rel}
use Rattle.poset.proofs.Laws.{false_unless}
use Rattle.relation.specs.Table.{bit, has, holds}
use Rattle.relation.proofs.Words.{bit_zero}
use Rattle.relation.proofs.Sets.{same_jobs}

-- a row that is read from a table, at any default
pub row_read : (t : List (List ℕ)) (u : ℕ) (row : List ℕ) → u < length t → get_or t u row ≡ get_or t u []
row_read t u row l = get_or_default t u row [] l

-- and one that is read from its first n rows
pub row_taken : (t : List (List ℕ)) (n u : ℕ) (row : List ℕ) → n ≤ length t → u < length (take n t) → row ≡ get_or (take n t) u row
    → (u < n) × (row ≡ get_or t u [])
row_taken t n u row few l e =
    let low : u < n = omega (arith, l, length-take-le n t few) in
    (low, e ∙ get_or-take n t u row low ∙ row_read t u row (omega (arith, low, few)))

-- two rows that are read, each at any default, and that have the same jobs
pub same_read
    : (t : List (List ℕ)) (u v : ℕ) (row other : List ℕ) → u < length t → v < length t
    → not (exists (λ w. xor (has (get_or t u row) w) (has (get_or t v other) w)) (below 128)) ≡ true → (w : ℕ) → w < 128 → holds t u w ≡ holds t v w
unfolding holds
same_read t u v row other l m e = same_jobs _ _ (rw (row_read t u row l, row_read t v other m) at e)

module _ (t : List (List ℕ)) (u : ℕ) (row : List ℕ) where
  pub row_here : u < length t → (v : ℕ) → holds (set t u row) u v ≡ has row v
  unfolding holds
  row_here l v = ap (λ s. has s v) (get_or-set_same t u row [] l)

  pub row_there : (x v : ℕ) → (x ≡ u → ⊥) → holds (set t u row) x v ≡ holds t x v
  unfolding holds
  row_there x v d = ap (λ s. has s v) (get_or-set_other t u x row [] d)

  -- after a row is set, a table holds a relation that is right at this row, and was right elsewhere
  pub set_row
      : (r : Rel) → u < length t → ((v : ℕ) → has row v ≡ r u v) → ((x v : ℕ) → (x ≡ u → ⊥) → holds t x v ≡ r x v)
      → (x v : ℕ) → holds (set t u row) x v ≡ r x v
  set_row r l here there x v = by (ℕ_discrete x u)
    where
      by : Dec (x ≡ u) → holds (set t u row) x v ≡ r x v
      by (yes e) = rw e (row_here l v ∙ here v)
      by (no d) = row_there x v d ∙ there x v d

-- zeros hold nothing

pub has_blank : (v : ℕ) → has (replicate 2 0) v ≡ false
unfolding has
has_blank v = ap (λ (w : ℕ). bit w (v % 64)) (zeros (v / 64)) ∙ bit_zero (v % 64)
  where
    zeros : (q : ℕ) → ◌≡◌ {A = ℕ} (get_or (0 ∷ 0 ∷ []) q 0) 0
    zeros zero = refl
    zeros (suc zero) = refl
    zeros (suc (suc q)) = refl

pub holds_blank : (n u v : ℕ) → holds (replicate n (replicate 2 0)) u v ≡ false
unfolding holds has
holds_blank zero u v = bit_zero (v % 64)
holds_blank (suc n) zero v = has_blank v
holds_blank (suc n) (suc u) v = holds_blank n u v

-- a table made row by row, of which the rows below i hold a relation
pub record Filled (rel : Rel) (r : List (List ℕ)) (n i : ℕ) : Type 0 where
  pub within : i ≤ n
  pub rows : length r ≡ 128
  pub done : (u v : ℕ) → u < i → holds r u v ≡ rel u v
  pub left : (u v : ℕ) → i ≤ u → holds r u v ≡ false

module _ (rel : Rel) (n : ℕ) where
  pub filled_none : Filled rel (replicate 128 (replicate 2 0)) n 0
  filled_none = record { within = zero-le; rows = refl; done = λ u v l. absurd (omega arith); left = λ u v l. holds_blank 128 u v }

  module _ (r : List (List ℕ)) (i : ℕ) (p : Filled rel r n i) where
    pub filled_end : n ≤ i → ((u v : ℕ) → rel u v ≡ true → u < n) → (u v : ℕ) → holds r u v ≡ rel u v
    filled_end l inside u v = by (dec_lt u n)
      where
        by : Dec (u < n) → holds r u v ≡ rel u v
        by (yes h) = p.done u v (omega arith)
        by (no h) = p.left u v (omega arith) ∙ sym (false_unless _ (λ d. h (inside u v d)))

    pub filled_next : i < n → n ≤ 128 → (row : List ℕ) → ((v : ℕ) → has row v ≡ rel i v) → Filled rel (set r i row) n (i + 1)
    filled_next l m row h =
        record {
          within = omega arith;
          rows = length-set r i row ∙ p.rows;
          done =
              λ u v d.
              ⊎_elim
              (λ (c : u ≡ i). rw c (row_here r i row (rw p.rows (omega arith)) v ∙ h v))
              (λ (c : u < i). row_there r i row u v (λ c'. omega arith) ∙ p.done u v c)
              (eq-or-lt_of_le (omega arith));
          left = λ u v d. row_there r i row u v (λ c. omega arith) ∙ p.left u v (omega arith);
        }
