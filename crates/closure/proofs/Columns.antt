-- Two columns of words in place of a table: what they hold, and how they are made and changed, word by word.
use Prim.Native.Nat.{ℕ, zero, suc, ◌+◌, ◌/◌, ◌%◌, ◌^◌, ◌≤◌, ◌<◌}
use native.Mathlib.Nat.{eq-or-lt_of_le}
use native.Mathlib.Decide.{dec_lt}
use native.Mathlib.Omega.{arith}
use mathlib.Core.Path.{◌≡◌, refl, sym, ap, ap₂, ◌∙◌}
use mathlib.Core.List.{List, [], ◌∷◌}
use mathlib.Core.Bool.{Bool, false, ◌&&◌, ◌||◌, cond}
use mathlib.Core.Logic.{⊎_elim}
use lib.Bits.{bit_and, bit_or, and_mask}
use lib.Dec.{eqb}
use lib.ListN.{length, get_or, set, replicate, length-set}
use lib.Seq.{get_or-set_same, get_or-set_other}
use Rattle.poset.specs.Lists.{keep, below, up_from}
use Rattle.poset.proofs.Laws.{false_unless}
use Rattle.relation.specs.Table.{bit, has, holds, Inside}
use Rattle.closure.specs.Columns.{columns, Joins}
use Rattle.relation.proofs.Lists.{or-false}
use Rattle.relation.proofs.Words.{digit_cases}
use Rattle.relation.proofs.Sets.{has_low, has_high, has_beyond, job_ind, bit_masked}
use Rattle.relation.proofs.Tables.{has_blank}
use Rattle.closure.proofs.Counting.{keep_next, keep_small}

-- what two columns hold, by their words
module _ (low high : List ℕ) (u : ℕ) where
  pub column_low : (i : ℕ) → i < 64 → columns low high u i ≡ bit (get_or low u 0) i
  unfolding columns
  column_low i l = has_low (get_or low u 0 ∷ get_or high u 0 ∷ []) i l

  pub column_high : (i : ℕ) → i < 64 → columns low high u (64 + i) ≡ bit (get_or high u 0) i
  unfolding columns
  column_high i l = has_high (get_or low u 0 ∷ get_or high u 0 ∷ []) i l

  pub column_beyond : (v : ℕ) → 128 ≤ v → columns low high u v ≡ false
  unfolding columns
  column_beyond v l = has_beyond (get_or low u 0 ∷ get_or high u 0 ∷ []) v refl l

-- a column worked through to word i: the words below i are right, and the others are those of the column that it was
pub record Worked (right : ℕ → ℕ → Type 0) (col₀ col : List ℕ) (n i : ℕ) : Type 0 where
  pub within : i ≤ n
  pub rows : length col ≡ 128
  pub done : (u : ℕ) → u < i → right u (get_or col u 0)
  pub left : (u : ℕ) → i ≤ u → get_or col u 0 ≡ get_or col₀ u 0

module _ (right : ℕ → ℕ → Type 0) (col₀ : List ℕ) (n : ℕ) where
  pub worked_none : length col₀ ≡ 128 → Worked right col₀ col₀ n 0
  worked_none h = record { within = omega arith; rows = h; done = λ u l. absurd (omega arith); left = λ u l. refl }

  pub worked_next : (col : List ℕ) (i : ℕ) → Worked right col₀ col n i → i < n → n ≤ 128 → (x : ℕ) → right i x → Worked right col₀ (set col i x) n (i + 1)
  worked_next col i p l m x h =
      record {
        within = omega arith;
        rows = length-set col i x ∙ p.rows;
        done =
            λ u d.
            ⊎_elim
            (λ (c : u ≡ i). rw (c, get_or-set_same col i x 0 (rw p.rows (omega arith))) h)
            (λ (c : u < i). rw (get_or-set_other col i u x 0 (λ c'. omega arith)) (p.done u c))
            (eq-or-lt_of_le (omega arith));
        left = λ u d. get_or-set_other col i u x 0 (λ c. omega arith) ∙ p.left u (omega arith);
      }

-- a column of a table

abbrev pub Word : List (List ℕ) → ℕ → ℕ → ℕ → Type 0
Word t w u x = x ≡ get_or (get_or t u []) w 0

pub zeros : (n u : ℕ) → ◌≡◌ {A = ℕ} (get_or (replicate n 0) u 0) 0
zeros zero u = refl
zeros (suc n) zero = refl
zeros (suc n) (suc u) = zeros n u

-- two columns that were 0 and have the words of a table hold what it holds
module _ (t : List (List ℕ)) (n i : ℕ) (low₀ high₀ low high : List ℕ)
    (p : Worked (Word t 0) low₀ low n i) (q : Worked (Word t 1) high₀ high n i)
  where
    pub columns_of
        : n ≤ i → n ≤ 128 → Inside n t → ((u : ℕ) → (get_or low₀ u 0 ≡ 0) × (get_or high₀ u 0 ≡ 0)) → (u v : ℕ) → columns low high u v ≡ holds t u v
    unfolding columns holds
    columns_of end small inside blank u v = by (dec_lt u n) v
      where
        by : Dec (u < n) → (v : ℕ) → columns low high u v ≡ holds t u v
        by (yes l) v =
            job_ind (λ v. columns low high u v ≡ holds t u v)
            (λ i m. column_low low high u i m ∙ ap (λ (x : ℕ). bit x i) (p.done u (omega arith)) ∙ sym (has_low (get_or t u []) i m))
            (λ i m. column_high low high u i m ∙ ap (λ (x : ℕ). bit x i) (q.done u (omega arith)) ∙ sym (has_high (get_or t u []) i m))
            (λ v m. column_beyond low high u v m ∙ sym (false_unless _ (λ e. omega (arith, (inside u v e).1))))
            v
        by (no l) v =
            ap₂ (λ (x y : ℕ). has (x ∷ y ∷ []) v) (p.left u (omega arith) ∙ (blank u).0) (q.left u (omega arith) ∙ (blank u).1)
            ∙ has_blank v ∙ sym (false_unless _ (λ e. l (inside u v e).0))

-- a word joined to the words of a column where those of another column have bit k

abbrev pub Grown : List ℕ → ℕ → ℕ → List ℕ → ℕ → ℕ → Type 0
Grown test k a col u x = (i : ℕ) → i < 64 → bit x i ≡ (bit (get_or col u 0) i || (bit (get_or test u 0) k && bit a i))

module _ (test : List ℕ) (k a : ℕ) (col₀ : List ℕ) (n : ℕ) (col : List ℕ) (i : ℕ) (p : Worked (Grown test k a col₀) col₀ col n i) where
  pub grown_next : i < n → n ≤ 128 → (m : ℕ) (b : Bool) → ((j : ℕ) → j < 64 → bit m j ≡ b) → b ≡ bit (get_or test i 0) k
      → Worked (Grown test k a col₀) col₀ (set col i (bit_or (get_or col i 0) (bit_and a m))) n (i + 1)
  grown_next l s m b mask e =
      worked_next (Grown test k a col₀) col₀ n col i p l s _ λ j d.
      bit_masked b m mask (get_or col i 0) a j d
      ∙ ap₂ (λ (x y : Bool). x || (y && bit a j)) (ap (λ (x : ℕ). bit x j) (p.left i (omega arith))) e

  pub grown_end : n ≤ i → ((u : ℕ) → n ≤ u → bit (get_or test u 0) k ≡ false) → Joins test k a col₀ col
  grown_end l clear u j d = by (dec_lt u n)
    where
      by : Dec (u < n) → bit (get_or col u 0) j ≡ (bit (get_or col₀ u 0) j || (bit (get_or test u 0) k && bit a j))
      by (yes h) = p.done u (omega arith) j d
      by (no h) =
          ap (λ (x : ℕ). bit x j) (p.left u (omega arith))
          ∙ sym (ap (λ (b : Bool). bit (get_or col₀ u 0) j || (b && bit a j)) (clear u (omega arith)) ∙ or-false (bit (get_or col₀ u 0) j))

-- a tested bit as a number
bit_number : (w k : ℕ) → bit_and (w / 2 ^ k) 1 ≡ cond (bit w k) 1 0
unfolding bit
bit_number w k = and_mask (w / 2 ^ k) 1 ∙ digit (w / 2 ^ k % 2) (omega arith)
  where
    digit : (x : ℕ) → x < 2 → x ≡ cond (eqb x 1) 1 0
    digit x l = ⊎_elim (λ (e : x ≡ 0). rw e) (λ (e : x ≡ 1). rw e) (digit_cases x l)

-- how many words of a column, below word n, have bit k
abbrev pub tally : List ℕ → ℕ → ℕ → ℕ
tally col k n = length (keep (λ u. bit (get_or col u 0) k) (below n))

pub tally_none : (col : List ℕ) (k : ℕ) → 0 ≡ tally col k 0
unfolding keep below up_from
tally_none col k = refl

module _ (col : List ℕ) (k n : ℕ) where
  pub tally_next : (joins : ℕ) → joins ≡ tally col k n → (w : ℕ) → w ≡ get_or col n 0 → joins + bit_and (w / 2 ^ k) 1 ≡ tally col k (n + 1)
  tally_next joins h w e =
      sym (keep_next (λ u. bit (get_or col u 0) k) n ∙ ap₂ ◌+◌ (sym h) (sym (bit_number w k ∙ ap (λ (x : ℕ). cond (bit x k) 1 0) e)))

  pub tally_small : tally col k n ≤ n
  tally_small = keep_small (λ u. bit (get_or col u 0) k) n
