-- A relation on the jobs below 128, held as a table of rows, each row two 64-bit words.
use Rattle.std.specs.Prelude.{ℕ, ◌/◌, ◌%◌, ◌^◌, ◌<◌, ◌≡◌, List, [], Bool, true, false, ◌&&◌, eqb, ltb, get_or}
use Rattle.poset.specs.Lists.{keep, below}
use Rattle.poset.specs.Order.{Rel, incomparable}

-- bit i of a word
unfoldable pub bit : ℕ → ℕ → Bool
bit w i = eqb (w / 2 ^ i % 2) 1

-- a row is a set of jobs: job v is bit v % 64 of word v / 64
unfoldable pub has : List ℕ → ℕ → Bool
has row v = bit (get_or row (v / 64) 0) (v % 64)

-- the jobs of a row, ascending
unfoldable pub members : List ℕ → List ℕ
members row = keep (has row) (below 128)

-- v is the smallest job of a row
pub record Least (row : List ℕ) (v : ℕ) : Type 0 where
  pub small : v < 128
  pub member : has row v ≡ true
  pub least : (u : ℕ) → u < v → has row u ≡ false

-- v is the largest job of a row
pub record Greatest (row : List ℕ) (v : ℕ) : Type 0 where
  pub small : v < 128
  pub member : has row v ≡ true
  pub greatest : (u : ℕ) → v < u → has row u ≡ false

-- the relation that a table holds
unfoldable pub holds : List (List ℕ) → Rel
holds t u v = has (get_or t u []) v

-- two incomparable jobs below n (Document 01: free)
unfoldable pub apart : ℕ → Rel → Rel
apart n r u v = ltb u n && (ltb v n && incomparable r u v)

-- two jobs that stand to every job in the same way
pub record Twins (r : Rel) (u v : ℕ) : Type 0 where
  pub rows : (w : ℕ) → w < 128 → r u w ≡ r v w
  pub columns : (w : ℕ) → w < 128 → r w u ≡ r w v

-- all that a table holds is among the jobs below n
abbrev pub Inside : ℕ → List (List ℕ) → Type 0
Inside n t = (u v : ℕ) → holds t u v ≡ true → (u < n) × (v < n)
