-- A relation as two columns of words, one for each half of the rows, on which the steps of the closure work.
-- For the contracts of src/passes.rt alone: who reads the promise of transitive_closure need not believe it.
use Rattle.std.specs.Prelude.{ℕ, ◌<◌, ◌≡◌, List, [], ◌∷◌, ◌&&◌, ◌||◌, get_or}
use Rattle.poset.specs.Order.{Rel}
use Rattle.relation.specs.Table.{bit, has}

-- the relation that two columns hold, one of the rows' first words and one of their second
unfoldable pub columns : List ℕ → List ℕ → Rel
columns low high u v = has (get_or low u 0 ∷ get_or high u 0 ∷ []) v

-- col' is a column with the word a joined to each word beside which that of another column, test, has bit k
abbrev pub Joins : List ℕ → ℕ → ℕ → List ℕ → List ℕ → Type 0
Joins test k a col col' = (u i : ℕ) → i < 64 → bit (get_or col' u 0) i ≡ (bit (get_or col u 0) i || (bit (get_or test u 0) k && bit a i))
