-- Arcs in a flat list of numbers, and what a search finds among them.
use Rattle.std.specs.Prelude.{ℕ, suc, List, [], ◌∷◌, Bool, true, false, ◌||◌, eqb, leb}
use Rattle.std.specs.Prelude.{Option, None, Some}
use Rattle.poset.specs.Order.{Arc}

-- the arcs of a flat list, two numbers for each; a last odd number is left out
unfoldable pub pairs : List ℕ → List Arc
pairs [] = []
pairs (u ∷ []) = []
pairs (u ∷ v ∷ xs) = (u, v) ∷ pairs xs

-- the place of the first element that passes a test, where the list starts at place k
unfoldable pub place_from {ℓ} : {A : Type ℓ} → ℕ → (A → Bool) → List A → Option ℕ
place_from k p [] = None
place_from k p (x ∷ xs) = elim (p x) [ true ↦ Some k | false ↦ place_from (suc k) p xs ]

unfoldable pub place {ℓ} : {A : Type ℓ} → (A → Bool) → List A → Option ℕ
place = place_from 0

-- the arc names a job not below n
unfoldable pub outside : ℕ → Arc → Bool
outside n a = leb n a.0 || leb n a.1

-- the arc leads from a job to itself
unfoldable pub loop : Arc → Bool
loop a = eqb a.0 a.1
