-- The answer on a pair list with one more order at its end. (Document 02, A.7: the number and places that the analysis would give for a copy with that
-- order at the end and areas long enough.)
use Rattle.std.specs.Prelude.{ℕ, ◌%◌, ◌≡◌, List, [], ◌∷◌, ◌++◌, length}
use Rattle.poset.specs.Order.{Arc, before, HasN}
use Rattle.relation.specs.Arcs.{pairs}
use Rattle.analysis.specs.Answer.{Answer}
use Rattle.analysis.specs.Outcome.{roomy, pair_outcome}
use Rattle.analysis.specs.Sentences.{First, limits, accepted}

-- a copy of the list with the order at its end
abbrev pub with_order : List ℕ → ℕ → ℕ → List ℕ
with_order list first second = list ++ (first ∷ second ∷ [])

-- the answer alone
unfoldable pub previewed : ℕ → List ℕ → List ℕ → ℕ → ℕ → Answer
previewed n hours list first second = (pair_outcome roomy n hours (with_order list first second)).verdict

-- its orders, where the list is not odd
abbrev pub orders_with : List ℕ → ℕ → ℕ → List Arc
orders_with list first second = pairs list ++ (first, second) ∷ []

-- k is the right number: of a pair list's sentences, in checking order, those up to 8
abbrev pub PreviewNumber : ℕ → List ℕ → List ℕ → ℕ → ℕ → ℕ → Type 0
PreviewNumber n hours list first second =
    let arcs = orders_with list first second in
    First ((2, length list % 2 ≡ 1) ∷ []) (First (limits n hours arcs ++ (8, HasN n (before n arcs)) ∷ []) accepted)
