-- One step of turning a table, for the contracts of src/turning.rt alone: a public contract names nothing of this.
use Rattle.std.specs.Prelude.{ℕ, ◌+◌, ◌-◌, ◌^◌, ◌≤◌, ◌≡◌, List, Bool, true, false}
use Rattle.poset.specs.Order.{Rel}
use Rattle.relation.specs.Table.{bit, holds}

-- two rows a, b, whose numbers differ in digit e alone, after the exchange of digit e of the row's number with that of the column's

unfoldable pub first_row_of : ℕ → (ℕ → Bool) → (ℕ → Bool) → ℕ → Bool
first_row_of e a b v = elim (bit v e) [ true ↦ b (v - 2 ^ e) | false ↦ a v ]

unfoldable pub second_row_of : ℕ → (ℕ → Bool) → (ℕ → Bool) → ℕ → Bool
second_row_of e a b v = elim (bit v e) [ true ↦ b v | false ↦ a (v + 2 ^ e) ]

-- a relation after that exchange
unfoldable pub exchanged : ℕ → Rel → Rel
exchanged e r u v = elim (bit u e) [ true ↦ second_row_of e (r (u - 2 ^ e)) (r u) v | false ↦ first_row_of e (r u) (r (u + 2 ^ e)) v ]

-- the rows from n on are empty
abbrev pub Until : ℕ → List (List ℕ) → Type 0
Until n t = (u v : ℕ) → n ≤ u → holds t u v ≡ false
