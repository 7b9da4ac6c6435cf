-- An answer has a number and four places, 0 where nothing is named. Number 0 is acceptance.
use Rattle.std.specs.Prelude.{ℕ, List, [], ◌∷◌}

pub record Answer : Type 0 where
  pub number : ℕ
  pub first : ℕ
  pub second : ℕ
  pub third : ℕ
  pub fourth : ℕ

abbrev pub answer : ℕ → ℕ → ℕ → ℕ → ℕ → Answer
answer number first second third fourth =
    record { number = number; first = first; second = second; third = third; fourth = fourth }

-- the number and the four places in a row
abbrev pub numbers_of : Answer → List ℕ
numbers_of a = a.number ∷ a.first ∷ a.second ∷ a.third ∷ a.fourth ∷ []
