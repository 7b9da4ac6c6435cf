-- Small functions on lists.
use Rattle.std.specs.Prelude.{ℕ, zero, suc, ◌+◌, List, [], ◌∷◌, Option, None, Some, Bool, true, false, eqb}

-- some element passes the test
unfoldable pub exists {ℓ} : {A : Type ℓ} → (A → Bool) → List A → Bool
exists p [] = false
exists p (x ∷ xs) = elim (p x) [ true ↦ true | false ↦ exists p xs ]

-- the elements that pass the test, in their order
unfoldable pub keep {ℓ} : {A : Type ℓ} → (A → Bool) → List A → List A
keep p [] = []
keep p (x ∷ xs) = elim (p x) [ true ↦ x ∷ keep p xs | false ↦ keep p xs ]

-- what f gives for each element, added up
abbrev pub sum {ℓ} : {A : Type ℓ} → (A → ℕ) → List A → ℕ
sum f [] = 0
sum f (x ∷ xs) = f x + sum f xs

unfoldable pub member : ℕ → List ℕ → Bool
member x = exists (eqb x)

-- how often x stands in a list
unfoldable pub occurrences : ℕ → List ℕ → ℕ
occurrences x [] = 0
occurrences x (y ∷ ys) = elim (eqb x y) [ true ↦ suc (occurrences x ys) | false ↦ occurrences x ys ]

-- k, k + 1, .., n numbers in all
unfoldable pub up_from : ℕ → ℕ → List ℕ
up_from k zero = []
up_from k (suc n) = k ∷ up_from (suc k) n

-- the numbers below n, ascending
unfoldable pub below : ℕ → List ℕ
below = up_from 0

-- what f first finds over a list
unfoldable pub first {ℓ} : {A : Type ℓ} {B : Type 0} → (A → Option B) → List A → Option B
first f [] = None
first f (x ∷ xs) = elim (f x) [ Some b ↦ Some b | None ↦ first f xs ]

unfoldable pub only_if : {A : Type 0} → Bool → A → Option A
only_if true a = Some a
only_if false a = None

-- u stands ahead of v in a list that has each of them once
unfoldable pub ahead_in : ℕ → ℕ → List ℕ → Bool
ahead_in u v [] = false
ahead_in u v (x ∷ xs) = elim (eqb u x) [ true ↦ member v xs | false ↦ ahead_in u v xs ]
