-- The first that passes a test, by this repository's words and by std's.
use Prim.Native.Nat.{ℕ, suc, ◌+◌}
use mathlib.Core.Path.{◌≡◌, refl, ap, ◌∙◌}
use mathlib.Core.List.{List, [], ◌∷◌}
use mathlib.Core.Bool.{Bool, true, false, cond, ◌||◌}
use native.Mathlib.Numerals.{add-one}
use Rattle.std.specs.Prelude.{Option, None, Some, position}
use Rattle.std.specs.List.{list_any, position_from}
use Rattle.std.proofs.lemmas.Iterator.Adapters.{position_from-zero}
use Rattle.poset.proofs.Laws.{clash}
use Rattle.relation.specs.Arcs.{place_from, place}

module _ {A : Type 0} (p : A → Bool) where
  from_is : (k : ℕ) (xs : List A) → position_from p k xs ≡ place_from k p xs
  unfolding place_from
  from_is k [] = refl
  from_is k (x ∷ xs) = by (p x) (from_is (suc k) xs)
    where
      by : (b : Bool) → position_from p (suc k) xs ≡ place_from (suc k) p xs
          → cond b (Some k) (position_from p (k + 1) xs) ≡ elim b [ true ↦ Some k | false ↦ place_from (suc k) p xs ]
      by true h = refl
      by false h = ap (λ (j : ℕ). position_from p j xs) (add-one k) ∙ h

  pub position_is : (xs : List A) → position p xs ≡ place p xs
  unfolding place
  position_is xs = position_from-zero p xs ∙ from_is 0 xs

  none_from : (k : ℕ) (xs : List A) → list_any p xs ≡ false → None ≡ place_from k p xs
  unfolding place_from
  none_from k [] e = refl
  none_from k (x ∷ xs) e = by (p x) (none_from (suc k) xs) e
    where
      by : (b : Bool) → (list_any p xs ≡ false → None ≡ place_from (suc k) p xs) → (b || list_any p xs) ≡ false
          → ◌≡◌ {A = Option ℕ} None (elim b [ true ↦ Some k | false ↦ place_from (suc k) p xs ])
      by true h e = absurd (clash refl e)
      by false h e = h e

  pub none_passes : (xs : List A) → list_any p xs ≡ false → None ≡ place p xs
  unfolding place
  none_passes xs = none_from 0 xs
