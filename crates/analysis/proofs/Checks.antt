-- Laws of checks in their order, and of what an elimination of a test or of a search gives.
use Prim.Native.Nat.{ℕ}
use mathlib.Core.Path.{◌≡◌, refl}
use mathlib.Core.List.{List, [], ◌∷◌, ◌++◌}
use mathlib.Core.Bool.{Bool, true, false}
use Rattle.std.specs.Prelude.{Option, None, Some}
use mathlib.Core.Logic.{inl, inr, ◌↔◌, ◌≢◌}
use Rattle.poset.proofs.Laws.{clash}
use Rattle.analysis.specs.Sentences.{Check, First}
use Rattle.analysis.specs.Claims.{NoneHolds}

-- k is the number of none of the checks
abbrev pub Other : ℕ → List Check → Type 0
Other k [] = Unit {0}
Other k (c ∷ cs) = (k ≢ c.0) × Other k cs

module _ (otherwise : ℕ → Type 0) (k : ℕ) where
  -- where none of the checks ahead holds, the others tell the number
  pub past : (cs ds : List Check) → NoneHolds cs → First ds otherwise k → First (cs ++ ds) otherwise k
  past [] ds clear f = f
  past (c ∷ cs) ds clear f = inr (clear.0, past cs ds clear.1 f)

  pub after : (cs ds : List Check) → NoneHolds cs → First (cs ++ ds) otherwise k → First ds otherwise k
  after [] ds clear f = f
  after (c ∷ cs) ds clear (inl h) = absurd (clear.0 h.0)
  after (c ∷ cs) ds clear (inr h) = after cs ds clear.1 h.1

  -- none of those ahead holds where the number is none of theirs
  pub unheld : (cs ds : List Check) → Other k cs → First (cs ++ ds) otherwise k → NoneHolds cs
  unheld [] ds o f = tt
  unheld (c ∷ cs) ds o (inl h) = absurd (o.0 h.1)
  unheld (c ∷ cs) ds o (inr h) = (h.0, unheld cs ds o.1 h.1)

module _ {ℓ} {O : Type 0} (P : O → Type ℓ) where
  -- what holds of either branch, where the test decides the sentence S
  pub by_test : {S : Type 0} {x y : O} (b : Bool) → (b ≡ true) ↔ S → (S → P x) → ((S → ⊥) → P y) → P (elim b [ true ↦ x | false ↦ y ])
  by_test true d f g = f (d.0 refl)
  by_test false d f g = g (λ s. clash (d.1 s) refl)

  pub by_search : {A : Type 0} {x : A → O} {y : O} (o : Option A) → ((a : A) → o ≡ Some a → P (x a)) → (o ≡ None → P y) → P (elim o [ Some a ↦ x a | None ↦ y ])
  by_search (Some a) f g = f a refl
  by_search None f g = g refl
