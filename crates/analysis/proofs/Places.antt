-- The place of the first element that passes a test.
use Prim.Native.Nat.{ℕ, suc, ◌≤◌, ◌<◌}
use mathlib.Core.Path.{◌≡◌, refl, sym, ap, ◌∙◌}
use mathlib.Core.List.Memᴰ
use mathlib.Core.List.{List, [], ◌∷◌, Memᴰ}
use mathlib.Core.Bool.{Bool, true, false}
use Rattle.std.specs.Prelude.{None, Some, option_map}
use Rattle.std.proofs.lemmas.Option.{same_Some}
use mathlib.Core.Logic.{◌⊎◌, ⊎_elim, ⊎_map, ◌↔◌}
use native.Mathlib.Omega.{arith}
use lib.Dec.{leb, leb→le, le→leb}
use lib.ListN.{length, length-append}
use Rattle.poset.specs.Order.{Arc}
use Rattle.poset.proofs.Laws.{decided, clash, T_true, true_T, or_cases, or_left, or_right, eqb-true, eqb_same, found_or_none, found_clash}
use Rattle.relation.specs.Arcs.{place_from, place, outside, loop}
use Rattle.analysis.specs.Claims.{FirstAt}

module _ {ℓ κ} {A : Type ℓ} {P : A → Type κ} {xs : List A} {i : ℕ} (f : FirstAt P xs i) where
  pub first_mem : (a : A) × Memᴰ a xs × P a
  first_mem = (f.1, rw f.3 (Memᴰ.append_right f.0 (Memᴰ.head refl)), f.5)

  pub first_below : i < length xs
  first_below = omega (arith, ap length f.3, length-append f.0 (f.1 ∷ f.2), f.4)

-- one place further on
pub shifted {ℓ} : {A : Type ℓ} (p : A → Bool) (k : ℕ) (xs : List A) → place_from (suc k) p xs ≡ option_map suc (place_from k p xs)
unfolding place_from
shifted p k [] = refl
shifted p k (x ∷ xs) =
    ⊎_elim (λ (e : p x ≡ true). rw (e, place_from)) (λ (e : p x ≡ false). rw (e, place_from) (shifted p (suc k) xs)) (decided (p x))

module _ {ℓ κ} {A : Type ℓ} (p : A → Bool) (P : A → Type κ) (decides : (x : A) → (p x ≡ true) ↔ P x) where
  fails : (x : A) → p x ≡ false → P x → ⊥
  fails x e h = clash ((decides x).1 h) e

  place_nil : place p [] ≡ None
  unfolding place place_from
  place_nil = refl

  place_here : (x : A) (xs : List A) → p x ≡ true → place p (x ∷ xs) ≡ Some 0
  unfolding place place_from
  place_here x xs e = rw (e, place_from)

  place_later : (x : A) (xs : List A) {i : ℕ} → p x ≡ false → place p xs ≡ Some i → place p (x ∷ xs) ≡ Some (suc i)
  unfolding place place_from
  place_later x xs e h = rw (e, place_from) (shifted p 0 xs ∙ ap (option_map suc) h)

  place_past : (x : A) (xs : List A) → p x ≡ false → place p xs ≡ None → place p (x ∷ xs) ≡ None
  unfolding place place_from
  place_past x xs e h = rw (e, place_from) (shifted p 0 xs ∙ ap (option_map suc) h)

  pub place_first : (xs : List A) (i : ℕ) → place p xs ≡ Some i → FirstAt P xs i
  place_first [] i h = absurd (found_clash h place_nil)
  place_first (x ∷ xs) i h =
      ⊎_elim
      (λ (e : p x ≡ true).
      ([], x, xs, refl, same_Some 0 i (sym (place_here x xs e) ∙ h), (decides x).0 e, λ y m. absurd (Memᴰ.not-nil m)))
      (λ (e : p x ≡ false).
      ⊎_elim
      (λ (f : (j : ℕ) × (place p xs ≡ Some j)).
      later e (same_Some _ i (sym (place_later x xs e f.1) ∙ h)) (place_first xs f.0 f.1))
      (λ (f : place p xs ≡ None). absurd (found_clash h (place_past x xs e f)))
      (found_or_none (place p xs)))
      (decided (p x))
    where
      later : {j : ℕ} → p x ≡ false → suc j ≡ i → FirstAt P xs j → FirstAt P (x ∷ xs) i
      later e s f = (
        x ∷ f.0,
        f.1,
        f.2,
        ap (◌∷◌ x) f.3,
        ap suc f.4 ∙ s,
        f.5,
        λ y m q.
            ⊎_elim (λ (d : y ≡ x). fails x e (rw d at q)) (λ (m' : Memᴰ y f.0). f.6 y m' q) (Memᴰ.cases_cons m),
      )

  pub place_none : (xs : List A) → place p xs ≡ None → (x : A) → Memᴰ x xs → P x → ⊥
  place_none [] h y m q = Memᴰ.not-nil m
  place_none (x ∷ xs) h y m q =
      ⊎_elim
      (λ (e : p x ≡ true). found_clash (place_here x xs e) h)
      (λ (e : p x ≡ false).
      ⊎_elim
      (λ (d : y ≡ x). fails x e (rw d at q))
      (λ (m' : Memᴰ y xs).
      ⊎_elim
      (λ (f : (i : ℕ) × (place p xs ≡ Some i)). found_clash (place_later x xs e f.1) h)
      (λ (f : place p xs ≡ None). place_none xs f y m' q)
      (found_or_none (place p xs)))
      (Memᴰ.cases_cons m))
      (decided (p x))

  pub no_place : (xs : List A) → ((x : A) × Memᴰ x xs × P x → ⊥) → place p xs ≡ None
  no_place xs h = ⊎_elim (λ f. absurd (h (first_mem (place_first xs f.0 f.1)))) (λ e. e) (found_or_none (place p xs))

pub outside_is : (n : ℕ) (a : Arc) → (outside n a ≡ true) ↔ ((n ≤ a.0) ⊎ (n ≤ a.1))
unfolding outside
outside_is n a = (
  λ h. ⊎_map (λ e. leb→le n a.0 (true_T _ e)) (λ e. leb→le n a.1 (true_T _ e)) (or_cases (leb n a.0) _ h),
  ⊎_elim (λ l. or_left (leb n a.0) _ (T_true _ (le→leb n a.0 l))) (λ l. or_right (leb n a.0) _ (T_true _ (le→leb n a.1 l))),
)

pub loop_is : (a : Arc) → (loop a ≡ true) ↔ (a.0 ≡ a.1)
unfolding loop
loop_is a = (eqb-true a.0 a.1, λ e. rw e (eqb_same a.1))
