-- Runs of stores, one after another.
use Prim.Native.Nat.{ℕ, suc, ◌+◌, ◌-◌, ◌≤◌, ◌<◌}
use mathlib.Core.Path.{◌≡◌, refl, sym, ap, ap₂, ◌∙◌}
use mathlib.Core.List.{List, [], ◌∷◌, ◌++◌}
use native.Mathlib.Nat.{add-zero}
use native.Mathlib.Omega.{arith}
use native.Mathlib.Numerals.{add-one}
use lib.ListN.{length, take, drop, replicate, set, take-append-drop}
use lib.Seq.{sets, set_comm, take-suc-set, drop-set-lt, drop-drop, length-take-le}

-- a list filled from the left, zeros after it

pub stored : (xs : List ℕ) (i x : ℕ) → i < length xs → take (i + 1) (set xs i x) ≡ take i xs ++ (x ∷ [])
stored xs i x l = ap (λ k. take k (set xs i x)) (add-one i) ∙ take-suc-set xs i x l

pub blank_next : (xs : List ℕ) (i x m : ℕ) → i < m → drop i xs ≡ replicate (m - i) 0 → drop (i + 1) (set xs i x) ≡ replicate (m - (i + 1)) 0
blank_next xs i x m l e =
    let one : m - i ≡ suc (m - (i + 1)) = omega arith in
    drop-set-lt (i + 1) xs i x (omega arith)
    ∙ sym (drop-drop 1 i xs)
    ∙ ap (drop 1) (e ∙ ap (λ k. replicate k 0) one)

pub blank_stored : (xs : List ℕ) (i j x m : ℕ) → i < m → j ≡ i + 1 → drop i xs ≡ replicate (m - i) 0 → drop j (set xs i x) ≡ replicate (m - j) 0
blank_stored xs i j x m l e h =
    ap (λ k. drop k (set xs i x)) e ∙ blank_next xs i x m l h ∙ ap (λ k. replicate (m - k) 0) (sym e)

pub whole_list : (xs ys : List ℕ) (i m : ℕ) → i ≤ length xs → take i xs ≡ ys → drop i xs ≡ replicate (m - i) 0
    → (i ≡ length ys) × (xs ≡ ys ++ replicate (m - length ys) 0)
whole_list xs ys i m l first rest =
    let long : i ≡ length ys = sym (length-take-le i xs l) ∙ ap length first in
    (long, sym (take-append-drop i xs) ∙ ap₂ ◌++◌ first (rest ∙ ap (λ k. replicate (m - k) 0) long))

module _ {ℓ} {A : Type ℓ} where
  pub sets_append : (l : List A) (i : ℕ) (xs ys : List A) → sets l i (xs ++ ys) ≡ sets (sets l i xs) (i + length xs) ys
  sets_append l i [] ys = ap (λ k. sets l k ys) (sym (add-zero i))
  sets_append l i (x ∷ xs) ys =
      let e : suc i + length xs ≡ i + suc (length xs) = omega arith in
      sets_append (set l i x) (suc i) xs ys ∙ ap (λ k. sets (sets (set l i x) (suc i) xs) k ys) e

  set_sets : (l : List A) (i j : ℕ) (x : A) (ys : List A) → i < j → sets (set l i x) j ys ≡ set (sets l j ys) i x
  set_sets l i j x [] h = refl
  set_sets l i j x (y ∷ ys) h =
      ap (λ k. sets k (suc j) ys) (set_comm l i j x y (omega arith)) ∙ set_sets (set l j y) i (suc j) x ys (omega arith)

  -- two runs that do not meet may change places
  pub sets_comm : (l : List A) (i j : ℕ) (xs ys : List A) → i + length xs ≤ j → sets (sets l j ys) i xs ≡ sets (sets l i xs) j ys
  sets_comm l i j [] ys h = refl
  sets_comm l i j (x ∷ xs) ys h =
      ap (λ k. sets k (suc i) xs) (sym (set_sets l i j x ys (omega arith))) ∙ sets_comm (set l i x) (suc i) j xs ys (omega arith)
