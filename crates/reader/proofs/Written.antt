-- A list that is written entry by entry over zeros.
use Prim.Native.Nat.{ℕ, suc, ◌+◌, ◌-◌, ◌<◌}
use mathlib.Core.Path.{◌≡◌, sym, ap, ap₂, ◌∙◌}
use mathlib.Core.List.{List, [], ◌∷◌, ◌++◌}
use native.Mathlib.Omega.{arith}
use lib.ListN.{length, get_or, set, take, replicate}
use lib.Seq.{take-suc, set_at, append_snoc, length-take-le, take_all}

module _ (room : ℕ) (xs : List ℕ) (i : ℕ) (ys : List ℕ) (written : ys ≡ take i xs ++ replicate (room - i) 0) where
  pub written_all : i ≡ length xs → ys ≡ xs ++ replicate (room - length xs) 0
  written_all e = written ∙ ap₂ (λ (a b : List ℕ). a ++ b) (take_all i xs (omega arith)) (ap (λ (k : ℕ). replicate (room - k) 0) e)

  pub written_more : i < length xs → i < room → (x : ℕ) → get_or xs i 0 ≡ x → set ys i x ≡ take (i + 1) xs ++ replicate (room - (i + 1)) 0
  written_more more free x e =
      let one : i + 1 ≡ suc i = omega arith in
      let spare : room - i ≡ suc (room - (i + 1)) = omega arith in
      let rest : List ℕ = replicate (room - (i + 1)) 0 in
      ap (λ (l : List ℕ). set l i x) (written ∙ ap (λ (k : ℕ). take i xs ++ replicate k 0) spare)
      ∙ set_at (take i xs) 0 rest x i (length-take-le i xs (omega arith))
      ∙ sym (append_snoc (take i xs) x rest)
      ∙ ap (λ (l : List ℕ). l ++ rest)
      (ap (λ (y : ℕ). take i xs ++ y ∷ []) (sym e) ∙ sym (take-suc xs i 0 more) ∙ ap (λ (k : ℕ). take k xs) (sym one))
