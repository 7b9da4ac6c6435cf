-- Lists of numbers below a bound.
use Prim.Native.Nat.{ℕ, zero, suc, ◌<◌}
use mathlib.Core.Path.{◌≡◌, refl, subst}
use mathlib.Core.List.Memᴰ
use mathlib.Core.List.{List, [], ◌∷◌, ◌++◌}
use mathlib.Core.Logic.{⊎_elim}
use native.Mathlib.Omega.{arith}
use lib.ListN.{set}
use Rattle.record.specs.Bits.{AllBelow}

module _ {m : ℕ} where
  pub below_nil : AllBelow m []
  below_nil x i = absurd (Memᴰ.not-nil i)

  pub below_cons : {y : ℕ} {ys : List ℕ} → y < m → AllBelow m ys → AllBelow m (y ∷ ys)
  below_cons {y} h hs x i = ⊎_elim (λ (e : x ≡ y). omega arith) (λ j. hs x j) (Memᴰ.cases_cons i)

  pub below_head : {y : ℕ} {ys : List ℕ} → AllBelow m (y ∷ ys) → y < m
  below_head {y} h = h y (Memᴰ.head refl)

  pub below_tail : {y : ℕ} {ys : List ℕ} → AllBelow m (y ∷ ys) → AllBelow m ys
  below_tail h x i = h x (Memᴰ.tail i)

  pub below_append : {xs ys : List ℕ} → AllBelow m xs → AllBelow m ys → AllBelow m (xs ++ ys)
  below_append {xs} p q x i = ⊎_elim (λ j. p x j) (λ j. q x j) (Memᴰ.append_cases xs i)

  pub below_left : (xs ys : List ℕ) → AllBelow m (xs ++ ys) → AllBelow m xs
  below_left xs ys h x i = h x (Memᴰ.append_left ys i)

  pub below_right : (xs ys : List ℕ) → AllBelow m (xs ++ ys) → AllBelow m ys
  below_right xs ys h x i = h x (Memᴰ.append_right xs i)

  -- an entry exchanged
  pub below_set : (xs : List ℕ) (i x : ℕ) → AllBelow m xs → x < m → AllBelow m (set xs i x)
  below_set [] i x h l = below_nil
  below_set (y ∷ ys) zero x h l = below_cons l (below_tail h)
  below_set (y ∷ ys) (suc i) x h l = below_cons (below_head h) (below_set ys i x (below_tail h) l)

  -- what follows a part of such a list
  pub below_rest : (xs : List ℕ) {bs rest : List ℕ} → AllBelow m bs → bs ≡ xs ++ rest → AllBelow m rest
  below_rest xs {rest = rest} h e = below_right xs rest (subst (AllBelow m) e h)
