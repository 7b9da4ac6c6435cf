-- The binary digits of a job's number: what the addition of 2 ^ e does to them, and the numbers in pairs that differ in digit e alone.
use Prim.Native.Nat.{ℕ, suc, ◌+◌, ◌-◌, ◌*◌, ◌/◌, ◌%◌, ◌^◌, ◌≤◌, ◌<◌}
use native.Mathlib.Nat.{le-div_iff_mul-le, div-lt_iff_lt-mul, add-div_right, add-mul-div_right, mul-add-div_right, add-mul-mod_self_right, add-mod_right}
use native.Mathlib.Nat.{eq-or-lt_of_le, add-mul, one-mul, mod-lt, mod-eq_of_lt, mod-eq-sub-mod, pow-suc, lt_of_lt_of_le}
use native.Mathlib.Omega.{arith}
use mathlib.Core.Path.{◌≡◌, sym, ap, ap₂, ◌∙◌}
use mathlib.Core.Bool.{true, false}
use mathlib.Core.Logic.{◌⊎◌, inl, inr, ⊎_elim}
use lib.Dec.{eqb}
use lib.Pow.{pow_pos, pow_mono, pow-add, split, high, mod-pow-add}
use borrow.Author.Tests.{eqb-true, eqb-false}
use Rattle.relation.specs.Table.{bit}
use Rattle.relation.proofs.Words.{digit_cases, one_shifted}

-- digit e of u

module _ (u e : ℕ) where
  pub set_digit : bit u e ≡ true → u / 2 ^ e % 2 ≡ 1
  unfolding bit
  set_digit h = eqb-true (u / 2 ^ e % 2) 1 h

  pub clear_digit : bit u e ≡ false → u / 2 ^ e % 2 ≡ 0
  unfolding bit
  clear_digit h =
      let d = eqb-false (u / 2 ^ e % 2) 1 h in
      ⊎_elim (λ (z : u / 2 ^ e % 2 ≡ 0). z) (λ (o : u / 2 ^ e % 2 ≡ 1). absurd (d o)) (digit_cases (u / 2 ^ e % 2) (omega arith))

  pub set_le : bit u e ≡ true → 2 ^ e ≤ u
  set_le h = let l : 1 ≤ u / 2 ^ e = omega (arith, set_digit h) in let m = (le-div_iff_mul-le (pow_pos e)).0 l in omega (arith, m, one-mul (2 ^ e))

-- a power of two above digit e

whole : (e w : ℕ) → e < w → 2 ^ w ≡ 2 ^ (w - 1 - e) * 2 * 2 ^ e
whole e w l =
    let s : w ≡ w - 1 - e + 1 + e = omega arith in
    ap (λ (x : ℕ). 2 ^ x) s ∙ pow-add 2 (w - 1 - e + 1) e ∙ ap (λ (x : ℕ). x * 2 ^ e) (pow-add 2 (w - 1 - e) 1)

module _ (e w u : ℕ) (l : e < w) where
  pub stays_above : bit u e ≡ true → 2 ^ w ≤ u → 2 ^ w ≤ u - 2 ^ e
  stays_above h m =
      let c = 2 ^ (w - 1 - e) in
      let j = 2 ^ e in
      let m' : c * 2 * j ≤ u = rw (whole e w l) at m in
      let a : c * 2 ≤ u / j = (le-div_iff_mul-le (pow_pos e)).1 m' in
      let s : u ≡ u - j + j = omega (arith, set_le u e h) in
      let d : u / j ≡ (u - j) / j + 1 = ap (λ (x : ℕ). x / j) s ∙ add-div_right (u - j) (pow_pos e) in
      let b : c * 2 ≤ (u - j) / j = omega (arith, set_digit u e h) in
      rw (whole e w l) ((le-div_iff_mul-le (pow_pos e)).0 b)

  pub stays_below : bit u e ≡ false → u < 2 ^ w → u + 2 ^ e < 2 ^ w
  stays_below h m =
      let c = 2 ^ (w - 1 - e) in
      let j = 2 ^ e in
      let m' : u < c * 2 * j = rw (whole e w l) at m in
      let a : u / j < c * 2 = (div-lt_iff_lt-mul (pow_pos e)).1 m' in
      let d : (u + j) / j ≡ u / j + 1 = add-div_right u (pow_pos e) in
      let b : (u + j) / j < c * 2 = omega (arith, clear_digit u e h) in
      rw (whole e w l) ((div-lt_iff_lt-mul (pow_pos e)).0 b)

  pub digit_above : bit (2 ^ w + u) e ≡ bit u e
  unfolding bit
  digit_above =
      let c = 2 ^ (w - 1 - e) in
      let j = 2 ^ e in
      let d : (2 ^ w + u) / j ≡ c * 2 + u / j = ap (λ (x : ℕ). (x + u) / j) (whole e w l) ∙ mul-add-div_right (pow_pos e) (c * 2) u in
      let r : (2 ^ w + u) / j % 2 ≡ u / j % 2 = omega arith in
      ap (λ (x : ℕ). eqb x 1) r

-- the digits below e + 1

module _ (x e : ℕ) where
  lower : x % 2 ^ (e + 1) ≡ x / 2 ^ e % 2 * 2 ^ e + x % 2 ^ e
  lower = let s : e + 1 ≡ 1 + e = omega arith in ap (λ (k : ℕ). x % 2 ^ k) s ∙ mod-pow-add x 1 e

  pub lower_set : bit x e ≡ true → x % 2 ^ (e + 1) ≡ 2 ^ e + x % 2 ^ e
  lower_set h = lower ∙ ap (λ (d : ℕ). d * 2 ^ e + x % 2 ^ e) (set_digit x e h) ∙ ap (λ (d : ℕ). d + x % 2 ^ e) (one-mul (2 ^ e))

  pub lower_clear : bit x e ≡ false → x % 2 ^ (e + 1) ≡ x % 2 ^ e
  lower_clear h = let z : 0 * 2 ^ e + x % 2 ^ e ≡ x % 2 ^ e = omega arith in lower ∙ ap (λ (d : ℕ). d * 2 ^ e + x % 2 ^ e) (clear_digit x e h) ∙ z

  pub lower_add : (x + 2 ^ e) % 2 ^ e ≡ x % 2 ^ e
  lower_add = add-mod_right x (2 ^ e)

  pub lower_sub : bit x e ≡ true → (x - 2 ^ e) % 2 ^ e ≡ x % 2 ^ e
  lower_sub h = sym (mod-eq-sub-mod (set_le x e h))

-- the pairs of numbers that differ in digit e alone, counted by their smaller one

pub index : ℕ → ℕ → ℕ
index e u = u / 2 ^ e / 2 * 2 ^ e + u % 2 ^ e

pub smaller : ℕ → ℕ → ℕ
smaller e m = m + m / 2 ^ e * 2 ^ e

module _ (e m : ℕ) where
  part : smaller e m / 2 ^ e ≡ m / 2 ^ e + m / 2 ^ e
  unfolding smaller
  part = add-mul-div_right m (m / 2 ^ e) (pow_pos e)

  rest : smaller e m % 2 ^ e ≡ m % 2 ^ e
  unfolding smaller
  rest = add-mul-mod_self_right m (m / 2 ^ e) (2 ^ e)

  part_larger : (smaller e m + 2 ^ e) / 2 ^ e ≡ m / 2 ^ e + m / 2 ^ e + 1
  part_larger = add-div_right (smaller e m) (pow_pos e) ∙ ap (λ (x : ℕ). x + 1) part

  pub smaller_clear : bit (smaller e m) e ≡ false
  unfolding bit
  smaller_clear = let q = m / 2 ^ e in let d : (q + q) % 2 ≡ 0 = omega arith in ap (λ (x : ℕ). eqb (x % 2) 1) part ∙ ap (λ (x : ℕ). eqb x 1) d

  pub larger_set : bit (smaller e m + 2 ^ e) e ≡ true
  unfolding bit
  larger_set = let q = m / 2 ^ e in let d : (q + q + 1) % 2 ≡ 1 = omega arith in ap (λ (x : ℕ). eqb (x % 2) 1) part_larger ∙ ap (λ (x : ℕ). eqb x 1) d

  pub index_smaller : index e (smaller e m) ≡ m
  unfolding index
  index_smaller =
      let q = m / 2 ^ e in
      let d : (q + q) / 2 ≡ q = omega arith in
      ap₂ (λ (x y : ℕ). x / 2 * 2 ^ e + y) part rest ∙ ap (λ (x : ℕ). x * 2 ^ e + m % 2 ^ e) d ∙ split m e

  pub index_larger : index e (smaller e m + 2 ^ e) ≡ m
  unfolding index
  index_larger =
      let q = m / 2 ^ e in
      let d : (q + q + 1) / 2 ≡ q = omega arith in
      ap₂ (λ (x y : ℕ). x / 2 * 2 ^ e + y) part_larger (add-mod_right (smaller e m) (2 ^ e) ∙ rest) ∙ ap (λ (x : ℕ). x * 2 ^ e + m % 2 ^ e) d ∙ split m e

  pub of_pair : (u : ℕ) → index e u ≡ m → (u ≡ smaller e m) ⊎ (u ≡ smaller e m + 2 ^ e)
  unfolding index smaller
  of_pair u h =
      let j = 2 ^ e in
      let a = u / j in
      let q : m / j ≡ a / 2 = ap (λ (x : ℕ). x / j) (sym h) ∙ high (a / 2) e (mod-lt u (pow_pos e)) in
      let k : m + m / j * j ≡ m + a / 2 * j = ap (λ (x : ℕ). m + x * j) q in
      let s : a * j + u % j ≡ u = split u e in
      ⊎_elim
      (λ (z : a % 2 ≡ 0).
      let t : a ≡ a / 2 + a / 2 = omega arith in
      let d : a * j ≡ a / 2 * j + a / 2 * j = ap (λ (x : ℕ). x * j) t ∙ add-mul (a / 2) (a / 2) j in
      inl (omega arith))
      (λ (o : a % 2 ≡ 1).
      let t : a ≡ a / 2 + a / 2 + 1 = omega arith in
      let d : a * j ≡ a / 2 * j + a / 2 * j + 1 * j =
      ap (λ (x : ℕ). x * j) t ∙ add-mul (a / 2 + a / 2) 1 j ∙ ap (λ (x : ℕ). x + 1 * j) (add-mul (a / 2) (a / 2) j) in
      inr (omega (arith, one-mul j)))
      (digit_cases (a % 2) (omega arith))

-- the pairs from 2 ^ (w - 1) on are of numbers from 2 ^ w on
pub index_above : (e w u : ℕ) → e < w → 2 ^ (w - 1) ≤ index e u → 2 ^ w ≤ u
unfolding index
index_above e w u l h =
    let c = 2 ^ (w - 1 - e) in
    let j = 2 ^ e in
    let s : w - 1 ≡ w - 1 - e + e = omega arith in
    let p : 2 ^ (w - 1) ≡ c * j = ap (λ (x : ℕ). 2 ^ x) s ∙ pow-add 2 (w - 1 - e) e in
    let h' : c * j ≤ u / j / 2 * j + u % j = rw p at h in
    let d : c ≤ (u / j / 2 * j + u % j) / j = (le-div_iff_mul-le (pow_pos e)).1 h' in
    let f : (u / j / 2 * j + u % j) / j ≡ u / j / 2 = high (u / j / 2) e (mod-lt u (pow_pos e)) in
    let b : c * 2 ≤ u / j = omega arith in
    rw (whole e w l) ((le-div_iff_mul-le (pow_pos e)).0 b)

-- numbers as code computes them

abbrev pub far : ℕ → ℕ
far e = 1 * 2 ^ e % 2 ^ 64

abbrev pub near : ℕ → ℕ → ℕ
near e m = m + m / 2 ^ e * 2 ^ e % 2 ^ 64

pub near_smaller : (e m : ℕ) → m < 2 ^ 64 → near e m ≡ smaller e m
unfolding smaller
near_smaller e m l = ap (λ (x : ℕ). m + x) (mod-eq_of_lt (omega (arith, split m e)))

pub near_itself : (m : ℕ) → m < 64 → m ≡ smaller 6 m
unfolding smaller
near_itself m l = omega arith

module _ (e w m : ℕ) (l : e < w) (s : w ≤ 7) (h : m < far (w - 1)) where
  pub near_first : near e m ≡ smaller e m
  near_first = near_smaller e m (omega arith)

  pub near_second : near e m + far e ≡ smaller e m + 2 ^ e
  near_second = ap₂ ◌+◌ near_first (one_shifted e (omega arith))

  pub near_room : near e m + far e < 128
  unfolding smaller
  near_room =
      let h' : m < 2 ^ (w - 1) = rw (one_shifted (w - 1) (omega arith)) at h in
      let d : w ≡ suc (w - 1) = omega arith in
      let p : 2 ^ w ≡ 2 ^ (w - 1) * 2 = ap (λ (x : ℕ). 2 ^ x) d ∙ pow-suc 2 (w - 1) in
      rw near_second (lt_of_lt_of_le (stays_below e w (smaller e m) l (smaller_clear e m) (omega (arith, split m e))) (pow_mono s))

-- a digit that is none of those before
pub past : (k e : ℕ) → k ≤ e → (e ≡ k → ⊥) → k + 1 ≤ e
past k e l h = omega arith

pub sixth : (e : ℕ) {w : ℕ} → 6 ≤ e → e < w → w ≤ 7 → e ≡ 6
sixth e l m s = omega arith

-- a power of two below a number of at most seven digits, and one that is not
module _ (w n : ℕ) (s : w ≤ 7) where
  pub far_left : far w < n → n ≤ 128 → w < 7
  far_left h m = ⊎_elim (λ (c : w ≡ 7). let h' : far 7 < n = rw c at h in absurd (omega arith)) (λ (c : w < 7). c) (eq-or-lt_of_le s)

  pub far_end : n ≤ far w → n ≤ 2 ^ w
  far_end h = rw (one_shifted w (omega arith)) at h
