-- The bits of words.
use Prim.Native.Nat.{ℕ, zero, suc, ◌+◌, ◌-◌, ◌*◌, ◌/◌, ◌%◌, ◌^◌, ◌≤◌, ◌<◌, suc-le-suc}
use native.Mathlib.Nat.{div-one, div-eq_of_lt, le-div_iff_mul-le, div-lt_iff_lt-mul, pow-suc, lt_of_lt_of_le, zero-lt-suc, one-mul, mul_comm}
use native.Mathlib.Decide.{dec_lt}
use native.Mathlib.Numerals.{one-add}
use native.Mathlib.Omega.{arith}
use mathlib.Core.Path.{◌≡◌, refl, sym, ap, ap₂, fun_ext, ◌∙◌}
use mathlib.Core.List.{map}
use mathlib.Core.Bool.{Bool, true, false, ◌&&◌, ◌||◌, not}
use mathlib.Core.Logic.{◌⊎◌, inl, inr, ⊎_elim}
use lib.Dec.{eqb, ltb, eqb-zero-suc, eqb-suc-zero, eqb-suc-suc}
use lib.Bits.{bit_and, bit_or, and_shr, or_shr, and_mod, or_mod, and_mask}
use lib.Pow.{pow_pos, pow-lt, pow_mono, ones_lt, shr-shr, shl-shr, shl_exact, field, mod-mod-pow}
use lib.Count.{count_trailing_zeros, count_leading_zeros, leading_top, ones, ones_step}
use borrow.Author.Tests.{lt-ltb, le-ltb}
use lib.ListN.{length, length-map}
use Rattle.std.proofs.lemmas.Nat.Bits.{same_from_bits_below}
use Rattle.poset.specs.Lists.{keep, up_from, below}
use Rattle.poset.proofs.Laws.{clash, keep_yes, keep_not}
use Rattle.relation.specs.Table.{bit}
use Rattle.relation.proofs.Lists.{keep_shift}

-- binary digits

pub digit_cases : (x : ℕ) → x < 2 → (x ≡ 0) ⊎ (x ≡ 1)
digit_cases zero h = inl refl
digit_cases (suc zero) h = inr refl
digit_cases (suc (suc x)) h = absurd (omega arith)

-- an operation on the digits of two numbers, as it acts on a bit
module _
    (f : ℕ → ℕ → ℕ)
    (g : Bool → Bool → Bool)
    (shr : (a b k : ℕ) → f a b / 2 ^ k ≡ f (a / 2 ^ k) (b / 2 ^ k))
    (rem : (a b k : ℕ) → f a b % 2 ^ k ≡ f (a % 2 ^ k) (b % 2 ^ k))
    (digit : (x y : ℕ) → x < 2 → y < 2 → eqb (f x y) 1 ≡ g (eqb x 1) (eqb y 1))
  where
    bitwise_bit : (a b i : ℕ) → bit (f a b) i ≡ g (bit a i) (bit b i)
    unfolding bit
    bitwise_bit a b i =
        ap (λ (x : ℕ). eqb (x % 2) 1) (shr a b i) ∙ ap (λ (x : ℕ). eqb x 1) (rem (a / 2 ^ i) (b / 2 ^ i) 1)
        ∙ digit (a / 2 ^ i % 2) (b / 2 ^ i % 2) (omega arith) (omega arith)

pub bit_and_lem : (a b i : ℕ) → bit (bit_and a b) i ≡ (bit a i && bit b i)
bit_and_lem = bitwise_bit bit_and ◌&&◌ and_shr and_mod digit
  where
    digit : (x y : ℕ) → x < 2 → y < 2 → eqb (bit_and x y) 1 ≡ (eqb x 1 && eqb y 1)
    digit zero y p q = refl
    digit (suc zero) zero p q = refl
    digit (suc zero) (suc zero) p q = refl
    digit (suc zero) (suc (suc y)) p q = absurd (omega arith)
    digit (suc (suc x)) y p q = absurd (omega arith)

pub bit_or_lem : (a b i : ℕ) → bit (bit_or a b) i ≡ (bit a i || bit b i)
bit_or_lem = bitwise_bit bit_or ◌||◌ or_shr or_mod digit
  where
    digit : (x y : ℕ) → x < 2 → y < 2 → eqb (bit_or x y) 1 ≡ (eqb x 1 || eqb y 1)
    digit zero y p q = refl
    digit (suc zero) zero p q = refl
    digit (suc zero) (suc zero) p q = refl
    digit (suc zero) (suc (suc y)) p q = absurd (omega arith)
    digit (suc (suc x)) y p q = absurd (omega arith)

-- the lowest bit, and the others

pub bit_first : (w : ℕ) → bit w 0 ≡ eqb (w % 2) 1
unfolding bit
bit_first w = ap (λ (x : ℕ). eqb (x % 2) 1) (div-one w)

pub bit_next : (w i : ℕ) → bit w (suc i) ≡ bit (w / 2) i
unfolding bit
bit_next w i = ap (λ (x : ℕ). eqb (x % 2) 1) (ap (λ (k : ℕ). w / 2 ^ k) (sym (one-add i)) ∙ sym (shr-shr w 1 i))

-- a number below 2 ^ i has no bit from i on
pub bit_beyond : (w i : ℕ) → w < 2 ^ i → bit w i ≡ false
unfolding bit
bit_beyond w i h = ap (λ (x : ℕ). eqb (x % 2) 1) (div-eq_of_lt h)

pub bit_zero : (i : ℕ) → bit 0 i ≡ false
bit_zero i = bit_beyond 0 i (pow_pos i)

-- some words

pub bit_power : (v i : ℕ) → bit (2 ^ v) i ≡ eqb v i
bit_power zero zero = bit_first 1
bit_power zero (suc i) = bit_next 1 i ∙ bit_zero i ∙ sym (eqb-zero-suc i)
bit_power (suc v) zero =
    bit_first (2 ^ suc v) ∙ ap (λ (x : ℕ). eqb x 1) even ∙ sym (eqb-suc-zero v)
  where
    even : 2 ^ suc v % 2 ≡ 0
    even = rw (pow-suc 2 v) (omega arith)
bit_power (suc v) (suc i) = bit_next (2 ^ suc v) i ∙ ap (λ (x : ℕ). bit x i) half ∙ bit_power v i ∙ sym (eqb-suc-suc v i)
  where
    half : 2 ^ suc v / 2 ≡ 2 ^ v
    half = rw (pow-suc 2 v) (omega arith)

-- the complement of a word of k bits
pub bit_complement : (k i a : ℕ) → i < k → a < 2 ^ k → bit (2 ^ k - 1 - a) i ≡ not (bit a i)
bit_complement zero i a l h = absurd (omega arith)
bit_complement (suc k) zero a l h = bit_first _ ∙ flip (a % 2) _ (omega arith) digit ∙ ap not (sym (bit_first a))
  where
    digit : (2 ^ suc k - 1 - a) % 2 ≡ 1 - a % 2
    digit = let l' : a < 2 ^ k * 2 = rw (pow-suc 2 k) at h in rw (pow-suc 2 k) (omega arith)

    flip : (x y : ℕ) → x < 2 → y ≡ 1 - x → eqb y 1 ≡ not (eqb x 1)
    flip zero y p e = ap (λ (z : ℕ). eqb z 1) e
    flip (suc zero) y p e = ap (λ (z : ℕ). eqb z 1) e
    flip (suc (suc x)) y p e = absurd (omega arith)
bit_complement (suc k) (suc i) a l h =
    bit_next _ i ∙ ap (λ (x : ℕ). bit x i) half ∙ bit_complement k i (a / 2) (omega arith) small ∙ ap not (sym (bit_next a i))
  where
    small : a / 2 < 2 ^ k
    small = let l' : a < 2 ^ k * 2 = rw (pow-suc 2 k) at h in omega arith

    half : (2 ^ suc k - 1 - a) / 2 ≡ 2 ^ k - 1 - a / 2
    half = let l' : a < 2 ^ k * 2 = rw (pow-suc 2 k) at h in rw (pow-suc 2 k) (omega arith)

-- the k lowest bits
pub bit_ones : (k i : ℕ) → bit (2 ^ k - 1) i ≡ ltb i k
bit_ones k i =
    elim (dec_lt i k) [
      | yes l ↦ ap (λ (x : ℕ). bit x i) (omega arith) ∙ bit_complement k i 0 l (pow_pos k) ∙ ap not (bit_zero i) ∙ sym (lt-ltb i k l)
      | no l ↦ bit_beyond (2 ^ k - 1) i (lt_of_lt_of_le (ones_lt k) (pow_mono {i = k} (omega arith))) ∙ sym (le-ltb i k (omega arith))
    ]

-- the lowest bit that is set: w & (w - 1) is w without it

pub record Lowest (w z : ℕ) : Type 0 where
  pub set : bit w z ≡ true
  pub clear : (i : ℕ) → i < z → bit w i ≡ false
  pub dropped : (i : ℕ) → (bit w i && bit (w - 1) i) ≡ (bit w i && not (eqb i z))

bit_odd : (w : ℕ) → w % 2 ≡ 1 → bit w 0 ≡ true
bit_odd w e = bit_first w ∙ ap (λ (x : ℕ). eqb x 1) e

bit_even : (w : ℕ) → w % 2 ≡ 0 → bit w 0 ≡ false
bit_even w e = bit_first w ∙ ap (λ (x : ℕ). eqb x 1) e

lowest_odd : (w : ℕ) → w % 2 ≡ 1 → Lowest w 0
lowest_odd w e = record { set = bit_odd w e; clear = λ i l. absurd (omega arith); dropped = dropped }
  where
    same : (b : Bool) → (b && b) ≡ (b && true)
    same true = refl
    same false = refl

    dropped : (i : ℕ) → (bit w i && bit (w - 1) i) ≡ (bit w i && not (eqb i 0))
    dropped zero = ap (λ (b : Bool). bit w 0 && b) (bit_even (w - 1) (omega arith))
    dropped (suc i) =
        let half : (w - 1) / 2 ≡ w / 2 = omega arith in
        rw (bit_next w i, bit_next (w - 1) i, half, eqb-suc-zero i) (same (bit (w / 2) i))

lowest_even : (w z : ℕ) → w % 2 ≡ 0 → 0 < w → Lowest (w / 2) z → Lowest w (suc z)
lowest_even w z e p h = record { set = bit_next w z ∙ h.set; clear = clear; dropped = dropped }
  where
    clear : (i : ℕ) → i < suc z → bit w i ≡ false
    clear zero l = bit_even w e
    clear (suc i) l = bit_next w i ∙ h.clear i (omega arith)

    dropped : (i : ℕ) → (bit w i && bit (w - 1) i) ≡ (bit w i && not (eqb i (suc z)))
    dropped zero = rw (bit_even w e)
    dropped (suc i) =
        let half : (w - 1) / 2 ≡ w / 2 - 1 = omega arith in
        rw (bit_next w i, bit_next (w - 1) i, half, eqb-suc-suc i z) (h.dropped i)

pub lowest : (k w : ℕ) → 0 < w → w < 2 ^ k → (count_trailing_zeros k w < k) × Lowest w (count_trailing_zeros k w)
unfolding count_trailing_zeros
lowest zero w p h = absurd (omega arith)
lowest (suc k) w p h =
    ⊎_elim
    (λ (e : w % 2 ≡ 0).
    let l : w < 2 ^ k * 2 = rw (pow-suc 2 k) at h in
    let r = lowest k (w / 2) (omega arith) (omega arith) in
    rw e (suc-le-suc r.0, lowest_even w _ e p r.1))
    (λ (e : w % 2 ≡ 1). rw e (zero-lt-suc k, lowest_odd w e))
    (digit_cases (w % 2) (omega arith))

-- the highest bit that is set

pub record Highest (w z : ℕ) : Type 0 where
  pub set : bit w z ≡ true
  pub clear : (i : ℕ) → z < i → bit w i ≡ false

pub highest : (k w : ℕ) → 0 < w → w < 2 ^ k → (count_leading_zeros k w < k) × Highest w (k - 1 - count_leading_zeros k w)
unfolding bit
highest k w p h =
    let t = leading_top k w p h in
    let e : k - 1 - count_leading_zeros k w ≡ t.0 = omega (arith, t.1) in
    (omega (arith, t.1), rw e (record { set = set; clear = λ i l. bit_beyond w i (lt_of_lt_of_le t.3 (pow_mono l)) }))
  where
    j : ℕ
    j = (leading_top k w p h).0

    -- the bits from the highest on are the number 1
    one : w / 2 ^ j ≡ 1
    one =
        let t = leading_top k w p h in
        let l : 1 * 2 ^ j ≤ w = rw (one-mul (2 ^ j)) t.2 in
        let m : w < 2 * 2 ^ j = rw (mul_comm 2 (2 ^ j), ← pow-suc 2 j) t.3 in
        omega (arith, (le-div_iff_mul-le (pow_pos j)).1 l, (div-lt_iff_lt-mul (pow_pos j)).1 m)

    set : bit w j ≡ true
    set = ap (λ (x : ℕ). eqb (x % 2) 1) one

-- how many bits are set

pub ones_count : (k w : ℕ) → w < 2 ^ k → ones w ≡ length (keep (bit w) (below k))
unfolding below up_from keep ones
ones_count zero w h = let e : w ≡ 0 = omega arith in rw e
ones_count (suc k) w h =
    let l : w < 2 ^ k * 2 = rw (pow-suc 2 k) at h in
    let later : keep (bit w) (up_from 1 k) ≡ map (λ i. 1 + i) (keep (bit (w / 2)) (below k)) =
    keep_shift (bit w) 1 0 k ∙ ap (λ q. map (λ i. 1 + i) (keep q (below k))) (fun_ext λ i. ap (bit w) (one-add i) ∙ bit_next w i) in
    let count : length (keep (bit w) (up_from 1 k)) ≡ ones (w / 2) =
    ap length later ∙ length-map (keep (bit (w / 2)) (below k)) (λ i. 1 + i) ∙ sym (ones_count k (w / 2) (omega arith)) in
    ones_step w
    ∙ ⊎_elim
    (λ (e : w % 2 ≡ 0). rw (e, keep_not (bit w) 0 (up_from 1 k) (bit_even w e), count) (omega arith))
    (λ (e : w % 2 ≡ 1). rw (e, keep_yes (bit w) 0 (up_from 1 k) (bit_odd w e), count) (omega arith))
    (digit_cases (w % 2) (omega arith))

-- numbers of k bits that have the same bits are equal

same_digit : (x y : ℕ) → x < 2 → y < 2 → eqb x 1 ≡ eqb y 1 → x ≡ y
same_digit zero zero p q e = refl
same_digit zero (suc zero) p q e = absurd (clash e refl)
same_digit zero (suc (suc y)) p q e = absurd (omega arith)
same_digit (suc zero) zero p q e = absurd (clash refl e)
same_digit (suc zero) (suc zero) p q e = refl
same_digit (suc zero) (suc (suc y)) p q e = absurd (omega arith)
same_digit (suc (suc x)) y p q e = absurd (omega arith)

pub same_bits : (k a b : ℕ) → a < 2 ^ k → b < 2 ^ k → ((i : ℕ) → i < k → bit a i ≡ bit b i) → a ≡ b
unfolding bit
same_bits k a b p q h =
    same_from_bits_below k a b p q (λ i l. same_digit (a / 2 ^ i % 2) (b / 2 ^ i % 2) (omega arith) (omega arith) (h i l))

-- how code tests a bit, and makes a word of one bit

pub bit_tested : (w i : ℕ) → eqb (bit_and (w / 2 ^ i) 1) 1 ≡ bit w i
unfolding bit
bit_tested w i = ap (λ (x : ℕ). eqb x 1) (and_mask (w / 2 ^ i) 1)

pub one_shifted : (v : ℕ) → v < 64 → 1 * 2 ^ v % 2 ^ 64 ≡ 2 ^ v
one_shifted v l = shl_exact {a = 1} 1 v 64 (omega arith) (omega arith) ∙ one-mul (2 ^ v)

pub far_small : (e : ℕ) → e < 6 → 1 * 2 ^ e % 2 ^ 64 < 64
far_small e l = rw (one_shifted e (omega arith)) (pow-lt {j = 6} l)

-- shifted words, and a word put together from two

pub bit_shr : (w k i : ℕ) → bit (w / 2 ^ k) i ≡ bit w (i + k)
unfolding bit
bit_shr w k i = let e : k + i ≡ i + k = omega arith in ap (λ (x : ℕ). eqb (x % 2) 1) (shr-shr w k i ∙ ap (λ (x : ℕ). w / 2 ^ x) e)

pub bit_shl : (w k i : ℕ) → k ≤ i → i < 64 → bit (w * 2 ^ k % 2 ^ 64) i ≡ bit w (i - k)
unfolding bit
bit_shl w k i l m =
    let e : 64 ≡ 63 - i + 1 + i = omega arith in
    let d : i ≡ k + (i - k) = omega arith in
    ap (λ (x : ℕ). eqb (x % 2) 1)
    (ap (λ (x : ℕ). w * 2 ^ k % 2 ^ x / 2 ^ i) e ∙ field (w * 2 ^ k) (63 - i + 1) i)
    ∙ ap (λ (x : ℕ). eqb x 1)
    (mod-mod-pow (w * 2 ^ k / 2 ^ i) (63 - i) 1
    ∙ ap (λ (x : ℕ). x % 2)
    (ap (λ (x : ℕ). w * 2 ^ k / 2 ^ x) d ∙ sym (shr-shr (w * 2 ^ k) k (i - k)) ∙ ap (λ (x : ℕ). x / 2 ^ (i - k)) (shl-shr w k)))

-- the bits of x where m has one, and those of y elsewhere
module _ (x y m i : ℕ) (l : i < 64) (fits : m < 2 ^ 64) where
  chosen : bit (bit_or (bit_and x m) (bit_and y (2 ^ 64 - 1 - m))) i ≡ ((bit x i && bit m i) || (bit y i && not (bit m i)))
  chosen = bit_or_lem _ _ i ∙ ap₂ ◌||◌ (bit_and_lem x m i) (bit_and_lem y _ i ∙ ap (λ (b : Bool). bit y i && b) (bit_complement 64 i m l fits))

  pub bit_chosen : bit m i ≡ true → bit (bit_or (bit_and x m) (bit_and y (2 ^ 64 - 1 - m))) i ≡ bit x i
  bit_chosen e = chosen ∙ ap (λ (b : Bool). (bit x i && b) || (bit y i && not b)) e ∙ by (bit x i) (bit y i)
    where
      by : (a b : Bool) → ((a && true) || (b && false)) ≡ a
      by true b = refl
      by false true = refl
      by false false = refl

  pub bit_other : bit m i ≡ false → bit (bit_or (bit_and x m) (bit_and y (2 ^ 64 - 1 - m))) i ≡ bit y i
  bit_other e = chosen ∙ ap (λ (b : Bool). (bit x i && b) || (bit y i && not b)) e ∙ by (bit x i) (bit y i)
    where
      by : (a b : Bool) → ((a && false) || (b && true)) ≡ b
      by true true = refl
      by true false = refl
      by false true = refl
      by false false = refl
