-- Fields side by side, and a field in the bytes that hold it.
use Prim.Native.Nat.{ℕ, zero, suc, ◌+◌, ◌-◌, ◌*◌, ◌/◌, ◌%◌, ◌^◌, ◌≤◌, ◌<◌}
use mathlib.Core.Path.{◌≡◌, refl, sym, ap, subst, ◌∙◌}
use mathlib.Core.List.{List, [], ◌∷◌, ◌++◌}
use native.Mathlib.Nat.{mod-lt}
use native.Mathlib.Omega.{arith}
use lib.ListN.{length, get_or, drop}
use lib.Arith.{digits_lt}
use lib.Pow.{pow_pos, pow-add, split, shr_lt, shl_exact}
use lib.Seq.{drop-cons, drop-drop, drop-append_seam}
use Rattle.record.specs.Bits.{bits, bits_of}
use Rattle.record.proofs.Fields.{length_bits, bits_append}
use Rattle.record.proofs.Bytes.{length_bits_of}
use Rattle.reader.specs.Fields.{At, FieldAt}
use Rattle.reader.proofs.Positions.{at_of, at_left, at_right, at_join}

-- the bits from a byte on
drop_bytes : (i : ℕ) (bytes : List ℕ) → drop (8 * i) (bits_of bytes) ≡ bits_of (drop i bytes)
unfolding bits_of
drop_bytes zero bytes = refl
drop_bytes (suc i) [] = drop_none (8 * suc i)
  where
    drop_none : (k : ℕ) → ◌≡◌ {A = List ℕ} (drop k []) []
    drop_none zero = refl
    drop_none (suc k) = refl
drop_bytes (suc i) (b ∷ bs) =
    let e : 8 * suc i ≡ length (bits 8 b) + 8 * i = omega (arith, length_bits 8 b) in
    ap (λ (k : ℕ). drop k (bits 8 b ++ bits_of bs)) e
    ∙ sym (drop-drop (8 * i) (length (bits 8 b)) (bits 8 b ++ bits_of bs))
    ∙ ap (drop (8 * i)) (drop-append_seam (bits 8 b) (bits_of bs))
    ∙ drop_bytes i bs

byte_at : (bytes : List ℕ) (i : ℕ) → i < length bytes → drop (8 * i) (bits_of bytes) ≡ bits 8 (get_or bytes i 0) ++ bits_of (drop (suc i) bytes)
unfolding bits_of
byte_at bytes i h = drop_bytes i bytes ∙ ap bits_of (drop-cons bytes i 0 h)

pub byte_field : (bytes : List ℕ) (i x : ℕ) → i < length bytes → x ≡ get_or bytes i 0 → get_or bytes i 0 < 256 → FieldAt (bits_of bytes) (8 * i) 8 x
byte_field bytes i x h e l = record {
  stands = at_of (bits 8 x) _ (omega (arith, length_bits_of bytes)) (byte_at bytes i h ∙ ap (λ (b : ℕ). bits 8 b ++ bits_of (drop (suc i) bytes)) (sym e));
  small = omega (arith, e, l);
}

-- a number's bits are those of its high part and those of its low one
pub halves : (j k x : ℕ) → bits (j + k) x ≡ bits j (x / 2 ^ k) ++ bits k (x % 2 ^ k)
halves j k x = ap (bits (j + k)) (sym (split x k)) ∙ bits_append j k (x / 2 ^ k) (x % 2 ^ k) (mod-lt x (pow_pos k))

module _ {bs : List ℕ} {at : ℕ} (j k x : ℕ) (f : FieldAt bs at (j + k) x) where
  parts : At bs at (bits j (x / 2 ^ k) ++ bits k (x % 2 ^ k))
  parts = subst (At bs at) (halves j k x) f.stands

  pub high_part : FieldAt bs at j (x / 2 ^ k)
  high_part = record { stands = at_left (bits j (x / 2 ^ k)) (bits k (x % 2 ^ k)) parts; small = shr_lt j k f.small }

  pub low_part : FieldAt bs (at + j) k (x % 2 ^ k)
  low_part = record {
    stands = subst (λ (l : ℕ). At bs (at + l) (bits k (x % 2 ^ k))) (length_bits j (x / 2 ^ k)) (at_right (bits j (x / 2 ^ k)) (bits k (x % 2 ^ k)) parts);
    small = mod-lt x (pow_pos k);
  }

-- the number in n bytes and in k bits after them
pub further : {bs : List ℕ} (i n k x y : ℕ) → FieldAt bs (8 * i) (8 * n) x → FieldAt bs (8 * (i + n)) k y → FieldAt bs (8 * i) (8 * n + k) (x * 2 ^ k + y)
further {bs} i n k x y f g =
    let place : 8 * (i + n) ≡ 8 * i + length (bits (8 * n) x) = omega (arith, length_bits (8 * n) x) in
    record {
      stands = subst (At bs (8 * i)) (sym (bits_append (8 * n) k x y g.small))
          (at_join (bits (8 * n) x) (bits k y) f.stands (subst (λ (p : ℕ). At bs p (bits k y)) place g.stands));
      small = rw (pow-add 2 (8 * n) k) (digits_lt f.small g.small);
    }

-- a field that lies in the m bits of x, which stand from a byte on
pub window : {bs : List ℕ} (at k m x : ℕ) → FieldAt bs (8 * (at / 8)) m x → at % 8 + k ≤ m → FieldAt bs at k (x / 2 ^ (m - (at % 8 + k)) % 2 ^ k)
window {bs} at k m x f l =
    let a : ℕ = at % 8 in
    let c : ℕ = m - (a + k) in
    let whole : m ≡ a + k + c = omega arith in
    let place : 8 * (at / 8) + a ≡ at = omega arith in
    subst (λ (p : ℕ). FieldAt bs p k (x / 2 ^ c % 2 ^ k)) place
    (low_part a k (x / 2 ^ c) (high_part (a + k) c x (subst (λ (n : ℕ). FieldAt bs (8 * (at / 8)) n x) whole f)))

shl_one : (k : ℕ) → k ≤ 9 → (1 * 2 ^ k) % 2 ^ 64 ≡ 2 ^ k
shl_one k h = shl_exact 1 k 64 (omega arith) (omega arith) ∙ omega arith

pub divisor : (k : ℕ) → k ≤ 9 → 0 < (1 * 2 ^ k) % 2 ^ 64
divisor k h = omega (arith, shl_one k h, pow_pos k)

-- a window by a divisor that is computed
pub window_shl
    : {bs : List ℕ} (at k m x : ℕ) → k ≤ 9 → FieldAt bs (8 * (at / 8)) m x → at % 8 + k ≤ m
    → FieldAt bs at k (x / 2 ^ (m - (at % 8 + k)) % ((1 * 2 ^ k) % 2 ^ 64))
window_shl {bs} at k m x h f l =
    subst (λ (d : ℕ). FieldAt bs at k (x / 2 ^ (m - (at % 8 + k)) % d)) (sym (shl_one k h)) (window at k m x f l)
