-- Bytes and their bits.
use Prim.Native.Nat.{ℕ, zero, suc, ◌+◌, ◌*◌, ◌%◌, ◌^◌, ◌<◌}
use mathlib.Core.Path.{◌≡◌, refl, sym, ap, ap₂, subst, ◌∙◌}
use mathlib.Core.List.{List, [], ◌∷◌, ◌++◌, append_assoc, append-nil}
use Rattle.std.proofs.lemmas.Option.{same_Some}
use native.Mathlib.Nat.{add-zero, zero-div}
use native.Mathlib.Omega.{arith}
use lib.ListN.{length, length-append, replicate, length-replicate}
use lib.Pow.{pow_pos, shl_lt}
use lib.Seq.{append_snoc}
use Rattle.record.specs.Bits.{AllBelow, bits, packed, bytes_of, bits_of}
use Rattle.record.specs.Decode.{read_bits}
use Rattle.record.proofs.Below.{below_nil, below_cons, below_head, below_tail, below_append}
use Rattle.record.proofs.Fields.{length_bits, bits_below, bit_alone, bits_append, bits_snoc, read_bits_lem}

pub length_bits_of : (bytes : List ℕ) → length (bits_of bytes) ≡ 8 * length bytes
unfolding bits_of
length_bits_of [] = refl
length_bits_of (b ∷ bs) = omega (arith, length-append (bits 8 b) (bits_of bs), length_bits 8 b, length_bits_of bs)

pub bits_of_below : (bytes : List ℕ) → AllBelow 2 (bits_of bytes)
unfolding bits_of
bits_of_below [] = below_nil
bits_of_below (b ∷ bs) = below_append (bits_below 8 b) (bits_of_below bs)

pub bits_of_injective : (xs ys : List ℕ) → AllBelow 256 xs → AllBelow 256 ys → bits_of xs ≡ bits_of ys → xs ≡ ys
unfolding bits_of
bits_of_injective [] [] p q e = refl
bits_of_injective [] (y ∷ ys) p q e = absurd (omega (arith, ap length e, length_bits_of (y ∷ ys)))
bits_of_injective (x ∷ xs) [] p q e = absurd (omega (arith, ap length e, length_bits_of (x ∷ xs)))
bits_of_injective (x ∷ xs) (y ∷ ys) p q e =
    let both = same_Some _ _ (sym (read_bits_lem 8 x (bits_of xs)) ∙ ap (read_bits 8) e ∙ read_bits_lem 8 y (bits_of ys)) in
    let value : x % 256 ≡ y % 256 = ap (λ (r : ℕ × List ℕ). r.0) both in
    let x_small : x < 256 = below_head p in
    let y_small : y < 256 = below_head q in
    let same : x ≡ y = omega arith in
    ap₂ ◌∷◌ same (bits_of_injective xs ys (below_tail p) (below_tail q) (ap (λ (r : ℕ × List ℕ). r.1) both))

-- the bytes are the bits, filled with fewer than 8 zero bits
pub record Filled (bs bytes : List ℕ) : Type 0 where
  pub fill : ℕ
  pub few : fill < 8
  pub same : bits_of bytes ≡ bs ++ replicate fill 0
  pub small : AllBelow 256 bytes

pub bits_zero : (k : ℕ) → bits k 0 ≡ replicate k 0
unfolding bits
bits_zero zero = refl
bits_zero (suc k) = ap₂ ◌∷◌ (rw (zero-div (2 ^ k))) (bits_zero k)

-- the byte in hand holds suc i bits
packed_filled
    : (i k value : ℕ) (bs : List ℕ) → i + k ≡ 7 → value < 2 ^ suc i → AllBelow 2 bs → Filled (bits (suc i) value ++ bs) (packed k value bs)
unfolding packed bits_of
packed_filled i k value [] e v h =
    let whole : suc i + k ≡ 8 = omega arith in
    record {
      fill = k;
      few = omega arith;
      same =
          append-nil _
          ∙ ap₂ bits (sym whole) (sym (add-zero (value * 2 ^ k)))
          ∙ bits_append (suc i) k value 0 (pow_pos k)
          ∙ ap₂ ◌++◌ (sym (append-nil (bits (suc i) value))) (bits_zero k);
      small = below_cons (subst (λ (n : ℕ). value * 2 ^ k < 2 ^ n) whole (shl_lt (suc i) k v)) below_nil;
    }
packed_filled i zero value (b ∷ bs) e v h =
    let whole : 8 ≡ suc i = omega arith in
    let rest = packed_filled 0 7 b bs refl (below_head h) (below_tail h) in
    let zeros : List ℕ = replicate rest.fill 0 in
    record {
      fill = rest.fill;
      few = rest.few;
      same =
          ap (λ (l : List ℕ). bits 8 value ++ l) (rest.same ∙ ap (λ (l : List ℕ). l ++ bs ++ zeros) (bit_alone b (below_head h)))
          ∙ sym (append_assoc (bits 8 value) (b ∷ bs) zeros)
          ∙ ap (λ (n : ℕ). bits n value ++ (b ∷ bs) ++ zeros) whole;
      small = below_cons (subst (λ (n : ℕ). value < 2 ^ n) (sym whole) v) rest.small;
    }
packed_filled i (suc k) value (b ∷ bs) e v h =
    let b_small : b < 2 = below_head h in
    subst (λ (l : List ℕ). Filled l (packed k (value * 2 + b) bs))
    (ap (λ (l : List ℕ). l ++ bs) (bits_snoc (suc i) value b b_small) ∙ append_snoc (bits (suc i) value) b bs)
    (packed_filled (suc i) k (value * 2 + b) bs (omega arith) (omega arith) (below_tail h))

pub bytes_filled : (bs : List ℕ) → AllBelow 2 bs → Filled bs (bytes_of bs)
unfolding bytes_of bits_of
bytes_filled [] h = record { fill = 0; few = omega arith; same = refl; small = below_nil }
bytes_filled (b ∷ bs) h =
    subst (λ (l : List ℕ). Filled (l ++ bs) (packed 7 b bs)) (bit_alone b (below_head h))
    (packed_filled 0 7 b bs refl (below_head h) (below_tail h))

pub filled_length : {bs bytes : List ℕ} (f : Filled bs bytes) → 8 * length bytes ≡ length bs + f.fill
filled_length {bs} {bytes} f =
    sym (length_bits_of bytes)
    ∙ ap length f.same
    ∙ length-append bs (replicate f.fill 0)
    ∙ ap (λ (k : ℕ). length bs + k) (length-replicate f.fill 0)

-- no other bytes are
pub filled_unique : {bs xs ys : List ℕ} → Filled bs xs → Filled bs ys → xs ≡ ys
filled_unique {bs} {xs} {ys} p q =
    let alike : p.fill ≡ q.fill = omega (arith, filled_length p, filled_length q, p.few, q.few) in
    bits_of_injective xs ys p.small q.small (p.same ∙ ap (λ (k : ℕ). bs ++ replicate k 0) alike ∙ sym q.same)
