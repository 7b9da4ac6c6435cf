-- Fields of bits: a number's bits, and the number read back.
use Prim.Native.Nat.{ℕ, zero, suc, ◌+◌, ◌*◌, ◌/◌, ◌%◌, ◌^◌, ◌<◌}
use mathlib.Core.Path.{◌≡◌, refl, sym, ap, ap₂, subst, ◌∙◌}
use mathlib.Core.List.{List, [], ◌∷◌, ◌++◌}
use Rattle.poset.proofs.Laws.{and_then_some}
use Rattle.std.specs.Prelude.{Option, Some, option_and_then}
use Rattle.std.proofs.lemmas.Option.{none-some}
use Rattle.std.proofs.lemmas.Option.{same_Some}
use native.Mathlib.Nat.{zero-add, suc-add, add_comm, pow-suc, mul_assoc, mul-add-div_right, mod-one, mod-lt, mod-eq_of_lt}
use native.Mathlib.Numerals.{add-one}
use native.Mathlib.Omega.{arith}
use lib.Arith.{digits_lt}
use lib.ListN.{length}
use lib.Pow.{pow_pos, pow-add, split, high, shr-shr, mod-pow-add}
use Rattle.record.specs.Bits.{AllBelow, bits}
use Rattle.record.specs.Decode.{read_bits}
use Rattle.record.proofs.Below.{below_nil, below_cons, below_head, below_tail}

-- a number's bits

pub length_bits : (k x : ℕ) → length (bits k x) ≡ k
unfolding bits
length_bits zero x = refl
length_bits (suc k) x = ap suc (length_bits k x)

pub bits_below : (k x : ℕ) → AllBelow 2 (bits k x)
unfolding bits
bits_below zero x = below_nil
bits_below (suc k) x = below_cons (mod-lt _ (omega arith)) (bits_below k x)

-- the low bits do not depend on the high part

bits_low : (k x r : ℕ) → bits k (x * 2 ^ k + r) ≡ bits k r
unfolding bits
bits_low zero x r = refl
bits_low (suc k) x r =
    let shift : x * 2 ^ suc k + r ≡ x * 2 * 2 ^ k + r = rw (pow-suc 2 k) (omega arith) in
    let e : (x * 2 * 2 ^ k + r) / 2 ^ k ≡ x * 2 + r / 2 ^ k = mul-add-div_right (pow_pos k) (x * 2) r in
    rw shift (ap₂ ◌∷◌ (rw e (omega arith)) (bits_low k (x * 2) r))

pub bits_mod : (j k x : ℕ) → bits k (x % 2 ^ (j + k)) ≡ bits k x
bits_mod j k x =
    sym (bits_low k (x / 2 ^ (j + k) * 2 ^ j) (x % 2 ^ (j + k)))
    ∙ ap (λ (h : ℕ). bits k (h + x % 2 ^ (j + k))) (mul_assoc (x / 2 ^ (j + k)) (2 ^ j) (2 ^ k) ∙ ap (λ (p : ℕ). x / 2 ^ (j + k) * p) (sym (pow-add 2 j k)))
    ∙ ap (bits k) (split x (j + k))

-- the bits of a number are those of its high part, then those of its low one
pub bits_append : (j k x r : ℕ) → r < 2 ^ k → bits (j + k) (x * 2 ^ k + r) ≡ bits j x ++ bits k r
unfolding bits
bits_append zero k x r h = rw (zero-add k) (bits_low k x r)
bits_append (suc j) k x r h =
    let e : (x * 2 ^ k + r) / 2 ^ (j + k) ≡ x / 2 ^ j
    = rw (add_comm j k, ← shr-shr (x * 2 ^ k + r) k j, high x k h) in
    rw (suc-add j k) (ap₂ ◌∷◌ (ap (λ (y : ℕ). y % 2) e) (bits_append j k x r h))

pub bit_alone : (b : ℕ) → b < 2 → bits 1 b ≡ b ∷ []
unfolding bits
bit_alone b h = let e : b / 2 ^ 0 % 2 ≡ b = omega arith in ap (λ (c : ℕ). c ∷ []) e

-- one bit more, at either end

pub bits_snoc : (k x b : ℕ) → b < 2 → bits (suc k) (x * 2 + b) ≡ bits k x ++ b ∷ []
bits_snoc k x b h =
    ap (λ (n : ℕ). bits n (x * 2 + b)) (sym (add-one k)) ∙ bits_append k 1 x b h ∙ ap (λ (l : List ℕ). bits k x ++ l) (bit_alone b h)

pub bits_cons : (k b x : ℕ) → b < 2 → x < 2 ^ k → bits (suc k) (b * 2 ^ k + x) ≡ b ∷ bits k x
bits_cons k b x h l =
    let one : suc k ≡ 1 + k = omega arith in
    ap (λ (n : ℕ). bits n (b * 2 ^ k + x)) one ∙ bits_append 1 k b x l ∙ ap (λ (l : List ℕ). l ++ bits k x) (bit_alone b h)

-- the number read back

pub read_bits_lem : (k x : ℕ) (rest : List ℕ) → read_bits k (bits k x ++ rest) ≡ Some (x % 2 ^ k, rest)
unfolding bits read_bits
read_bits_lem zero x rest = rw (mod-one x)
read_bits_lem (suc k) x rest =
    let one : 1 + k ≡ suc k = omega arith in
    rw (read_bits_lem k x rest, ← one, mod-pow-add x 1 k)

pub read_back : (k x : ℕ) (rest : List ℕ) → x < 2 ^ k → read_bits k (bits k x ++ rest) ≡ Some (x, rest)
read_back k x rest h = read_bits_lem k x rest ∙ ap (λ (y : ℕ). Some (y, rest)) (mod-eq_of_lt h)

-- what a step gave, where the rest of the steps follows it
pub after : {A B P : Type 0} (o : Option A) (g : A → Option B) {b : B} → option_and_then g o ≡ Some b → ((a : A) → o ≡ Some a → g a ≡ Some b → P) → P
after o g e then = let r = (and_then_some o g).0 e in then r.0 r.1 r.2

-- the bits are those of a number of k bits, and the rest
pub record Read (k : ℕ) (bs : List ℕ) (x : ℕ) (rest : List ℕ) : Type 0 where
  pub these : bs ≡ bits k x ++ rest
  pub small : x < 2 ^ k

one_more : (k b x : ℕ) (bs rest : List ℕ) → b < 2 → Read k bs x rest → Read (suc k) (b ∷ bs) (b * 2 ^ k + x) rest
one_more k b x bs rest h r = record {
  these = ap (λ (l : List ℕ). b ∷ l) r.these ∙ ap (λ (l : List ℕ). l ++ rest) (sym (bits_cons k b x h r.small));
  small = omega (arith, digits_lt h r.small);
}

pub bits_read : (k : ℕ) (bs : List ℕ) {x : ℕ} {rest : List ℕ} → AllBelow 2 bs → read_bits k bs ≡ Some (x, rest) → Read k bs x rest
unfolding bits read_bits
bits_read zero bs h e =
    subst (λ (r : ℕ × List ℕ). Read 0 bs r.0 r.1) (same_Some _ _ e) (record { these = refl; small = omega arith })
bits_read (suc k) [] {x} {rest} h e = absurd (none-some (x, rest) e)
bits_read (suc k) (b ∷ bs) h e =
    after _ _ e λ y got same.
    subst (λ (r : ℕ × List ℕ). Read (suc k) (b ∷ bs) r.0 r.1) (same_Some _ _ same)
    (one_more k b y.0 bs y.1 (below_head h) (bits_read k bs (below_tail h) got))
