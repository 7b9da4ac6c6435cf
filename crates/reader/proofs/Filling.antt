-- The bits left over.
use Prim.Native.Nat.{ℕ, ◌+◌, ◌-◌, ◌*◌, ◌^◌, ◌≤◌, ◌<◌}
use mathlib.Core.Path.{◌≡◌, sym, ap, ◌∙◌}
use mathlib.Core.List.{List, ◌++◌, append-nil}
use mathlib.Core.Bool.{true, false}
use mathlib.Core.Logic.{⊎_elim}
use native.Mathlib.Omega.{arith}
use lib.Dec.{eqb}
use lib.ListN.{length, drop, replicate, length-drop, drop_of_length-le}
use lib.Pow.{pow_pos}
use Rattle.poset.proofs.Laws.{decided, clash, false_unless, eqb-true, eqb_same}
use Rattle.record.specs.Bits.{bits, bits_of}
use Rattle.record.specs.Decode.{fills}
use Rattle.record.proofs.Fields.{length_bits}
use Rattle.record.proofs.Bytes.{length_bits_of, bits_zero}
use Rattle.record.proofs.Tests.{fills_zeros, zeros_fill}
use Rattle.reader.specs.Fields.{FieldAt}
use Rattle.reader.proofs.Positions.{bits_injective}

fills_bits : (k x : ℕ) → k < 8 → x < 2 ^ k → eqb x 0 ≡ fills (bits k x)
fills_bits k x few small =
    ⊎_elim
    (λ (e : eqb x 0 ≡ true). e ∙ sym (ap (λ (y : ℕ). fills (bits k y)) (eqb-true x 0 e) ∙ ap fills (bits_zero k) ∙ fills_zeros k few))
    (λ (e : eqb x 0 ≡ false).
    e
    ∙ sym
    (false_unless (fills (bits k x))
    (λ h.
    let zeros : bits k x ≡ bits k 0 = (zeros_fill (bits k x) h).1 ∙ ap (λ (n : ℕ). replicate n 0) (length_bits k x) ∙ sym (bits_zero k) in
    clash (ap (λ (y : ℕ). eqb y 0) (bits_injective k x 0 small (pow_pos k) zeros) ∙ eqb_same 0) e)))
    (decided (eqb x 0))

module _ (bytes : List ℕ) (at : ℕ) where
  -- no bit is left
  pub fills_none : 8 * length bytes - at ≡ 0 → true ≡ fills (drop at (bits_of bytes))
  fills_none e =
      sym (ap fills (drop_of_length-le (bits_of bytes) {i = at} (omega (arith, length_bits_of bytes))) ∙ fills_zeros 0 (omega arith))

  -- a byte is left
  pub fills_many : 8 ≤ 8 * length bytes - at → false ≡ fills (drop at (bits_of bytes))
  fills_many h =
      sym (false_unless (fills (drop at (bits_of bytes)))
      (λ e. omega (arith, (zeros_fill (drop at (bits_of bytes)) e).0, length-drop at (bits_of bytes), length_bits_of bytes)))

  pub fills_field : (x : ℕ) → 8 * length bytes - at < 8 → at ≤ 8 * length bytes → FieldAt (bits_of bytes) at (8 * length bytes - at) x
      → eqb x 0 ≡ fills (drop at (bits_of bytes))
  fills_field x few l f =
      let left : ℕ = 8 * length bytes - at in
      let all : drop at (bits_of bytes) ≡ bits left x =
      f.stands.these
      ∙ ap (λ (r : List ℕ). bits left x ++ r)
      (drop_of_length-le (bits_of bytes) {i = at + length (bits left x)} (omega (arith, length_bits left x, length_bits_of bytes)))
      ∙ append-nil (bits left x) in
      fills_bits left x few f.small ∙ ap fills (sym all)
