-- Lists at positions of a list, and the bits of a number there.
use Prim.Native.Nat.{ℕ, ◌+◌, ◌^◌, ◌≤◌, ◌<◌}
use mathlib.Core.Path.{◌≡◌, sym, ap, ◌∙◌}
use mathlib.Core.List.{List, [], ◌++◌, append_assoc}
use Rattle.std.proofs.lemmas.Option.{same_Some}
use native.Mathlib.Omega.{arith}
use lib.ListN.{length, take, drop, length-append, length-drop}
use lib.Seq.{take-append_seam, drop-append_seam, drop-drop}
use Rattle.record.specs.Bits.{bits}
use Rattle.record.specs.Decode.{read_bits}
use Rattle.record.proofs.Fields.{read_back}
use Rattle.reader.specs.Fields.{At}

module _ {bs : List ℕ} {at : ℕ} where
  -- what follows the list that stands there
  pub at_of : (xs rest : List ℕ) → at ≤ length bs → drop at bs ≡ xs ++ rest → At bs at xs
  at_of xs rest l e =
      let lengths : length (drop at bs) ≡ length xs + length rest = ap length e ∙ length-append xs rest in
      let after : drop (at + length xs) bs ≡ rest =
      sym (drop-drop (length xs) at bs) ∙ ap (drop (length xs)) e ∙ drop-append_seam xs rest in
      record {
        within = omega (arith, length-drop at bs);
        these = e ∙ ap (λ (l : List ℕ). xs ++ l) (sym after);
      }

module _ {bs : List ℕ} {at : ℕ} where
  pub at_left : (xs ys : List ℕ) → At bs at (xs ++ ys) → At bs at xs
  at_left xs ys s =
      at_of xs (ys ++ drop (at + length (xs ++ ys)) bs) (omega (arith, s.within)) (s.these ∙ append_assoc xs ys _)

  pub at_right : (xs ys : List ℕ) → At bs at (xs ++ ys) → At bs (at + length xs) ys
  at_right xs ys s =
      let start : at + length xs ≤ length bs = omega (arith, s.within, length-append xs ys) in
      let these : drop (at + length xs) bs ≡ ys ++ drop (at + length (xs ++ ys)) bs =
      sym (drop-drop (length xs) at bs)
      ∙ ap (drop (length xs)) (s.these ∙ append_assoc xs ys _)
      ∙ drop-append_seam xs _ in
      at_of ys _ start these

  pub at_join : (xs ys : List ℕ) → At bs at xs → At bs (at + length xs) ys → At bs at (xs ++ ys)
  at_join xs ys p q =
      at_of (xs ++ ys) (drop (at + length xs + length ys) bs) (omega (arith, p.within))
      (p.these ∙ ap (λ (l : List ℕ). xs ++ l) q.these ∙ sym (append_assoc xs ys _))

  -- one list of a length stands there
  pub at_same : (xs ys : List ℕ) → length xs ≡ length ys → At bs at xs → At bs at ys → xs ≡ ys
  at_same xs ys e p q =
      sym (take-append_seam xs _)
      ∙ ap (take (length xs)) (sym p.these ∙ q.these)
      ∙ ap (λ (k : ℕ). take k (ys ++ drop (at + length ys) bs)) e
      ∙ take-append_seam ys _

-- one number of k bits has them
pub bits_injective : (k x y : ℕ) → x < 2 ^ k → y < 2 ^ k → bits k x ≡ bits k y → x ≡ y
bits_injective k x y p q e =
    ap (λ (r : ℕ × List ℕ). r.0)
    (same_Some _ _ (sym (read_back k x [] p) ∙ ap (λ (l : List ℕ). read_bits k (l ++ [])) e ∙ read_back k y [] q))
