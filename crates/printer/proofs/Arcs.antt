-- The lines of arcs given as two numbers for each.
use Rattle.std.proofs.Common.{◌≡◌, ℕ, suc, ◌/◌, List, [], ◌∷◌, ◌++◌, length, refl, ap, ap₂, ◌∙◌, arith, get_or}
use mathlib.Core.List.{flat_map}
use Rattle.std.specs.Simd.{first_chunks}
use Rattle.std.specs.Fmt.{decimal as written}
use Rattle.relation.specs.Arcs.{pairs}
use Rattle.sheet.specs.Text.{space, line_feed}
use Rattle.printer.specs.Text.{spaced, arc_line}
use Rattle.printer.proofs.Digits.{Small, rest, same_digits}

-- what is written for two numbers
unfoldable pub pair_line : List ℕ → List ℕ
pair_line l = written (get_or l 0 0) ++ space ∷ written (get_or l 1 0) ++ line_feed ∷ []

pub same_arcs : (l : List ℕ) → Small l → flat_map pair_line (first_chunks 2 (length l / 2) l) ≡ flat_map arc_line (pairs l)
unfolding flat_map pairs pair_line arc_line spaced
same_arcs [] h = refl
same_arcs (u ∷ []) h = refl
same_arcs (u ∷ v ∷ l) h =
    let n : length (u ∷ v ∷ l) / 2 ≡ suc (length l / 2) = omega arith in
    rw n
    (ap₂ (λ (a b : List ℕ). a ++ space ∷ b ++ line_feed ∷ [] ++ flat_map pair_line (first_chunks 2 (length l / 2) l)) (same_digits u (h.fits 0)) (same_digits v (h.fits 1))
    ∙ ap (λ (t : List ℕ). arc_line (u, v) ++ t) (same_arcs l (rest (rest h))))
