-- The hours of the jobs of a tree that was read: the entries below the count, the others still 0.
use Prim.Native.Nat.{ℕ, zero, suc, ◌+◌, ◌-◌, ◌≤◌}
use mathlib.Core.Path.{◌≡◌, refl, sym, ap, ap₂, subst, ◌∙◌}
use mathlib.Core.List.{List, [], ◌∷◌, ◌++◌}
use native.Mathlib.Omega.{arith}
use lib.ListN.{length, get_or, take, drop, replicate, length-drop, length-replicate, take-append-drop}
use lib.Seq.{length-take-le, get_or-drop, get_or-take}
use Rattle.poset.specs.Areas.{padded}
use Rattle.poset.specs.Tree.{Tree}
use Rattle.record.specs.Bits.{AllBelow}
use Rattle.record.specs.Layout.{tree_bits}
use Rattle.record.proofs.Below.{below_left}
use Rattle.record.proofs.Entries.{tree_agree}
use Rattle.reader.specs.Parts.{Lists, Free, Placed, of_tree}
use Rattle.reader.specs.declared.parts.Part.{Part}

pub zeros_at : (k i : ℕ) → ◌≡◌ {A = ℕ} (get_or (replicate k 0) i 0) 0
zeros_at zero i = refl
zeros_at (suc k) zero = refl
zeros_at (suc k) (suc i) = zeros_at k i

all_zeros : (xs : List ℕ) → ((i : ℕ) → get_or xs i 0 ≡ 0) → xs ≡ replicate (length xs) 0
all_zeros [] h = refl
all_zeros (x ∷ xs) h = ap₂ ◌∷◌ (h 0) (all_zeros xs (λ i. h (suc i)))

padded_take : (n : ℕ) (xs : List ℕ) → n ≤ 128 → length xs ≡ 128 → ((i : ℕ) → n ≤ i → get_or xs i 0 ≡ 0) → xs ≡ padded (take n xs)
padded_take n xs few size none =
    let rest : drop n xs ≡ replicate (length (drop n xs)) 0 = all_zeros (drop n xs) (λ i. get_or-drop n xs i 0 ∙ none (n + i) (omega arith)) in
    let number : length (drop n xs) ≡ 128 - length (take n xs) = omega (arith, length-drop n xs, length-take-le n xs (omega arith)) in
    sym (take-append-drop n xs) ∙ ap (λ (l : List ℕ). take n xs ++ l) (rest ∙ ap (λ (k : ℕ). replicate k 0) number)

pub below_take : {m : ℕ} (n : ℕ) (xs : List ℕ) → AllBelow m xs → AllBelow m (take n xs)
below_take {m} n xs h = below_left (take n xs) (drop n xs) (subst (AllBelow m) (sym (take-append-drop n xs)) h)

module _ {bs : List ℕ} {n : ℕ} {w v : Lists} {p : Part} (t : Tree) (few : n ≤ 128) (zeros : w.hours ≡ replicate 128 0)
    (free : Free n 0 0 w.seen (of_tree t)) (placed : Placed bs 0 0 w v p (of_tree t)) where
  size : length v.hours ≡ 128
  size = placed.entries ∙ ap length zeros ∙ length-replicate {A = ℕ} 128 0

  pub hours_each : length (take n v.hours) ≡ n
  hours_each = length-take-le n v.hours (omega (arith, size))

  pub hours_padded : v.hours ≡ padded (take n v.hours)
  hours_padded =
      padded_take n v.hours few size λ i l.
      placed.kept i (λ m. omega (arith, free.inside i m)) ∙ ap (λ (xs : List ℕ). get_or xs i 0) zeros ∙ zeros_at 128 i

  -- they spell the same tree
  pub hours_spelt : tree_bits v.hours t ≡ tree_bits (take n v.hours) t
  hours_spelt = tree_agree v.hours (take n v.hours) t (λ j m. sym (get_or-take n v.hours j 0 (free.inside j m)))
