-- The two sequences of a tree that was read.
use Prim.Native.Nat.{ℕ, zero, suc, ◌+◌, ◌-◌, ◌≤◌}
use mathlib.Core.Path.{◌≡◌, refl, sym, ap, ap₂, subst, ◌∙◌}
use mathlib.Core.List.{List, ◌++◌}
use native.Mathlib.Nat.{sub-zero, zero-sub}
use native.Mathlib.Omega.{arith}
use lib.ListN.{length, drop, replicate, length-append}
use lib.Seq.{sets, sets-eq}
use Rattle.poset.specs.Tree.{Kind, series, parallel, Tree, leaf, node, Forest, last, more, leaves, forest_leaves, joined, reversed, forest_reversed}
use Rattle.record.specs.Bits.{AllBelow}
use Rattle.reader.specs.Parts.{Lists, walk, Free, Placed, of_tree}
use Rattle.poset.specs.Areas.{padded}
use Rattle.reader.specs.declared.parts.Part.{Part}
use Rattle.reader.proofs.Children.{reversed_in}
use Rattle.reader.proofs.Walks.{strand_walk}

abbrev zeros : ℕ → List ℕ
zeros k = replicate k 0

drop_zeros : (k m : ℕ) → drop k (zeros m) ≡ zeros (m - k)
drop_zeros zero m = ap zeros (sym (sub-zero m))
drop_zeros (suc k) zero = ap zeros (sym (zero-sub (suc k)))
drop_zeros (suc k) (suc m) = let e : m - k ≡ suc m - suc k = omega arith in drop_zeros k m ∙ ap zeros e

-- a list written over zeros
sets_zeros : (xs : List ℕ) → length xs ≤ 128 → sets (replicate 128 0) 0 xs ≡ padded xs
sets_zeros xs h =
    let none : 0 + length xs ≡ length xs = omega arith in
    sets-eq xs (zeros 128) 0 (omega arith) ∙ ap (λ (k : ℕ). xs ++ drop k (zeros 128)) none ∙ ap (λ (r : List ℕ). xs ++ r) (drop_zeros (length xs) 128)

length_joined : (k : Kind) (xs ys : List ℕ) → length (joined k xs ys) ≡ length xs + length ys
unfolding joined
length_joined series xs ys = length-append xs ys
length_joined parallel xs ys = omega (arith, length-append ys xs)

mutual
  unfolding leaves reversed

  pub length_reversed : (t : Tree) → length (reversed t) ≡ length (leaves t)
  length_reversed (leaf j) = refl
  length_reversed (node k t f) =
      length_joined k (reversed t) (forest_reversed k f)
      ∙ ap₂ ◌+◌ (length_reversed t) (length_forest_reversed k f)
      ∙ sym (length-append (leaves t) (forest_leaves f))

  length_forest_reversed : (k : Kind) (f : Forest) → length (forest_reversed k f) ≡ length (forest_leaves f)
  length_forest_reversed k (last t) = length_reversed t
  length_forest_reversed k (more t f) =
      length_joined k (reversed t) (forest_reversed k f)
      ∙ ap₂ ◌+◌ (length_reversed t) (length_forest_reversed k f)
      ∙ sym (length-append (leaves t) (forest_leaves f))

module _ {bs : List ℕ} {n : ℕ} {w v : Lists} {p : Part} (t : Tree) (few : n ≤ 128) (all : p.done ≡ n) (free : Free n 0 0 w.seen (of_tree t))
    (placed : Placed bs 0 0 w v p (of_tree t)) where
  pub forward_leaves : w.forward ≡ replicate 128 0 → v.forward ≡ padded (leaves t)
  forward_leaves e =
      placed.forward ∙ ap (λ (l : List ℕ). sets l 0 (leaves t)) e ∙ sets_zeros (leaves t) (omega (arith, free.room))

  pub walk_reversed : walk v.next n p.first ≡ reversed t
  walk_reversed =
      let e : n ≡ length (reversed t) = omega (arith, placed.number, length_reversed t) in
      ap (λ (k : ℕ). walk v.next k p.first) e ∙ strand_walk placed.strand

  pub walk_below : AllBelow 128 (walk v.next n p.first)
  walk_below = subst (AllBelow 128) (sym walk_reversed) (λ u m. omega (arith, free.inside u (reversed_in t m)))
