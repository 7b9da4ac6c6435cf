-- One tree at most stands at a position, and its first bits say which.
use Prim.Native.Nat.{ℕ, suc, ◌+◌, ◌^◌, ◌<◌}
use mathlib.Core.Path.{◌≡◌, refl, sym, ap, subst, ◌∙◌}
use mathlib.Core.List.{List, ◌∷◌, ◌++◌}
use Rattle.std.proofs.lemmas.Option.{same_Some}
use native.Mathlib.Omega.{arith}
use lib.ListN.{length, get_or, drop, length-append}
use Rattle.poset.specs.Tree.{Kind, series, parallel, Tree, leaf, node, Forest, more, leaves, forest_leaves, groups}
use Rattle.record.specs.Bits.{AllBelow, bits}
use Rattle.record.specs.Layout.{hours_bits, kind_bit, more_children, hours_of, tree_bits, forest_bits}
use Rattle.record.specs.Decode.{read_tree}
use Rattle.record.specs.Tokens.{Small}
use Rattle.record.proofs.Below.{below_head}
use Rattle.record.proofs.Fields.{length_bits}
use Rattle.record.proofs.Sizes.{groups_lt, forest_groups_lem}
use Rattle.record.proofs.Reading.{read_tree_lem}
use Rattle.reader.specs.Fields.{At, leaf_fields, header}
use Rattle.reader.proofs.Positions.{at_left, at_right, at_same, bits_injective}

module _ {bs : List ℕ} {at : ℕ} where
  pub one_tree : (g h : List ℕ) → AllBelow (2 ^ hours_bits) g → AllBelow (2 ^ hours_bits) h → (s t : Tree) → Small (leaves s) → Small (leaves t)
      → At bs at (tree_bits g s) → At bs at (tree_bits h t) → s ≡ t
  one_tree g h low_g low_h s t small_s small_t p q =
      let d : ℕ = suc (groups s + groups t) in
      ap (λ (r : (Tree × List ℕ) × List ℕ). r.0.0)
      (same_Some _ _
      (sym (read_tree_lem g low_g s d small_s (omega arith) (drop (at + length (tree_bits g s)) bs))
      ∙ ap (read_tree d) (sym p.these ∙ q.these)
      ∙ read_tree_lem h low_h t d small_t (omega arith) (drop (at + length (tree_bits h t)) bs)))

  first_bit : (x y : ℕ) (xs ys : List ℕ) → At bs at (x ∷ xs) → At bs at (y ∷ ys) → x ≡ y
  first_bit x y xs ys p q = ap (λ (l : List ℕ). get_or l 0 0) (sym p.these ∙ q.these)

kind_injective : (k l : Kind) → kind_bit k ≡ kind_bit l → k ≡ l
unfolding kind_bit
kind_injective series series e = refl
kind_injective series parallel e = absurd (omega arith)
kind_injective parallel series e = absurd (omega arith)
kind_injective parallel parallel e = refl

-- a group of that kind with that many children minus 1, and its children after its own bits
pub record Group (bs : List ℕ) (at : ℕ) (k : Kind) (c : ℕ) (hours : List ℕ) (t : Tree) : Type 0 where
  pub first : Tree
  pub others : Forest
  pub same : t ≡ node k first others
  pub number : more_children others ≡ c
  pub children : At bs (at + 9) (forest_bits hours (more first others))

module _ {bs : List ℕ} {at : ℕ} where
  -- a leaf's bits are those of that leaf alone
  pub only_leaf : (hours : List ℕ) (j x : ℕ) (t : Tree) → j < 128 → Small (leaves t) → At bs at (leaf_fields j x) → At bs at (tree_bits hours t)
      → t ≡ leaf j
  unfolding tree_bits leaves
  only_leaf hours j x (leaf i) h small p q =
      let same : 0 ∷ bits 7 i ≡ 0 ∷ bits 7 j =
      at_same (0 ∷ bits 7 i) (0 ∷ bits 7 j) (omega (arith, length_bits 7 i, length_bits 7 j))
      (at_left (0 ∷ bits 7 i) (bits hours_bits (hours_of hours i)) q) (at_left (0 ∷ bits 7 j) (bits hours_bits x) p) in
      ap leaf (bits_injective 7 i j (below_head small.0) h (ap (drop 1) same))
  only_leaf hours j x (node k s f) h small p q = absurd (omega (arith, first_bit 0 1 _ _ p q))

  pub only_group : (hours : List ℕ) (k : Kind) (c : ℕ) (t : Tree) → c < 128 → Small (leaves t) → At bs at (header k c) → At bs at (tree_bits hours t)
      → Group bs at k c hours t
  unfolding tree_bits leaves
  only_group hours k c (leaf j) h small p q = absurd (omega (arith, first_bit 1 0 _ _ p q))
  only_group hours k c (node l s f) h small p q =
      let body : List ℕ = tree_bits hours s ++ forest_bits hours f in
      let number_small : more_children f < 2 ^ 7 =
      omega (arith, forest_groups_lem f, groups_lt s, small.1, length-append (leaves s) (forest_leaves f)) in
      let heads : At bs at (header l (more_children f)) = at_left (header l (more_children f)) body q in
      let lengths : length (header k c) ≡ length (header l (more_children f)) = omega (arith, length_bits 7 c, length_bits 7 (more_children f)) in
      let same : header k c ≡ header l (more_children f) = at_same (header k c) (header l (more_children f)) lengths p heads in
      let kinds : l ≡ k = kind_injective l k (sym (ap (λ (x : List ℕ). get_or x 1 0) same)) in
      let number : more_children f ≡ c = bits_injective 7 (more_children f) c number_small h (sym (ap (drop 2) same)) in
      let place : at + length (header l (more_children f)) ≡ at + 9 = omega (arith, length_bits 7 (more_children f)) in
      record {
        first = s;
        others = f;
        same = ap (λ (m : Kind). node m s f) kinds;
        number = number;
        children = subst (λ (i : ℕ). At bs i body) place (at_right (header l (more_children f)) body q);
      }
