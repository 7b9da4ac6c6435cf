-- What a node begins with.
use Prim.Native.Nat.{ℕ, ◌+◌, ◌-◌, ◌/◌, ◌%◌, ◌^◌, ◌≤◌, ◌<◌}
use mathlib.Core.Path.{◌≡◌, ap₂, subst, ◌∙◌}
use mathlib.Core.List.{List, ◌∷◌, ◌++◌}
use native.Mathlib.Decide.{dec_le}
use native.Mathlib.Nat.{mod-lt}
use native.Mathlib.Omega.{arith}
use lib.ListN.{length}
use lib.Pow.{pow_pos}
use Rattle.poset.specs.Tree.{Kind, series, parallel}
use Rattle.record.specs.Bits.{bits}
use Rattle.record.specs.Layout.{hours_bits, leaf_bits, kind_bit}
use Rattle.record.proofs.Sizes.{groups_lt, forest_groups_lem, kind_below, length_tree_bits}
use Rattle.reader.specs.Fields.{At, FieldAt, NoTree, BeginsLeaf, BeginsGroup, header}
use Rattle.reader.proofs.Windows.{halves, high_part}
use Rattle.reader.proofs.Inversion.{only_group}

two_bits : (q b : ℕ) → q ≡ 2 + b → b < 2 → (q / 2 % 2 ≡ 1) × (q / 1 % 2 ≡ b)
two_bits q b e h = omega arith

kind_of : (x : ℕ) → 128 ≤ x → x < 256 → (k : Kind) × (x / 64 ≡ 2 + kind_bit k)
unfolding kind_bit
kind_of x l h = elim (dec_le x 191) [ yes p ↦ (series, omega arith) | no p ↦ (parallel, omega arith) ]

module _ (bs : List ℕ) (at : ℕ) where
  -- every tree has a leaf
  pub short_leaf : length bs < at + leaf_bits → NoTree bs at
  short_leaf h t _ hours _ s = omega (arith, s.within, length_tree_bits hours t, groups_lt t)

  -- x: the number in as many bits as a leaf has
  module _ (x : ℕ) (f : FieldAt bs at leaf_bits x) where
    pub leaf_node : x / 2 ^ hours_bits < 128 → BeginsLeaf bs at (x / 2 ^ hours_bits) (x % 2 ^ hours_bits)
    unfolding bits
    leaf_node h =
        let j : ℕ = x / 2 ^ hours_bits in
        let first : j / 128 % 2 ≡ 0 = omega arith in
        record {
          stands =
              subst (λ (b : ℕ). At bs at (b ∷ bits 7 j ++ bits hours_bits (x % 2 ^ hours_bits))) first
              (subst (At bs at) (halves 8 hours_bits x) f.stands);
          small = h;
          low = mod-lt x (pow_pos hours_bits);
        }

    -- the first 9 bits: those of a group ahead of its children's
    abbrev nine : ℕ
    nine = x / 2 ^ (hours_bits - 1)

    header_at : (k : Kind) → x / 2 ^ hours_bits / 64 ≡ 2 + kind_bit k → At bs at (header k (nine % 128))
    unfolding bits
    header_at k e =
        let (top, kind) = two_bits (nine / 128) (kind_bit k) (omega arith) (kind_below k) in
        subst (At bs at) (halves 2 7 nine ∙ ap₂ (λ (u v : ℕ). u ∷ v ∷ bits 7 (nine % 128)) top kind) (high_part 9 (hours_bits - 1) x f).stands

    module _ (grouped : 128 ≤ x / 2 ^ hours_bits) where
      -- no group has one child
      pub lone_child : x / 2 ^ (hours_bits - 1) % 128 ≡ 0 → NoTree bs at
      lone_child e t small hours _ s =
          let x_small : x < 2 ^ leaf_bits = f.small in
          let (k, kind) = kind_of (x / 2 ^ hours_bits) grouped (omega arith) in
          let i = only_group hours k (nine % 128) t (omega arith) small (header_at k kind) s in
          omega (arith, i.number, forest_groups_lem i.others)

      module _ (several : x / 2 ^ (hours_bits - 1) % 128 ≡ 0 → ⊥) where
        group_node : (k : Kind) → x / 2 ^ hours_bits / 64 ≡ 2 + kind_bit k → BeginsGroup bs at k (x / 2 ^ (hours_bits - 1) % 128)
        group_node k e = record { stands = header_at k e; several = omega arith; small = omega arith }

        pub chain_node : x / 2 ^ hours_bits < 192 → BeginsGroup bs at series (x / 2 ^ (hours_bits - 1) % 128)
        unfolding kind_bit
        chain_node h = group_node series (omega arith)

        pub side_node : 192 ≤ x / 2 ^ hours_bits → BeginsGroup bs at parallel (x / 2 ^ (hours_bits - 1) % 128)
        unfolding kind_bit
        side_node h = let x_small : x < 2 ^ leaf_bits = f.small in group_node parallel (omega arith)
