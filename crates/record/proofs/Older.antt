-- Records without hours: none is a record. (Document 01: a leaf is bit 0, then 7 bits job number. Document 02, A.2: older records are made again
-- from their sheets.)
use Prim.Native.Nat.{ℕ, ◌+◌, ◌-◌, ◌*◌, ◌≤◌, ◌<◌}
use mathlib.Core.Path.{◌≡◌, sym, ap, subst, ◌∙◌}
use mathlib.Core.List.{List, ◌∷◌, ◌++◌}
use Rattle.std.proofs.lemmas.Option.{same_Some}
use native.Mathlib.Omega.{arith}
use lib.ListN.{length, length-append}
use Rattle.poset.specs.Tree.{Tree, leaf, node, Forest, last, more, leaves, forest_leaves, groups, forest_groups, Spans}
use Rattle.record.specs.Bits.{AllBelow, bits, bytes_of}
use Rattle.record.specs.Layout.{kind_bit, more_children, tree_bits, IsRecord}
use Rattle.record.proofs.Below.{below_cons, below_append}
use Rattle.record.proofs.Fields.{bits_below, length_bits}
use Rattle.record.proofs.Bytes.{Filled, bytes_filled, filled_length}
use Rattle.record.proofs.Sizes.{length_leaves, groups_lt, kind_below, length_tree_bits}
use Rattle.record.proofs.Records.{layout_filled, count_read}

unfoldable mutual
  pub older_bits : Tree → List ℕ
  older_bits (leaf j) = 0 ∷ bits 7 j
  older_bits (node k t f) = 1 ∷ kind_bit k ∷ bits 7 (more_children f) ++ (older_bits t ++ older_forest f)

  pub older_forest : Forest → List ℕ
  older_forest (last t) = older_bits t
  older_forest (more t f) = older_bits t ++ older_forest f

unfoldable pub older_layout : ℕ → Tree → List ℕ
older_layout n t = bytes_of (bits 7 (n - 1) ++ older_bits t)

-- the bytes are the layout without hours of a tree on n jobs, plain or not
pub record WasOlder (bytes : List ℕ) (n : ℕ) (t : Tree) : Type 0 where
  pub least : 0 < n
  pub most : n ≤ 128
  pub spans : Spans n t
  pub spelt : older_layout n t ≡ bytes

-- 8 bits a leaf, 9 a group

mutual
  unfolding leaves groups older_bits

  length_older : (t : Tree) → length (older_bits t) ≡ 8 * length (leaves t) + 9 * groups t
  length_older (leaf j) = omega (arith, length_bits 7 j)
  length_older (node k t f) =
      omega (
        arith,
        length-append (bits 7 (more_children f)) (older_bits t ++ older_forest f),
        length_bits 7 (more_children f),
        length-append (older_bits t) (older_forest f),
        length-append (leaves t) (forest_leaves f),
        length_older t,
        length_older_forest f,
      )

  length_older_forest : (f : Forest) → length (older_forest f) ≡ 8 * length (forest_leaves f) + 9 * forest_groups f
  length_older_forest (last t) = length_older t
  length_older_forest (more t f) =
      omega (
        arith,
        length-append (older_bits t) (older_forest f),
        length-append (leaves t) (forest_leaves f),
        length_older t,
        length_older_forest f,
      )

mutual
  unfolding older_bits

  older_below : (t : Tree) → AllBelow 2 (older_bits t)
  older_below (leaf j) = below_cons (omega arith) (bits_below 7 j)
  older_below (node k t f) =
      below_cons (omega arith)
      (below_cons (kind_below k) (below_append (bits_below 7 (more_children f)) (below_append (older_below t) (older_forest_below f))))

  older_forest_below : (f : Forest) → AllBelow 2 (older_forest f)
  older_forest_below (last t) = older_below t
  older_forest_below (more t f) = below_append (older_below t) (older_forest_below f)

older_filled : (n : ℕ) (t : Tree) → Filled (bits 7 (n - 1) ++ older_bits t) (older_layout n t)
unfolding older_layout
older_filled n t = bytes_filled (bits 7 (n - 1) ++ older_bits t) (below_append (bits_below 7 (n - 1)) (older_below t))

pub older_small : (bytes : List ℕ) (n : ℕ) (t : Tree) → WasOlder bytes n t → AllBelow 256 bytes
older_small bytes n t was = subst (AllBelow 256) was.spelt (older_filled n t).small

-- the count is the same in both, and fewer groups than leaves do not make up for the hours of the leaves
pub older_none : (bytes : List ℕ) (n : ℕ) (t : Tree) → WasOlder bytes n t → (m : ℕ) (s : Tree) (hours : List ℕ) → IsRecord bytes m s hours → ⊥
older_none bytes n t was m s hours r =
    let f = subst (Filled (bits 7 (n - 1) ++ older_bits t)) was.spelt (older_filled n t) in
    let g = subst (Filled (bits 7 (m - 1) ++ tree_bits hours s)) r.spelt (layout_filled m hours s) in
    let e = sym (count_read n (older_bits t) was.least was.most f) ∙ count_read m (tree_bits hours s) r.least r.most g in
    let same : n - 1 ≡ m - 1 = ap (λ (x : ℕ × List ℕ). x.0) (same_Some _ _ e) in
    omega (
      arith,
      same,
      was.least,
      r.least,
      filled_length f,
      f.few,
      filled_length g,
      length-append (bits 7 (n - 1)) (older_bits t),
      length-append (bits 7 (m - 1)) (tree_bits hours s),
      length_bits 7 (n - 1),
      length_bits 7 (m - 1),
      length_older t,
      length_tree_bits hours s,
      groups_lt t,
      length_leaves n t was.spans,
      length_leaves m s r.spans,
    )
