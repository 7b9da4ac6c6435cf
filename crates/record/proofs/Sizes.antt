-- How many leaves, groups and bits a tree has.
use Prim.Native.Nat.{ℕ, suc, ◌+◌, ◌*◌, ◌≤◌, ◌<◌}
use mathlib.Core.Path.{◌≡◌, refl, ap, ◌∙◌}
use mathlib.Core.List.{List, ◌++◌}
use mathlib.Core.Bool.{Bool, cond}
use native.Mathlib.Decide.{dec_lt}
use native.Mathlib.Omega.{arith}
use lib.ListN.{length, length-append}
use Rattle.poset.specs.Lists.{occurrences, sum, below}
use Rattle.poset.specs.Tree.{Kind, series, parallel, Tree, leaf, node, Forest, last, more, trees, leaves, forest_leaves, groups, forest_groups, Spans}
use Rattle.poset.specs.Inner.{Once}
use Rattle.poset.proofs.Laws.{lt_true, count_mem, below_mem, mem_below}
use Rattle.poset.proofs.Sums.{sum_gap, sum_agree, sum_const, length_below}
use Rattle.poset.proofs.Distinct.{sum_counts}
use Rattle.poset.proofs.Shape.{in_leaves, leaves_in}
use Rattle.poset.proofs.Meaning.{once_count, spans_holds, holds_spans}
use Rattle.record.specs.Bits.{AllBelow, bits}
use Rattle.record.specs.Layout.{hours_bits, leaf_bits, kind_bit, more_children, hours_of, tree_bits, forest_bits}
use Rattle.record.specs.Tokens.{Small}
use Rattle.record.proofs.Below.{below_cons, below_append, below_left, below_right}
use Rattle.record.proofs.Fields.{bits_below, length_bits}

-- as many leaves as jobs

-- how often the numbers below n stand in a list, all together
counted : (n : ℕ) (xs : List ℕ) → AllBelow n xs → sum (λ u. occurrences u xs) (below n) ≡ length xs
counted n xs h =
    omega (
      arith,
      sum_const 1 xs,
      sum_counts (λ u. 1) n xs h,
      sum_agree (λ u. occurrences u xs * 1) (λ u. occurrences u xs) (below n) (λ u m. omega arith),
    )

module _ (n : ℕ) (t : Tree) (s : Spans n t) where
  pub leaves_below : AllBelow n (leaves t)
  leaves_below x i = (spans_holds n t s).1.inside x (leaves_in t i)

  pub leaf_once : (u : ℕ) → u < n → occurrences u (leaves t) ≡ 1
  leaf_once u h = s u ∙ ap (λ (b : Bool). cond b 1 0) (lt_true u n h)

  -- a sum over the leaves is one over the jobs
  pub sum_leaves : (f : ℕ → ℕ) → sum f (leaves t) ≡ sum f (below n)
  sum_leaves f =
      sum_counts f n (leaves t) leaves_below
      ∙ sum_agree (λ u. occurrences u (leaves t) * f u) f (below n) (λ u m. rw (leaf_once u (mem_below n m)) (omega arith))

  pub length_leaves : length (leaves t) ≡ n
  length_leaves = omega (arith, sum_const 1 (leaves t), sum_leaves (λ u. 1), sum_const 1 (below n), length_below n)

-- where no job stands twice, as many leaves as jobs are all the jobs

all_counted : (n : ℕ) (xs : List ℕ) → ((u : ℕ) → occurrences u xs ≤ 1) → AllBelow n xs → length xs ≡ n → (u : ℕ) → u < n → 0 < occurrences u xs
all_counted n xs once low e u l =
    elim (dec_lt 0 (occurrences u xs)) [
      | yes some ↦ some
      | no none ↦
          absurd (omega (
            arith,
            counted n xs low,
            sum_gap (λ v. occurrences v xs) (λ v. 1) 1 (λ v m. once v) (below_mem l) (omega arith),
            sum_const 1 (below n),
            length_below n,
          ))
    ]

pub length_spans : (n : ℕ) (t : Tree) → Once t → AllBelow n (leaves t) → length (leaves t) ≡ n → Spans n t
length_spans n t o h e =
    holds_spans n t o (record {
      inside = λ u i. h u (in_leaves t i);
      outside = λ u l. leaves_in t (count_mem u (leaves t) (all_counted n (leaves t) (once_count t o) h e u l));
    })

pub trees_length : (f : Forest) → length (trees f) ≡ more_children f
unfolding trees more_children
trees_length (last t) = refl
trees_length (more t f) = ap suc (trees_length f)

-- fewer groups than leaves

mutual
  unfolding leaves groups more_children

  pub groups_lt : (t : Tree) → groups t < length (leaves t)
  groups_lt (leaf j) = omega arith
  groups_lt (node k t f) = omega (arith, groups_lt t, forest_groups_lem f, length-append (leaves t) (forest_leaves f))

  pub forest_groups_lem : (f : Forest) → (0 < more_children f) × (forest_groups f + more_children f ≤ length (forest_leaves f))
  forest_groups_lem (last t) = omega (arith, groups_lt t)
  forest_groups_lem (more t f) = omega (arith, groups_lt t, forest_groups_lem f, length-append (leaves t) (forest_leaves f))

-- `leaf_bits` a leaf, 9 a group

pub kind_below : (k : Kind) → kind_bit k < 2
unfolding kind_bit
kind_below series = omega arith
kind_below parallel = omega arith

module _ (hours : List ℕ) where
  mutual
    unfolding leaves groups tree_bits

    pub length_tree_bits : (t : Tree) → length (tree_bits hours t) ≡ leaf_bits * length (leaves t) + 9 * groups t
    length_tree_bits (leaf j) =
        omega (arith, length-append (bits 7 j) (bits hours_bits (hours_of hours j)), length_bits 7 j, length_bits hours_bits (hours_of hours j))
    length_tree_bits (node k t f) =
        omega (
          arith,
          length-append (bits 7 (more_children f)) (tree_bits hours t ++ forest_bits hours f),
          length_bits 7 (more_children f),
          length-append (tree_bits hours t) (forest_bits hours f),
          length-append (leaves t) (forest_leaves f),
          length_tree_bits t,
          length_forest_bits f,
        )

    length_forest_bits : (f : Forest) → length (forest_bits hours f) ≡ leaf_bits * length (forest_leaves f) + 9 * forest_groups f
    length_forest_bits (last t) = length_tree_bits t
    length_forest_bits (more t f) =
        omega (
          arith,
          length-append (tree_bits hours t) (forest_bits hours f),
          length-append (leaves t) (forest_leaves f),
          length_tree_bits t,
          length_forest_bits f,
        )

  mutual
    unfolding tree_bits

    pub tree_bits_below : (t : Tree) → AllBelow 2 (tree_bits hours t)
    tree_bits_below (leaf j) = below_cons (omega arith) (below_append (bits_below 7 j) (bits_below hours_bits (hours_of hours j)))
    tree_bits_below (node k t f) =
        below_cons (omega arith)
        (below_cons (kind_below k) (below_append (bits_below 7 (more_children f)) (below_append (tree_bits_below t) (forest_bits_below f))))

    forest_bits_below : (f : Forest) → AllBelow 2 (forest_bits hours f)
    forest_bits_below (last t) = tree_bits_below t
    forest_bits_below (more t f) = below_append (tree_bits_below t) (forest_bits_below f)

-- leaves that fit a record

pub small_left : (js ks : List ℕ) → Small (js ++ ks) → Small js
small_left js ks h = (below_left js ks h.0, omega (arith, h.1, length-append js ks))

pub small_right : (js ks : List ℕ) → Small (js ++ ks) → Small ks
small_right js ks h = (below_right js ks h.0, omega (arith, h.1, length-append js ks))

pub spans_small : (n : ℕ) (t : Tree) → n ≤ 128 → Spans n t → Small (leaves t)
spans_small n t l s = (λ x i. omega (arith, leaves_below n t s x i), omega (arith, length_leaves n t s))
