-- The order that the two sequences of a tree give is that of the tree.
use Prim.Native.Nat.{ℕ, ◌-◌, ◌≤◌}
use mathlib.Core.Path.{◌≡◌, refl, sym, ap, ap₂, subst, fun_ext, ◌∙◌}
use mathlib.Core.List.{List}
use mathlib.Core.Bool.{true, ◌&&◌}
use native.Mathlib.Omega.{arith}
use lib.ListN.{length, take, replicate, length-append, length-replicate}
use lib.Seq.{take_at}
use Rattle.poset.specs.Areas.{padded}
use Rattle.poset.specs.Lists.{occurrences, ahead_in}
use Rattle.poset.specs.Order.{Rel, Strict}
use Rattle.poset.specs.Tree.{Tree, leaves, reversed, precedes, Spans, Means}
use Rattle.poset.proofs.Laws.{same_test, and_left, and_right, and_intro}
use Rattle.poset.proofs.Ahead.{ahead_mem}
use Rattle.poset.proofs.Shape.{precedes_in}
use Rattle.poset.proofs.Meaning.{once_count, spans_holds}
use Rattle.poset.proofs.Realizer.{reversed_count}
use Rattle.poset.proofs.Theorems.{realizer, tree_is_strict}
use Rattle.relation.specs.Table.{holds, Inside}
use Rattle.record.specs.Bits.{AllBelow}
use Rattle.record.proofs.Sizes.{leaves_below, length_leaves}
use Rattle.reader.proofs.Sequences.{length_reversed}
use Rattle.reader.proofs.Later.{ahead_first}

padded_length : (xs : List ℕ) → length xs ≤ 128 → length (padded xs) ≡ 128
padded_length xs l = omega (arith, length-append xs (replicate (128 - length xs) 0), length-replicate {A = ℕ} (128 - length xs) 0)

module _ (n : ℕ) (t : Tree) (spans : Spans n t) where
  means : Means n t (precedes t)
  means = record { spans = spans; agrees = λ u v _ _. refl }

  both_ahead : (u v : ℕ) → (ahead_in u v (leaves t) && ahead_in u v (reversed t)) ≡ precedes t u v
  both_ahead u v = same_test _ _ forth back
    where
      forth : (ahead_in u v (leaves t) && ahead_in u v (reversed t)) ≡ true → precedes t u v ≡ true
      forth h =
          let one = and_left (ahead_in u v (leaves t)) _ h in
          (realizer n (precedes t) t means u v
          (leaves_below n t spans u (ahead_first u v (leaves t) one)) (leaves_below n t spans v (ahead_mem u v (leaves t) one))).1
          (one, and_right (ahead_in u v (leaves t)) _ h)

      back : precedes t u v ≡ true → (ahead_in u v (leaves t) && ahead_in u v (reversed t)) ≡ true
      back h =
          let (p, q) = precedes_in t u v h in
          let inside = (spans_holds n t spans).1.inside in
          let both = (realizer n (precedes t) t means u v (inside u p) (inside v q)).0 h in
          and_intro (ahead_in u v (leaves t)) _ both.0 both.1

  module _ (forward reverse : List ℕ) (forth : forward ≡ padded (leaves t)) (back : reverse ≡ padded (reversed t)) where
    first_forward : take n forward ≡ leaves t
    first_forward = ap (take n) forth ∙ take_at (leaves t) _ n (length_leaves n t spans)

    first_reverse : take n reverse ≡ reversed t
    first_reverse = ap (take n) back ∙ take_at (reversed t) _ n (length_reversed t ∙ length_leaves n t spans)

    -- so they are such as `order_of` asks for
    pub order_ready : n ≤ 128 → ((n ≤ 128) × (length forward ≡ 128) × (length reverse ≡ 128))
        × (AllBelow 128 (take n forward) × ((u : ℕ) → occurrences u (take n forward) ≤ 1)
        × ((u : ℕ) → occurrences u (take n reverse) ≡ occurrences u (take n forward)))
    order_ready few = (
      (
        few,
        ap length forth ∙ padded_length (leaves t) (omega (arith, length_leaves n t spans)),
        ap length back ∙ padded_length (reversed t) (omega (arith, length_reversed t, length_leaves n t spans)),
      ),
      (
        subst (AllBelow 128) (sym first_forward) (λ u m. omega (arith, leaves_below n t spans u m)),
        λ u. subst (λ (l : List ℕ). occurrences u l ≤ 1) (sym first_forward) (once_count t (spans_holds n t spans).0 u),
        λ u. ap (occurrences u) first_reverse ∙ reversed_count t u ∙ ap (occurrences u) (sym first_forward),
      ),
    )

    module _ (table : List (List ℕ)) (held : (u v : ℕ) → holds table u v ≡ (ahead_in u v (take n forward) && ahead_in u v (take n reverse))) where
      pub order_precedes : holds table ≡ precedes t
      order_precedes =
          fun_ext λ u. fun_ext λ v.
          held u v ∙ ap₂ (λ (a b : List ℕ). ahead_in u v a && ahead_in u v b) first_forward first_reverse ∙ both_ahead u v

      pub order_inside : Inside n table
      order_inside u v e =
          let (p, q) = precedes_in t u v (sym (ap (λ (r : Rel). r u v) order_precedes) ∙ e) in
          ((spans_holds n t spans).1.inside u p, (spans_holds n t spans).1.inside v q)

      pub order_strict : Strict n (holds table)
      order_strict = subst (Strict n) (sym order_precedes) (tree_is_strict n (precedes t) t means)
