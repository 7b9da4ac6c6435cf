-- What is promised of the count of joins that transitive_closure hands back (document 02, A.4), of arcs that name jobs below n alone.
use Prim.Native.Nat.{ℕ, ◌<◌}
use mathlib.Core.Path.{◌≡◌, refl, ap, ◌∙◌}
use mathlib.Core.List.{List, [], ◌∷◌, flat_map}
use mathlib.Core.Bool.{true}
use lib.ListN.{length}
use Rattle.poset.specs.Lists.{exists, keep, below, up_from, first, only_if}
use Rattle.poset.specs.Order.{Arc, Run, Within, arc, via, before, first_on_cycle_of, pairs_of}
use Rattle.poset.proofs.Laws.{false_unless}
use Rattle.poset.proofs.Closure.{arc_mem, before_is_run}
use Rattle.poset.proofs.Searches.{first_on_cycle_none}
use Rattle.relation.specs.Arcs.{pairs}
use Rattle.relation.specs.Table.{holds}
use Rattle.relation.proofs.Chain.{table_arcs, via_inside}
use Rattle.closure.specs.Joins.{joins_at, pass_joins, join_count, distinct}
use Rattle.closure.proofs.Arcs.{pairs_are_distinct}
use Rattle.closure.proofs.Onward.{count_acyclic, count_cyclic}

module _ (n : ℕ) (arcs : List Arc) (within : Within n arcs) where
  -- without a circle it is the number of different orders: one that is written twice counts once
  pub joins_are_arcs : ((u : ℕ) → Run arcs u u → ⊥) → join_count n (arc arcs) ≡ length (distinct arcs)
  unfolding before
  joins_are_arcs acyclic =
      count_acyclic n (arc arcs)
      ((first_on_cycle_none n (before n arcs)).1 (λ u l. false_unless _ (λ e. acyclic u ((before_is_run n arcs within u u).0 e))))
      ∙ pairs_are_distinct n arcs within

  -- with a circle, the number of joins of Warshall's passes
  pub joins_are_passes : (u : ℕ) → Run arcs u u → join_count n (arc arcs) ≡ pass_joins n (arc arcs)
  unfolding before
  joins_are_passes u run =
      let e = (before_is_run n arcs within u u).1 run in
      let inside : (x y : ℕ) → arc arcs x y ≡ true → (x < n) × (y < n) = λ x y h. within (x, y) ((arc_mem arcs x y).0 h) in
      count_cyclic n (arc arcs) (u, (via_inside n (arc arcs) inside n u u e).0, e)

-- the same of the call: t is the table that table_of makes of a list, and joins the count that transitive_closure hands back for it, each by
-- the promise of that function
module _ (n : ℕ) (list : List ℕ) (within : Within n (pairs list)) (t : List (List ℕ)) (table : (u v : ℕ) → holds t u v ≡ arc (pairs list) u v)
    (joins : ℕ) (counted : joins ≡ join_count n (holds t))
  where
    of_arcs : joins ≡ join_count n (arc (pairs list))
    of_arcs = counted ∙ ap (join_count n) (table_arcs n (pairs list) t table)

    -- without a circle exactly the number of different orders
    pub call_joins_are_arcs : ((u : ℕ) → Run (pairs list) u u → ⊥) → joins ≡ length (distinct (pairs list))
    call_joins_are_arcs acyclic = of_arcs ∙ joins_are_arcs n (pairs list) within acyclic

    -- with one the joins of the passes
    pub call_joins_are_passes : (u : ℕ) → Run (pairs list) u u → joins ≡ pass_joins n (arc (pairs list))
    call_joins_are_passes u run = of_arcs ∙ joins_are_passes n (pairs list) within u run

-- the count of small lists: a series with an order written twice, three orders of which the last follows from the others, and a circle with a
-- job before it
pub examples
    : (join_count 3 (arc ((0, 1) ∷ (1, 2) ∷ (0, 1) ∷ [])) ≡ 2) × (join_count 3 (arc ((2, 1) ∷ (1, 0) ∷ (2, 0) ∷ [])) ≡ 3)
    × (join_count 3 (arc ((0, 1) ∷ (1, 2) ∷ (2, 1) ∷ [])) ≡ 5)
unfolding join_count pass_joins joins_at via arc first_on_cycle_of pairs_of exists keep below up_from first only_if flat_map
examples = (refl, refl, refl)
