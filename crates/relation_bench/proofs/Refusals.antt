-- What is known once arcs are not refused, and what is given where they are.
use Prim.Native.Nat.{ℕ, ◌*◌, ◌/◌, ◌≤◌, ◌<◌}
use native.Mathlib.Omega.{arith}
use mathlib.Core.Path.{◌≡◌, refl, ap, fun_ext, ◌∙◌}
use mathlib.Core.List.{List, [], flat_map}
use mathlib.Core.Bool.{true, false}
use Rattle.std.specs.Prelude.{Option, None, Some, is_none}
use lib.Dec.{leb}
use lib.ListN.{length}
use borrow.Author.Tests.{leb-true, le-leb, lt-leb}
use Rattle.poset.specs.Order.{Arc, Within, Strict, arc, before, covers, pairs_of, reduction, first_n_of}
use Rattle.poset.specs.Areas.{overlay, arc_bytes}
use Rattle.poset.proofs.Laws.{clash, and_left, and_right}
use Rattle.poset.proofs.Closure.{before_is_strict}
use Rattle.relation.specs.Table.{holds, Inside}
use Rattle.relation.specs.Arcs.{place, outside}
use Rattle.relation.proofs.Chain.{outside_none, table_arcs, table_inside}
use Rattle.closure.specs.Joins.{pass_joins, join_count}
use Rattle.relation_bench.specs.Steps.{fits, acyclic, joins_of, pass_joins_of, reduced_arcs, packed, packed_n}

nothing_none : (o : Option ℕ) → is_none o ≡ true → o ≡ None
nothing_none None h = refl
nothing_none (Some i) h = absurd (clash h refl)

-- nothing is written
pub no_arcs : (area : List ℕ) {arcs : List Arc} → arcs ≡ [] → (0 ≡ length arcs) × (area ≡ overlay (arc_bytes arcs) area)
unfolding overlay arc_bytes flat_map
no_arcs area h = rw h (refl, refl)

module _ (n : ℕ) (arcs : List Arc) where
  pub fits_within : fits n arcs ≡ true → (n ≤ 128) × Within n arcs
  unfolding fits
  fits_within h =
      let free = is_none (place (outside n) arcs) in
      (leb-true n 128 (and_right free (leb n 128) h), outside_none n arcs (nothing_none _ (and_left free (leb n 128) h)))

  pub acyclic_strict : acyclic n (before n arcs) ≡ true → Strict n (before n arcs)
  unfolding acyclic
  acyclic_strict h = before_is_strict n arcs (nothing_none _ h)

  pub packed_unfit : fits n arcs ≡ false → 4294967296 ≡ packed_n n arcs
  unfolding packed_n packed
  packed_unfit f = rw f

  pub packed_fit : fits n arcs ≡ true → packed (first_n_of n (before n arcs)) ≡ packed_n n arcs
  unfolding packed_n
  packed_fit f = rw f

  pub joins_unfit : fits n arcs ≡ false → 0 ≡ joins_of n arcs
  unfolding joins_of
  joins_unfit f = rw (joins_of, f)

  pub passes_unfit : fits n arcs ≡ false → 0 ≡ pass_joins_of n arcs
  unfolding pass_joins_of
  passes_unfit f = rw (pass_joins_of, f)

  -- the table of arcs that fit
  module _ (f : fits n arcs ≡ true) (t : List (List ℕ)) (table : (u v : ℕ) → holds t u v ≡ arc arcs u v) where
    pub fits_inside : (n ≤ 128) × Inside n t
    fits_inside = let w = fits_within f in (w.0, table_inside n arcs t table w.1)

    pub joins_fit : join_count n (holds t) ≡ joins_of n arcs
    unfolding joins_of
    joins_fit = ap (join_count n) (table_arcs n arcs t table) ∙ rw (joins_of, f)

    pub passes_fit : pass_joins n (holds t) ≡ pass_joins_of n arcs
    unfolding pass_joins_of
    passes_fit = ap (pass_joins n) (table_arcs n arcs t table) ∙ rw (pass_joins_of, f)

  -- the pairs of a reduced table
  pub covers_reduction
      : (c r : List (List ℕ)) → holds c ≡ before n arcs → ((u v : ℕ) → holds r u v ≡ covers n (holds c) u v)
      → pairs_of n (holds r) ≡ reduction n (before n arcs)
  unfolding reduction
  covers_reduction c r e h = ap (pairs_of n) (fun_ext (λ u. fun_ext (h u)) ∙ ap (covers n) e)

  module _ (room : ℕ) where
    pub reduced_unfit : fits n arcs ≡ false → reduced_arcs room n arcs ≡ []
    unfolding reduced_arcs
    reduced_unfit f = rw (f, reduced_arcs)

    module _ (f : fits n arcs ≡ true) where
      pub reduced_cyclic : acyclic n (before n arcs) ≡ false → reduced_arcs room n arcs ≡ []
      unfolding reduced_arcs
      reduced_cyclic a = rw (f, a, reduced_arcs)

      module _ (a : acyclic n (before n arcs) ≡ true) where
        pub reduced_crowded : room / 2 < length (reduction n (before n arcs)) → reduced_arcs room n arcs ≡ []
        unfolding reduced_arcs
        reduced_crowded l = rw (f, a, lt-leb (2 * length (reduction n (before n arcs))) room (omega arith), reduced_arcs)

        pub reduced_given : length (reduction n (before n arcs)) ≤ room / 2 → reduction n (before n arcs) ≡ reduced_arcs room n arcs
        unfolding reduced_arcs
        reduced_given l = rw (f, a, le-leb (2 * length (reduction n (before n arcs))) room (omega arith), reduced_arcs)
