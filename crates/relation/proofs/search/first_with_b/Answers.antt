-- `relation::search::first_with_b` meets its contract.
use Prim.Native.Nat.{◌<◌}
use native.Mathlib.Omega.{arith}
use mathlib.Core.Path.{sym, ◌∙◌}
use Rattle.relation.specs.Table.{holds}
use Rattle.relation.proofs.Tables.{row_read}
use Rattle.relation.proofs.Sought.{apart_both, Sides, no_fourth, no_third, third_small, third_found}
use Rattle.relation.proofs.search.first_with_b.Goals.{Start, After-intersection-cs}
use Rattle.relation.proofs.search.first_with_b.Goals as goal

bounds : (c : goal.Start) → (c.args.a < 128) × (c.args.b < 128)
bounds c = let ab = apart_both _ _ _ _ c.requires.n_bound.1 in let l = c.requires.n_bound.0 in (omega arith, omega arith)

-- both sets are known
sides : (c : goal.After-intersection-cs)
    → Sides c.args.n (holds c.args.after.now) c.args.a c.args.b (holds c.args.free.now) c.intersection-cs.result c.intersection-ds.result
unfolding holds
sides c =
    let after = c.args.after.now in
    let ab = apart_both _ _ _ _ c.requires.n_bound.1 in
    let n_bound = c.requires.n_bound.0 in
    let first = row_read after c.args.a c.index-after-a.result (omega arith) in
    let second = row_read after c.args.b c.index-after-b-2.result (omega arith) in
    let after_b = row_read after c.args.b c.index-after-b.result (omega arith) in
    let free_a = row_read c.args.free.now c.args.a c.index-free-a.result (omega arith) in record {
      small = c.requires.n_bound.0;
      inside = c.requires.inside;
      apart_ab = c.requires.n_bound.1;
      frees = c.requires.by_index;
      above = rw (first, second) at c.intersection-cs.ensures;
      beside = rw (after_b, free_a) at c.intersection-ds.ensures;
    }

pub offset_bounds-after-b : goal.offset_bounds-after-b
offset_bounds-after-b c = omega (arith, bounds (goal.at.offset_bounds-after-b c).Start)

pub bounds-after-b : goal.bounds-after-b
bounds-after-b c = omega (arith, bounds (goal.at.bounds-after-b c).Start)

pub offset_bounds-free-a : goal.offset_bounds-free-a
offset_bounds-free-a c = omega (arith, bounds (goal.at.offset_bounds-free-a c).Start)

pub bounds-free-a : goal.bounds-free-a
bounds-free-a c = omega (arith, bounds (goal.at.bounds-free-a c).Start)

pub offset_bounds-after-a : goal.offset_bounds-after-a
offset_bounds-after-a c = omega (arith, bounds (goal.at.offset_bounds-after-a c).Start)

pub bounds-after-a : goal.bounds-after-a
bounds-after-a c = omega (arith, bounds (goal.at.bounds-after-a c).Start)

pub offset_bounds-after-b-2 : goal.offset_bounds-after-b-2
offset_bounds-after-b-2 c = omega (arith, bounds (goal.at.offset_bounds-after-b-2 c).Start)

pub bounds-after-b-2 : goal.bounds-after-b-2
bounds-after-b-2 c = omega (arith, bounds (goal.at.bounds-after-b-2 c).Start)

pub listed : goal.listed
listed c = omega (arith, bounds (goal.at.listed c).Start)

pub listed-2 : goal.listed-2
listed-2 c = omega (arith, bounds (goal.at.listed-2 c).Start)

pub listed-3 : goal.listed-3
listed-3 c = omega (arith, bounds (goal.at.listed-3 c).Start)

pub listed-4 : goal.listed-4
listed-4 c = omega (arith, bounds (goal.at.listed-4 c).Start)

pub returns-then-not-inhabited : goal.returns-then-not-inhabited
returns-then-not-inhabited c =
    no_fourth _ _ _ _ _ _ _ (sides (goal.at.returns-then-not-inhabited c).After-intersection-cs) (sym c.inhabited.ensures ∙ c.if-not-inhabited.true)

pub offset_bounds-free-c : goal.offset_bounds-free-c
offset_bounds-free-c c =
    omega (
      arith,
      third_small _ _ _ _ _ _ _ (sides (goal.at.offset_bounds-free-c c).After-intersection-cs) _ c.first_by_words.ensures _
          c.in_ok-c.was,
    )

pub bounds-free-c : goal.bounds-free-c
bounds-free-c c =
    third_small _ _ _ _ _ _ _ (sides (goal.at.bounds-free-c c).After-intersection-cs) _ c.first_by_words.ensures _ c.in_ok-c.was

pub listed-5 : goal.listed-5
listed-5 c =
    omega (
      arith,
      third_small _ _ _ _ _ _ _ (sides (goal.at.listed-5 c).After-intersection-cs) _ c.first_by_words.ensures _
          c.in_ok-c.was,
    )

pub returns : goal.returns
unfolding holds
returns c =
    let small =
    third_small _ _ _ _ _ _ _ (sides (goal.at.returns c).After-intersection-cs) _ c.first_by_words.ensures _ c.in_ok-c.was in
    let e = row_read c.args.free.now c.in_ok-c.c c.index-free-c.result (omega arith) in
    c.with_smallest.ensures
    ∙ third_found _ _ _ _ _ _ _ (sides (goal.at.returns c).After-intersection-cs) _ c.first_by_words.ensures _ c.in_ok-c.was _
    (rw e at c.intersection.ensures)

pub returns-in_err-c : goal.returns-in_err-c
returns-in_err-c c =
    c.from_residual.ensures
    ∙ no_third _ _ _ _ _ _ _ (sides (goal.at.returns-in_err-c c).After-intersection-cs) _ c.first_by_words.ensures c.in_err-c.was
