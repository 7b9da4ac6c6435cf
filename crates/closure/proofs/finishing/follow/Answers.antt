-- `closure::finishing::follow` meets its contract.
use Prim.Native.Nat.{ℕ, ◌-◌, ◌<◌}
use native.Mathlib.Omega.{arith}
use mathlib.Core.Path.{◌≡◌, refl, sym, ap, ◌∙◌}
use mathlib.Core.Bool.{Bool, ◌||◌}
use lib.Dec.{eqb}
use Rattle.poset.proofs.Laws.{clash}
use Rattle.relation.specs.Table.{has, holds}
use Rattle.relation.proofs.Tables.{has_blank, row_read}
use Rattle.closure.proofs.Search.{search_none, search_here, search_rows, search_at, search_depth, push_less}
use Rattle.closure.proofs.Search.{search_cycle, search_push, search_last, leave_less, search_less, search_made, search_pop}
use Rattle.closure.proofs.finishing.follow.Goals.{At-loop-more, After-union-more}
use Rattle.closure.proofs.finishing.follow.Goals as goal

pub loop-more-init : goal.loop-more-init
loop-more-init c =
    let g = c.args in
    search_none (holds g.t.now) g.made.now g.left.now g.joins.now g.stack.now _ g.root c.requires.made_len.0 c.requires.made_len.1 c.requires.root_value
    has_blank

at_row : (c : goal.At-loop-more) → c.loop-more.at < 128
at_row c = search_at c.requires.by_index c.loop-more.invariant

pub offset_bounds-t-at : goal.offset_bounds-t-at
offset_bounds-t-at c = omega (arith, at_row (goal.at.offset_bounds-t-at c).At-loop-more)

pub bounds-t-at : goal.bounds-t-at
bounds-t-at c = at_row (goal.at.bounds-t-at c).At-loop-more

pub only-requires : goal.only-requires
only-requires c = at_row (goal.at.only-requires c).At-loop-more

-- arcs lead on
more : (c : goal.After-union-more) (x : ℕ) → has c.union-more.result x ≡ (has c.loop-more.met x || eqb c.loop-more.at x)
more c x = c.union-more.ensures x ∙ ap (λ (b : Bool). has c.loop-more.met x || b) (c.only.ensures x)

pub returns-then-inhabited-2 : goal.returns-then-inhabited-2
unfolding holds
returns-then-inhabited-2 c =
    let v = c.loop-more.invariant in
    let row = row_read c.args.t.now c.loop-more.at c.index-t-at.result (omega (arith, at_row (goal.at.returns-then-inhabited-2 c).At-loop-more)) in
    record {
      made_len_2 = (v.size, v.way.size);
      cyclic = λ e. search_cycle c.requires.by_index v _ c.intersection-next.result (λ x. refl) (rw row at c.intersection-next.ensures) c.union-more.result
          (more (goal.at.returns-then-inhabited-2 c).After-union-more) c.intersection.result c.intersection.ensures
          (sym c.inhabited-then-inhabited.ensures ∙ c.if-inhabited-2.true);
      rows = λ e. absurd (clash e refl);
      left_in_bounds = λ e. absurd (clash e refl);
    }

pub overflow_cast-stack : goal.overflow_cast-stack
overflow_cast-stack c = omega (arith, at_row (goal.at.overflow_cast-stack c).At-loop-more)

pub bounds-stack-depth : goal.bounds-stack-depth
bounds-stack-depth c = search_depth c.requires.by_index c.loop-more.invariant

pub overflow_add-depth : goal.overflow_add-depth
overflow_add-depth c = omega (arith, search_depth c.requires.by_index c.loop-more.invariant)

pub largest-at-requires : goal.largest-at-requires
largest-at-requires c = sym c.inhabited.ensures ∙ c.if-inhabited.true

pub loop-more-smaller-then-inhabited : goal.loop-more-smaller-then-inhabited
loop-more-smaller-then-inhabited c = push_less c.requires.by_index c.loop-more.invariant

pub loop-more-preserved-then-inhabited : goal.loop-more-preserved-then-inhabited
unfolding holds
loop-more-preserved-then-inhabited c =
    let row = row_read c.args.t.now c.loop-more.at c.index-t-at.result (omega (arith, at_row (goal.at.loop-more-preserved-then-inhabited c).At-loop-more)) in
    search_push c.requires.by_index c.loop-more.invariant _ c.intersection-next.result (λ x. refl) (rw row at c.intersection-next.ensures) c.union-more.result
    (more (goal.at.loop-more-preserved-then-inhabited c).After-union-more) c.intersection.result c.intersection.ensures
    (sym c.inhabited-then-inhabited.ensures ∙ c.if-inhabited-2.false) c.largest-at.result c.largest-at.ensures

-- none does: the row is finished
pub finish-jobs-requires : goal.finish-jobs-requires
unfolding holds
finish-jobs-requires c =
    let v = c.loop-more.invariant in
    let start = c.requires.by_index in
    let row = row_read c.args.t.now c.loop-more.at c.index-t-at.result (omega (arith, at_row (goal.at.finish-jobs-requires c).At-loop-more)) in
    record {
      made_len = v.size;
      at_value = search_here start v;
      by_index = search_last start v _ c.intersection-next.result (λ x. refl) (rw row at c.intersection-next.ensures)
          (sym c.inhabited.ensures ∙ c.if-inhabited.false);
      by_index_2 = search_rows start v;
    }

pub returns-then-depth-eq0 : goal.returns-then-depth-eq0
returns-then-depth-eq0 c =
    let v = c.loop-more.invariant in
    let start = c.requires.by_index in
    let e = c.finish-jobs.ensures in
    record {
      made_len_2 = (e.made_len_2, v.way.size);
      cyclic = λ h. absurd (clash refl h);
      rows = λ h. search_made start v _ e.by_index_3 _ e.made_len_2 _ e.by_index_4;
      left_in_bounds = λ h. search_less start v _ e.by_index_3;
    }

pub bounds-stack-depth-else-inhabited : goal.bounds-stack-depth-else-inhabited
bounds-stack-depth-else-inhabited c = omega (arith, search_depth c.requires.by_index c.loop-more.invariant)

pub loop-more-smaller : goal.loop-more-smaller
loop-more-smaller c =
    leave_less c.requires.by_index c.loop-more.invariant _ c.finish-jobs.ensures.by_index_3 (c.loop-more.depth - 1) (omega arith)

pub loop-more-preserved : goal.loop-more-preserved
loop-more-preserved c =
    let e = c.finish-jobs.ensures in
    rw c.from-at.ensures
    (search_pop c.requires.by_index c.loop-more.invariant _ e.by_index_3 _ e.made_len_2 _ e.by_index_4 (c.loop-more.depth - 1) (omega arith))
