-- `parts::Parts::split`: part after part, until nothing is left.
use Prim.Native.Nat.{ℕ, ◌<◌}
use mathlib.Core.Path.{◌≡◌, sym, subst, ◌∙◌}
use mathlib.Core.List.{List}
use mathlib.Core.Bool.{true, false}
use native.Mathlib.Omega.{arith}
use Rattle.poset.specs.Lists.{exists, below}
use Rattle.relation.specs.Table.{has, holds}
use Rattle.writer.specs.Parts.{Jobs, StartsAt}
use Rattle.writer.proofs.Splitting.{split_end, split_next, left_falls, part_room}
use Rattle.writer.proofs.Numbering.{numbering_next}
use Rattle.writer.proofs.parts.Parts.split.Goals.{After-start_of-x}
use Rattle.writer.proofs.parts.Parts.split.Goals as goal

-- something is left
module _ (q : After-start_of-x) where
  starts : StartsAt (holds q.args.order.now.under.now) q.args.series q.loop-left.left q.start_of-x.result
  starts = q.start_of-x.ensures

  -- there is room for a part of it
  room : q.loop-left.count < 128
  room =
      let l = q.loop-left in
      let a = q.args in
      part_room (holds a.near.now) (holds a.order.now.under.now) a.series a.s l.left l.self.list l.count l.invariant.0
      (subst (λ (s : List ℕ). exists (has s) (below 128) ≡ true) q.left.view_is (sym q.inhabited.ensures ∙ q.loop-left-test.true))

pub offset_bounds-self-count : goal.offset_bounds-self-count
offset_bounds-self-count c = record { fits = omega (arith, room (goal.at.offset_bounds-self-count c).After-start_of-x) }

pub listed : goal.listed
listed c = omega (arith, room (goal.at.listed c).After-start_of-x, c.loop-left.invariant.0.size)

pub bounds-self-count : goal.bounds-self-count
bounds-self-count c = room (goal.at.bounds-self-count c).After-start_of-x

pub overflow_add-count : goal.overflow_add-count
overflow_add-count c = record { fits = omega (arith, room (goal.at.overflow_add-count c).After-start_of-x) }

pub loop-left-smaller : goal.loop-left-smaller
loop-left-smaller c =
    let q = (goal.at.loop-left-smaller c).After-start_of-x in
    let l = c.loop-left in
    let a = c.args in
    left_falls (holds a.near.now) (holds a.order.now.under.now) a.series a.s l.left l.self.list l.count l.invariant.0
    c.start_of-x.result c.part_of-part.result c.without-left.result (starts q) c.part_of-part.ensures.part_of c.without-left.ensures

pub loop-left-preserved : goal.loop-left-preserved
loop-left-preserved c =
    let q = (goal.at.loop-left-preserved c).After-start_of-x in
    let l = c.loop-left in
    let a = c.args in
    let near = holds a.near.now in
    let own = c.part_of-part.ensures in (
      split_next near (holds a.order.now.under.now) a.series a.s l.left l.self.list l.count l.invariant.0
          c.start_of-x.result c.part_of-part.result c.without-left.result (starts q) own.part_of c.without-left.ensures,
      numbering_next a.s a.self.now.numbers near l.left l.self.list l.count l.self.numbers c.part_of-part.new.numbers c.start_of-x.result
          c.part_of-part.result c.without-left.result l.invariant.1 l.invariant.0.size (room q) l.invariant.0.within own.part_of own.marked
          c.without-left.ensures,
    )

pub returns-clause-cut : goal.returns-clause-cut
returns-clause-cut c =
    let l = c.loop-left in
    record {
      size = l.invariant.0.size;
      few = omega (arith, l.invariant.0.room);
      these =
          split_end (holds c.args.near.now) (holds c.args.order.now.under.now) c.args.series c.args.s l.left l.self.list l.count l.invariant.0
          (subst Jobs c.left.view_is c.left.invariant.small)
          (subst (λ (s : List ℕ). exists (has s) (below 128) ≡ false) c.left.view_is (sym c.inhabited.ensures ∙ c.loop-left-test.false));
    }
