-- `reading::of_bytes` meets its contract: the tree that was decoded gives the order, and the room decides between 10 and acceptance.
use native.Mathlib.Omega.{arith}
use Rattle.poset.specs.Order.{Strict}
use Rattle.relation.specs.Table.{holds, Inside}
use Rattle.relation.proofs.Chain.{reduced_inside}
use Rattle.reader.proofs.Whole.{slice_below}
use Rattle.analysis.proofs.Taking.{count_few}
use Rattle.analysis.proofs.Decoded.{Decoded, decoded, gives_11, ready, after_inside, after_strict, back_10, back_0}
use Rattle.analysis.proofs.reading.of_bytes.Goals.{In-Some, After-order_of-after}
use Rattle.analysis.proofs.reading.of_bytes.Goals as goal

-- the tree of the bytes, where they are a record
read_tree_lem : (c : goal.In-Some) → Decoded c.args.bytes.now c.in-Some.read
read_tree_lem c =
    decoded _ _ (slice_below _ c.type_inv.bytes) c.in-Some.ensures

-- the order of the two sequences
module _ (c : goal.After-order_of-after) (d : Decoded c.args.bytes.now c.in-Some.read) where
  order_inside : Inside c.in-Some.read.count c.order_of-after.result
  order_inside = after_inside _ _ d c.order_of-after.result c.order_of-after.ensures

  order_strict : Strict c.in-Some.read.count (holds c.order_of-after.result)
  order_strict = after_strict _ _ d c.order_of-after.result c.order_of-after.ensures

pub returns-in_default : goal.returns-in_default
returns-in_default c = gives_11 c.args.bytes.now c.args.area.now c.in_default.ensures

pub order_of-after-requires : goal.order_of-after-requires
order_of-after-requires c =
    let e = ready _ _ (read_tree_lem (goal.at.order_of-after-requires c).In-Some) in
    record { n_bound = e.0; all_below = e.1 }

pub reduced-reduced-requires : goal.reduced-reduced-requires
reduced-reduced-requires c =
    let p = goal.at.reduced-reduced-requires c in
    let d = read_tree_lem p.In-Some in
    record {
      n_bound = d.spells.most;
      strict = order_strict p.After-order_of-after d;
      inside = order_inside p.After-order_of-after d;
    }

pub pair_count-count-requires : goal.pair_count-count-requires
pair_count-count-requires c =
    let p = goal.at.pair_count-count-requires c in
    let d = read_tree_lem p.In-Some in
    record {
      n_bound = d.spells.most;
      inside = reduced_inside _ _ c.reduced-reduced.result (order_inside p.After-order_of-after d) c.reduced-reduced.ensures;
    }

pub overflow_mul-count : goal.overflow_mul-count
overflow_mul-count c =
    let red = c.reduced-reduced in
    let p = goal.at.overflow_mul-count c in
    let d = read_tree_lem p.In-Some in
    record {
      fits = omega (
        arith,
        count_few _ _ red.result c.pair_count-count.result d.spells.most (order_strict p.After-order_of-after d) red.ensures
            c.pair_count-count.ensures,
      );
    }

pub returns-then-area-count : goal.returns-then-area-count
returns-then-area-count c =
    let a = c.args in
    let red = c.reduced-reduced in
    back_10 a.bytes.now _ (read_tree_lem (goal.at.returns-then-area-count c).In-Some) c.order_of-after.result c.order_of-after.ensures
    red.result red.ensures c.pair_count-count.result c.pair_count-count.ensures a.area.now c.if-area-count.true

pub write_pairs-requires : goal.write_pairs-requires
write_pairs-requires c =
    let red = c.reduced-reduced in
    let p = goal.at.write_pairs-requires c in
    let d = read_tree_lem p.In-Some in
    record {
      n_bound = d.spells.most;
      inside = reduced_inside _ _ red.result (order_inside p.After-order_of-after d) red.ensures;
      t_in_bounds = omega (arith, c.pair_count-count.ensures, c.if-area-count.false);
    }

pub returns : goal.returns
returns c =
    let a = c.args in
    let red = c.reduced-reduced in
    back_0 a.bytes.now _ (read_tree_lem (goal.at.returns c).In-Some) c.order_of-after.result c.order_of-after.ensures red.result
    red.ensures c.pair_count-count.result c.pair_count-count.ensures a.area.now c.if-area-count.false _ c.write_pairs.ensures
