-- `closure::finishing::joined` meets its contract.
use native.Mathlib.Omega.{arith}
use Rattle.relation.proofs.Sets.{low_count, halves_count}
use Rattle.closure.proofs.Joining.{halves_join}
use Rattle.closure.proofs.finishing.joined.Goals as goal

pub join_each-part-requires : goal.join_each-part-requires
join_each-part-requires c =
    omega (arith, low_count c.args.row c.low.result c.low.ensures, c.requires)

pub join_each-requires : goal.join_each-requires
join_each-requires c =
    omega (
      arith,
      halves_count c.args.row c.low.result c.low.ensures c.high.result c.high.ensures,
      c.join_each-part.ensures.joins_after,
      c.requires,
    )

pub returns : goal.returns
returns c =
    let a = c.args in record {
      by_index = halves_join a.row c.low.result c.low.ensures c.high.result c.high.ensures a.rows.now c.join_each-part.result c.join_each.result
          c.join_each-part.ensures.by_index c.join_each.ensures.by_index;
      joins_after = omega (
        arith,
        halves_count a.row c.low.result c.low.ensures c.high.result c.high.ensures,
        c.join_each-part.ensures.joins_after,
        c.join_each.ensures.joins_after,
      );
    }
