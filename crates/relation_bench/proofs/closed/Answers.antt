-- `relation_bench::closed` meets its contract.
use native.Mathlib.Omega.{arith}
use Rattle.relation.specs.Arcs.{pairs}
use Rattle.relation.proofs.Chain.{table_inside, closure_before, closure_inside}
use Rattle.relation_bench.proofs.closed.Goals as goal

pub table_of-requires : goal.table_of-requires
table_of-requires c = λ a m. let w = c.requires.within a m in omega (arith, w, c.requires.n_bound)

pub transitive_closure-requires : goal.transitive_closure-requires
transitive_closure-requires c =
    record {
      n_bound = c.requires.n_bound;
      inside = table_inside c.args.n (pairs c.args.arcs.now) c.table_of.result c.table_of.ensures c.requires.within;
    }

pub returns : goal.returns
returns c =
    let n = c.args.n in
    let arcs = pairs c.args.arcs.now in
    let inside = table_inside n arcs c.table_of.result c.table_of.ensures c.requires.within in
    let e = c.transitive_closure.ensures.by_index in record {
      result_value = closure_before n arcs c.table_of.result c.table_of.ensures c.transitive_closure.result e;
      inside = closure_inside n c.table_of.result c.transitive_closure.result n inside e;
    }
