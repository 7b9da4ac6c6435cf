-- `closure::passes::passed` meets its contract.
use borrow.Author.Rules.{rules}
use Prim.Native.Nat.{ℕ, ◌<◌}
use native.Mathlib.Omega.{arith}
use mathlib.Core.Path.{◌≡◌, sym, ◌∙◌}
use mathlib.Core.Bool.{true}
use Rattle.poset.proofs.Laws.{any_hit, below_mem}
use Rattle.relation.specs.Table.{has, holds}
use Rattle.closure.specs.Columns.{columns}
use Rattle.closure.proofs.Columns.{zeros}
use Rattle.closure.proofs.Warshall.{closed_none, closed_inside, closed_small, closed_next, closed_skip, closed_end, joins_small, joins_end}
use Rattle.closure.proofs.passes.passed.Goals as goal
use Rattle.closure.proofs.passes.passed.Goals.{After-split, then-contains, else-contains}

pub split-requires : goal.split-requires
split-requires c = record {
  n_bound = (search rules, search rules, search rules);
  inside = c.requires.inside;
  by_index = λ u. (zeros 128 u, zeros 128 u);
}

pub loop-k-init : goal.loop-k-init
loop-k-init c = closed_none _ _ _ c.split.ensures.low_len

-- what the columns hold is inside, as it is what the table holds
inside : (d : goal.After-split) (u v : ℕ) → columns d.split.new.low d.split.new.high u v ≡ true → (u < d.args.n) × (v < d.args.n)
inside d u v e = d.requires.inside u v (sym (d.split.ensures.by_index_2 u v) ∙ e)

pub pass-count-requires : goal.pass-count-requires
pass-count-requires c =
    let l = c.loop-k in record {
      n_bound = (search rules, search rules, l.invariant.rows.0, l.invariant.rows.1);
      by_index = closed_inside _ _ l.low l.high l.count l.k l.invariant (inside (goal.at.pass-count-requires c).After-split);
    }

pub overflow_add-count : goal.overflow_add-count
overflow_add-count c =
    let l = c.loop-k in
    let n = c.args.n in
    omega (
      arith,
      closed_small _ n l.low l.high l.count l.k l.invariant (search rules),
      c.pass-count.ensures.value,
      joins_small n (columns l.low l.high) l.k,
    )

pub loop-k-preserved : goal.loop-k-preserved
loop-k-preserved c =
    let l = c.loop-k in
    let n = c.args.n in
    let r = columns c.split.new.low c.split.new.high in
    elim c.if-contains.branch [
      | then-contains w ↦
          let e = w.pass-count.ensures in
          rw (w.low-is, w.high-is, w.count-is)
          (closed_next r n l.low l.high l.count l.k l.invariant (search rules) _ _ e.low_len e.by_index_2 _ e.value)
      | else-contains w ↦
          -- what the columns reach is in the range
          let reached : (u v : ℕ) → columns c.split.new.low c.split.new.high u v ≡ true → has c.range-reached.result v ≡ true =
          λ u v e. c.range-reached.ensures v
          ∙ any_hit (λ x. holds c.args.t.now x v) (below_mem (inside (goal.at.loop-k-preserved c).After-split u v e).0)
          (sym (c.split.ensures.by_index_2 u v) ∙ e) in
          rw (w.low-is, w.high-is, w.count-is)
          (closed_skip r n l.low l.high l.count l.k l.invariant _ reached (search rules)
          (sym c.contains.ensures ∙ w.if-contains.false))
    ]

pub table-requires : goal.table-requires
table-requires c =
    let l = c.loop-k in
    let inside = closed_inside _ _ l.low l.high l.count l.k l.invariant (inside (goal.at.table-requires c).After-split) in record {
      n_bound = search rules;
      by_index = λ u v e. (inside u v e).0;
    }

pub returns : goal.returns
returns c =
    let l = c.loop-k in
    let t = c.args.t.now in
    let same = c.split.ensures.by_index_2 in record {
      by_index = λ u v. c.table.ensures u v ∙ closed_end _ _ l.low l.high l.count l.k l.invariant c.loop-k-test.false t same u v;
      joins_after = joins_end _ _ l.low l.high l.count l.k l.invariant c.loop-k-test.false t same;
    }
