-- `closure::passes::spread` meets its contract.
use Prim.Native.Nat.{ℕ, ◌+◌, ◌/◌, ◌^◌}
use native.Mathlib.Omega.{arith}
use mathlib.Core.Path.{◌≡◌, ap, ◌∙◌}
use lib.Bits.{bit_and}
use lib.ListN.{get_or}
use Rattle.relation.specs.Table.{bit}
use Rattle.relation.proofs.Words.{bit_tested}
use Rattle.closure.proofs.Columns.{Grown, tally, worked_none, grown_next, grown_end, tally_none, tally_next, tally_small}
use borrow.Author.Rules.{rules}
use Rattle.closure.proofs.passes.spread.Goals as goal
use Rattle.closure.proofs.passes.spread.Goals.{In-loop-i}

pub loop-i-init : goal.loop-i-init
loop-i-init c =
    let g = c.args in
    let col = g.col.now in
    let other = g.other.now in (
      worked_none (Grown col g.at g.a col) col g.n c.requires.n_bound.2,
      worked_none (Grown col g.at g.b other) other g.n c.requires.n_bound.3,
      tally_none col g.at,
    )

-- one word more is counted
counts : (c : goal.In-loop-i)
    → c.loop-i.joins + bit_and (get_or c.loop-i.col c.loop-i.i 0 / 2 ^ c.args.at) 1 ≡ tally c.args.col.now c.args.at (c.loop-i.i + 1)
counts c =
    let l = c.loop-i in
    tally_next c.args.col.now c.args.at l.i l.joins l.invariant.2 _ (l.invariant.0.left l.i (omega arith))

pub overflow_add-joins : goal.overflow_add-joins
overflow_add-joins c =
    let l = c.loop-i in
    let g = c.args in
    omega (arith, counts (goal.at.overflow_add-joins c).In-loop-i, tally_small g.col.now g.at (l.i + 1))

pub loop-i-preserved : goal.loop-i-preserved
loop-i-preserved c =
    let l = c.loop-i in
    let g = c.args in
    let col = g.col.now in
    let m = c.mask-m in
    let tested = bit_tested _ g.at ∙ ap (λ (x : ℕ). bit x g.at) (l.invariant.0.left l.i (omega arith)) in (
      grown_next col g.at g.a col g.n l.col l.i l.invariant.0 (search rules) (search rules) m.result _ m.ensures tested,
      grown_next col g.at g.b g.other.now g.n l.other l.i l.invariant.1 (search rules) (search rules) m.result _ m.ensures tested,
      counts (goal.at.loop-i-preserved c).In-loop-i,
    )

pub returns : goal.returns
returns c =
    let l = c.loop-i in
    let g = c.args in
    let col = g.col.now in
    let e : l.i ≡ g.n = omega (arith, l.invariant.0.within) in record {
      col_len = (l.invariant.0.rows, l.invariant.1.rows);
      joins = grown_end col g.at g.a col g.n l.col l.i l.invariant.0 c.loop-i-test.false c.requires.by_index;
      joins_2 = grown_end col g.at g.b g.other.now g.n l.other l.i l.invariant.1 c.loop-i-test.false c.requires.by_index;
      value = l.invariant.2 ∙ ap (tally col g.at) e;
    }
