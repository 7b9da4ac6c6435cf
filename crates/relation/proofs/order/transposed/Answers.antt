-- `relation::order::transposed` meets its contract.
use borrow.Author.Rules.{rules}
use Rattle.relation.proofs.Exchanging.{turned_none, turned_step, turned_end, until_inside}
use Rattle.relation.proofs.order.transposed.Goals as goal

pub loop-e-init : goal.loop-e-init
loop-e-init c =
    let w = c.digits-w.result in
    turned_none c.args.t w (search rules) (until_inside c.args.n w c.args.t c.digits-w.ensures.1 c.requires.inside)

pub step-requires : goal.step-requires
step-requires c =
    let l = c.loop-e in record {
      e_lt_w = (search rules, c.digits-w.ensures.0, l.invariant.rows);
      until = l.invariant.empty;
    }

pub loop-e-preserved : goal.loop-e-preserved
loop-e-preserved c =
    let l = c.loop-e in
    turned_step c.args.t c.digits-w.result l.r l.e l.invariant _ (search rules) c.step.ensures.t_len c.step.ensures.by_index

pub returns : goal.returns
returns c =
    let l = c.loop-e in
    let a = c.args in
    turned_end a.t c.digits-w.result l.r l.e l.invariant a.n c.loop-e-test.false c.digits-w.ensures.1 c.requires.inside
