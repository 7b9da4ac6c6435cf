-- `closure::passes::split` meets its contract.
use mathlib.Core.Path.{◌∙◌}
use Rattle.relation.proofs.Tables.{row_read}
use Rattle.closure.proofs.Columns.{Word, worked_none, worked_next, columns_of}
use borrow.Author.Rules.{rules}
use Rattle.closure.proofs.passes.split.Goals as goal

pub loop-i-init : goal.loop-i-init
loop-i-init c =
    let a = c.args in
    let t = a.t.now in
    (worked_none (Word t 0) a.low.now a.n c.requires.n_bound.1, worked_none (Word t 1) a.high.now a.n c.requires.n_bound.2)

pub loop-i-preserved : goal.loop-i-preserved
loop-i-preserved c =
    let l = c.loop-i in
    let a = c.args in
    let t = a.t.now in
    let row = c.words.ensures ∙ row_read t l.i c.index-t-i.result (search rules) in (
      worked_next (Word t 0) a.low.now a.n l.low l.i l.invariant.0 (search rules) (search rules) _ (rw row),
      worked_next (Word t 1) a.high.now a.n l.high l.i l.invariant.1 (search rules) (search rules) _ (rw row),
    )

pub returns : goal.returns
returns c =
    let l = c.loop-i in
    let a = c.args in record {
      low_len = (l.invariant.0.rows, l.invariant.1.rows);
      by_index_2 = columns_of a.t.now a.n l.i a.low.now a.high.now l.low l.high l.invariant.0 l.invariant.1 c.loop-i-test.false c.requires.n_bound.0
          c.requires.inside c.requires.by_index;
    }
