-- `closure::passes::table` meets its contract.
use Rattle.closure.specs.Columns.{columns}
use Rattle.relation.proofs.Tables.{filled_none, filled_next, filled_end}
use borrow.Author.Rules.{rules}
use Rattle.closure.proofs.passes.table.Goals as goal

pub loop-i-init : goal.loop-i-init
loop-i-init c = filled_none (columns c.args.low.now c.args.high.now) c.args.n

pub loop-i-preserved : goal.loop-i-preserved
unfolding columns
loop-i-preserved c =
    let l = c.loop-i in
    filled_next (columns c.args.low.now c.args.high.now) c.args.n l.r l.i l.invariant (search rules) (search rules) _ (λ v. rw c.from_words.ensures)

pub returns : goal.returns
returns c =
    let l = c.loop-i in
    filled_end (columns c.args.low.now c.args.high.now) c.args.n l.r l.i l.invariant c.loop-i-test.false c.requires.by_index
