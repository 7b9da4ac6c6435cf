-- `relation::search::incomparabilities` meets its contract.
use borrow.Author.Rules.{rules}
use mathlib.Core.Path.{ap, ap₂, ◌∙◌}
use mathlib.Core.Bool.{◌||◌}
use Rattle.relation.specs.Table.{holds, apart}
use Rattle.relation.proofs.Tables.{row_read, filled_none, filled_next, filled_end}
use Rattle.relation.proofs.Sought.{apart_both, apart_row}
use Rattle.relation.proofs.search.incomparabilities.Goals as goal

pub loop-u-init : goal.loop-u-init
loop-u-init c = filled_none (apart c.args.n (holds c.args.after.now)) c.args.n

pub loop-u-preserved : goal.loop-u-preserved
unfolding holds
loop-u-preserved c =
    let l = c.loop-u in
    let r = holds c.args.after.now in
    let a = row_read c.args.after.now l.u c.index-after-u.result (search rules) in
    let b = row_read c.args.under.now l.u c.index-under-u.result (search rules) in
    filled_next (apart c.args.n r) c.args.n l.r l.u l.invariant (search rules) (search rules) c.difference.result
    (λ v.
    apart_row c.args.n r l.u v (search rules) _ _ _ (c.difference.ensures v) (c.all_below-all.ensures v)
    (c.union-near.ensures v
    ∙ ap₂ ◌||◌ (c.only.ensures v) (rw (a, b) at (c.union.ensures v) ∙ ap (λ b. r l.u v || b) (c.requires.by_index l.u v))))

pub returns : goal.returns
returns c =
    let l = c.loop-u in
    filled_end (apart c.args.n (holds c.args.after.now)) c.args.n l.r l.u l.invariant c.loop-u-test.false
    (λ u v e. (apart_both _ _ u v e).0)
