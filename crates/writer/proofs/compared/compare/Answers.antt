-- `compared::compare`: row by row, both tables at once.
use mathlib.Core.Path.{ap₂, ◌∙◌}
use mathlib.Core.Bool.{◌&&◌, not, and_assoc}
use native.Mathlib.Omega.{arith}
use lib.Dec.{eqb, ltb}
use Rattle.relation.specs.Table.{holds}
use Rattle.relation.proofs.Tables.{row_read}
use Rattle.writer.proofs.Rows.{filled_none, filled_next}
use Rattle.writer.proofs.compared.compare.Invariants.{either, neither}
use Rattle.writer.proofs.compared.compare.Goals as goal

pub loop-u-init : goal.loop-u-init
loop-u-init c =
    let after = c.args.after.now in
    let under = c.args.under.now in
    (filled_none (either after under) _ c.told-tied, filled_none (neither after under c.args.n) _ c.told-free)

pub loop-u-preserved : goal.loop-u-preserved
unfolding holds
loop-u-preserved c =
    let after = c.args.after.now in
    let under = c.args.under.now in
    let n = c.args.n in
    let u = c.loop-u.u in
    let one = row_read after u c.index-after-u.result (omega arith) in
    let other = row_read under u c.index-under-u.result (omega arith) in
    let near = rw (one, other) at c.union-near.ensures in (
      filled_next (either after under) c.loop-u.tied u c.union-near.result (omega arith) near c.loop-u.invariant.0,
      filled_next (neither after under n) c.loop-u.free u c.difference.result (omega arith)
          (λ v.
          c.difference.ensures v
          ∙ ap₂ (λ a b. a && not b)
          (c.difference-others.ensures v ∙ ap₂ (λ a b. a && not b) (c.all_below-all.ensures v) (c.only.ensures v))
          (near v)
          ∙ and_assoc (ltb v n) (not (eqb u v)) (not (either after under u v)))
          c.loop-u.invariant.1,
    )

pub returns : goal.returns
returns c =
    let i = c.loop-u.invariant in record {
      by_index = (λ u v l. i.0.rows u v (omega arith));
      by_index_2 = λ u v l. i.1.rows u v (omega arith);
    }
