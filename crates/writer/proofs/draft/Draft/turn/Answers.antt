-- `draft::Draft::turn`: by the size of the set, and by its parts.
use mathlib.Core.Path.{sym, ap, ◌∙◌}
use native.Mathlib.Omega.{arith}
use Rattle.relation.specs.Table.{holds}
use Rattle.writer.specs.Parts.{size_of}
use Rattle.writer.specs.Turns.{PartedAs, put, opens, stays}
use Rattle.writer.proofs.Turning.{spread_room}
use Rattle.writer.proofs.draft.Draft.turn.Goals.{After-split_as-count}
use Rattle.writer.proofs.draft.Draft.turn.Goals as goal

-- the set is taken apart
abbrev apart : (q : After-split_as-count) → PartedAs (holds q.args.order.now.tied.now) (holds q.args.order.now.free.now) (holds q.args.order.now.under.now) q.args.e
apart q = record { parts = _; count = _; numbers = _; numbers' = _; taken = q.split_as-count.ensures }

pub put_leaf-requires : goal.put_leaf-requires
put_leaf-requires c =
    record { room = c.requires; one = ap size_of (sym c.set.view_is) ∙ sym c.set.invariant.counted ∙ c.if-set-eq1.true }

pub open-requires : goal.open-requires
open-requires c =
    let r = c.requires in
    spread_room _ _ (record { some = r.some; level = r.level; fits = r.fits; few_fields = r.few_fields; few_groups = r.few_groups; few_jobs = r.few_jobs })
    c.split_as-count.ensures (omega (arith, c.if-count-lt2.false))

pub returns-then-set-eq1 : goal.returns-then-set-eq1
returns-then-set-eq1 c = put c.put_leaf.result c.put_leaf.ensures

pub returns-then-count-lt2 : goal.returns-then-count-lt2
returns-then-count-lt2 c =
    stays (apart (goal.at.returns-then-count-lt2 c).After-split_as-count) c.if-count-lt2.true
    (λ e. c.if-set-eq1.false (c.set.invariant.counted ∙ ap size_of c.set.view_is ∙ e))

pub returns : goal.returns
returns c =
    let g = c.open.ensures in
    opens c.open.result (apart (goal.at.returns c).After-split_as-count) (omega (arith, c.if-count-lt2.false))
    (record { these = g.these; field = g.field; no_job = g.no_job })
