-- `draft::Draft::begin`: all jobs, taken apart as a series.
use mathlib.Core.Path.{refl}
use mathlib.Core.Bool.{true}
use native.Mathlib.Omega.{arith}
use lib.Dec.{ltb}
use Rattle.relation.specs.Table.{holds}
use Rattle.writer.specs.Turns.{Parted}
use Rattle.writer.proofs.Stacking.{stacked}
use Rattle.writer.proofs.Turning.{spread_room, root_room}
use Rattle.writer.proofs.draft.Draft.begin.Goals.{After-split_as-count}
use Rattle.writer.proofs.draft.Draft.begin.Goals as goal

abbrev apart : (q : After-split_as-count) → Parted (holds q.args.order.now.free.now) (holds q.args.order.now.under.now) true q.below-all.result
apart q = record { parts = _; count = _; numbers = _; numbers' = _; taken = q.split_as-count.ensures }

pub open-requires : goal.open-requires
open-requires c =
    let t = c.args.order.now.tables in
    let all = c.below-all in
    spread_room _ _ (root_room _ (record { shape = c.requires.shape; placed = c.requires.placed; stack = c.requires.stack }) c.args.order.now.n all.result (ltb 1 c.split_as-count.result) t.some t.few all.ensures)
    c.split_as-count.ensures (omega (arith, c.if-count-lt2.false))

pub returns-then-count-lt2 : goal.returns-then-count-lt2
returns-then-count-lt2 c =
    record {
      all = c.below-all.result;
      is_all = c.below-all.ensures;
      split = apart (goal.at.returns-then-count-lt2 c).After-split_as-count;
      apart = λ l. absurd (omega (arith, c.if-count-lt2.true));
      whole = λ l. (stacked c.args.self.now.entries 0 _ (omega (arith, c.args.self.now.rows)), refl, refl);
    }

pub returns : goal.returns
returns c =
    record {
      all = c.below-all.result;
      is_all = c.below-all.ensures;
      split = apart (goal.at.returns c).After-split_as-count;
      apart = λ l. record { these = c.open.ensures.these; field = c.open.ensures.field; no_job = c.open.ensures.no_job };
      whole = λ l. absurd (omega (arith, c.if-count-lt2.false));
    }
