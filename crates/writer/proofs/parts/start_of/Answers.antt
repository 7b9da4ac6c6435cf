-- `parts::start_of`: by the kind of group.
use mathlib.Core.Path.{sym, subst}
use Prim.Native.Nat.{ℕ}
use mathlib.Core.List.{List}
use Rattle.relation.specs.Table.{Least, holds}
use Rattle.writer.specs.Parts.{StartsAt}
use Rattle.writer.proofs.parts.start_of.Goals as goal

pub returns-then-series : goal.returns-then-series
returns-then-series c =
    subst (λ b. StartsAt (holds c.args.order.now.under.now) b c.args.s c.first_of.result) (sym c.if-series.true) c.first_of.ensures

pub returns-else-series : goal.returns-else-series
returns-else-series c =
    subst (λ b. StartsAt (holds c.args.order.now.under.now) b c.args.s c.smallest.result) (sym c.if-series.false)
    (subst (λ (s : List ℕ). Least s c.smallest.result) c.s.view_is c.smallest.ensures)
