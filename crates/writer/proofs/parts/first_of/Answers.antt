-- `parts::first_of`: each step goes to a job before the last.
use Prim.Native.Nat.{ℕ}
use mathlib.Core.Path.{◌≡◌, sym, subst, ◌∙◌}
use mathlib.Core.List.{List}
use mathlib.Core.Bool.{true}
use native.Mathlib.Omega.{arith}
use Rattle.poset.specs.Lists.{exists, below}
use Rattle.relation.specs.Table.{has, holds}
use Rattle.writer.specs.Parts.{First}
use Rattle.relation.proofs.Tables.{row_read}
use Rattle.writer.proofs.Firsts.{down_next, down_falls, down_end}
use Rattle.writer.proofs.parts.first_of.Goals as goal

pub smallest-x-requires : goal.smallest-x-requires
smallest-x-requires c = subst (λ (s : List ℕ). exists (has s) (below 128) ≡ true) (sym c.s.view_is) c.requires

pub loop-x-init : goal.loop-x-init
unfolding holds
loop-x-init c =
    let x = c.smallest-x.ensures in
    let under = c.args.order.now.under.now in
    let row = row_read under c.smallest-x.result c.index-order-x.result (omega (arith, x.small, c.args.order.now.rows)) in
    record { small = x.small; member = x.member; before = rw row at c.intersection-ahead.ensures }

pub largest-y-requires : goal.largest-y-requires
largest-y-requires c = sym c.inhabited.ensures ∙ c.loop-x-test.true

pub loop-x-smaller : goal.loop-x-smaller
unfolding holds
loop-x-smaller c =
    let y = c.largest-y in
    let under = c.args.order.now.under.now in
    let row = row_read under y.result c.index-order-y.result (omega (arith, y.ensures.small, c.args.order.now.rows)) in
    down_falls (holds c.args.order.now.under.now) c.s.inside.jobs c.loop-x.x c.loop-x.ahead c.loop-x.invariant y.result c.intersection-fewer.result
    c.args.order.now.tables.partial y.ensures (rw row at c.intersection-fewer.ensures)

pub loop-x-preserved : goal.loop-x-preserved
unfolding holds
loop-x-preserved c =
    let y = c.largest-y in
    let under = c.args.order.now.under.now in
    let row = row_read under y.result c.index-order-y.result (omega (arith, y.ensures.small, c.args.order.now.rows)) in
    down_next (holds c.args.order.now.under.now) c.s.inside.jobs c.loop-x.x c.loop-x.ahead c.loop-x.invariant y.result c.intersection-fewer.result
    y.ensures (rw row at c.intersection-fewer.ensures)

pub returns : goal.returns
returns c =
    subst (λ (s : List ℕ). First (holds c.args.order.now.under.now) s c.loop-x.x) c.s.view_is
    (down_end (holds c.args.order.now.under.now) c.s.inside.jobs c.loop-x.x c.loop-x.ahead c.loop-x.invariant c.s.invariant.small
    (sym c.inhabited.ensures ∙ c.loop-x-test.false))

pub listed : goal.listed
listed c = omega (arith, c.smallest-x.ensures.small, c.args.order.now.rows)

pub listed-in-loop-x : goal.listed-in-loop-x
listed-in-loop-x c = omega (arith, c.largest-y.ensures.small, c.args.order.now.rows)
