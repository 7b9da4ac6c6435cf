-- `closure::finishing::join_each` meets its contract.
use native.Mathlib.Omega.{arith}
use Rattle.relation.specs.Table.{holds}
use Rattle.relation.proofs.Sets.{members_less}
use Rattle.relation.proofs.Tables.{row_read}
use Rattle.closure.proofs.Joining.{joined_none, joined_next, joined_end}
use Rattle.closure.proofs.finishing.join_each.Goals as goal

pub loop-v-init : goal.loop-v-init
loop-v-init c = joined_none c.args.rows.now c.args.row c.args.jobs c.args.joins.now

pub join-whole-requires : goal.join-whole-requires
join-whole-requires c =
    omega (
      arith,
      c.loop-v.invariant.counted,
      c.requires,
      members_less c.loop-v.rest _ _ c.in-Some.ensures.0 c.in-Some.ensures.1,
    )

pub loop-v-smaller : goal.loop-v-smaller
loop-v-smaller c =
    members_less c.loop-v.rest _ _ c.in-Some.ensures.0 c.in-Some.ensures.1

pub loop-v-preserved : goal.loop-v-preserved
unfolding holds
loop-v-preserved c =
    let l = c.loop-v in
    let a = c.args in
    let e = row_read a.rows.now c.in-Some.v c.index-rows-v.result (omega (arith, c.in-Some.ensures.0.small)) in
    joined_next a.rows.now a.row a.jobs a.joins.now l.whole l.rest l.joins l.invariant _ c.in-Some.ensures.0 _ _
    (rw e at c.join-whole.ensures.by_index) c.in-Some.ensures.1 _ c.join-whole.ensures.joins_after

pub returns : goal.returns
returns c =
    let l = c.loop-v in
    let a = c.args in
    let e = joined_end a.rows.now a.row a.jobs a.joins.now l.whole l.rest l.joins l.invariant c.in_default.ensures.0 in
    record { by_index = e.0; joins_after = e.1 }
