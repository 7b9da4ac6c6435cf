-- `relation::search::first_meeting` meets its contract.
use native.Mathlib.Omega.{arith}
use mathlib.Core.Path.{refl, sym, ◌∙◌}
use Rattle.relation.specs.Table.{holds, members}
use Rattle.relation.proofs.Sets.{members_less}
use Rattle.relation.proofs.Tables.{row_read}
use Rattle.relation.proofs.Sought.{sought_hit, sought_next, sought_end, meeting, meeting_hit, meeting_miss}
use Rattle.relation.proofs.search.first_meeting.Goals as goal

pub loop-c-init : goal.loop-c-init
loop-c-init c = refl

pub offset_bounds-t-c : goal.offset_bounds-t-c
offset_bounds-t-c c = omega (arith, c.in-Some.ensures.0.small)

pub bounds-t-c : goal.bounds-t-c
bounds-t-c c = c.in-Some.ensures.0.small

pub returns-then-inhabited : goal.returns-then-inhabited
unfolding holds
returns-then-inhabited c =
    let l = c.loop-c in
    let a = c.args in
    let e = row_read a.t.now c.in-Some.c c.index-t-c.result (omega (arith, c.in-Some.ensures.0.small)) in
    sought_hit (meeting (holds a.t.now) a.ds) (members a.cs) l.rest l.invariant _ c.in-Some.ensures.0
    (meeting_hit (holds a.t.now) a.ds _ _ (rw e at c.intersection.ensures) (sym c.inhabited.ensures ∙ c.if-inhabited.true))

pub loop-c-smaller : goal.loop-c-smaller
loop-c-smaller c =
    members_less c.loop-c.rest _ _ c.in-Some.ensures.0 c.in-Some.ensures.1

pub loop-c-preserved : goal.loop-c-preserved
unfolding holds
loop-c-preserved c =
    let l = c.loop-c in
    let a = c.args in
    let e = row_read a.t.now c.in-Some.c c.index-t-c.result (omega (arith, c.in-Some.ensures.0.small)) in
    sought_next (meeting (holds a.t.now) a.ds) (members a.cs) l.rest l.invariant _ c.in-Some.ensures.0 _
    c.in-Some.ensures.1
    (meeting_miss (holds a.t.now) a.ds _ _ (rw e at c.intersection.ensures) (sym c.inhabited.ensures ∙ c.if-inhabited.false))

pub returns : goal.returns
returns c =
    let l = c.loop-c in
    let a = c.args in
    sought_end (meeting (holds a.t.now) a.ds) (members a.cs) l.rest l.invariant c.in_default.ensures.0
