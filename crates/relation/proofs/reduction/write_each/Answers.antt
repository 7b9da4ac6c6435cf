-- `relation::reduction::write_each` meets its contract.
use Rattle.relation.proofs.Sets.{members_less}
use lib.ListN.{length-set}
use Prim.Native.Nat.{◌+◌, ◌<◌}
use native.Mathlib.Omega.{arith}
use lib.ListN.{length}
use Rattle.relation.proofs.Listing.{lined_none, lined_next, lined_fits, lined_end}
use Rattle.relation.proofs.reduction.write_each.Goals.{In-Some}
use Rattle.relation.proofs.reduction.write_each.Goals as goal

-- there is room for one pair more
fits : (c : goal.In-Some) → c.loop-v.k + 1 < length c.loop-v.area
fits c =
    let l = c.loop-v in
    lined_fits c.args.u c.args.at c.args.jobs c.args.area.now l.area l.k l.rest l.invariant _ c.in-Some.ensures.0 c.requires.1

pub loop-v-init : goal.loop-v-init
loop-v-init c = lined_none c.args.u c.args.at c.args.jobs c.args.area.now

pub bounds-area-k : goal.bounds-area-k
bounds-area-k c = omega (arith, fits (goal.at.bounds-area-k c).In-Some)

pub overflow_cast-area-in-Some : goal.overflow_cast-area-in-Some
overflow_cast-area-in-Some c = omega (arith, c.in-Some.ensures.0.small)

pub overflow_add-area : goal.overflow_add-area
overflow_add-area c = omega (arith, fits (goal.at.overflow_add-area c).In-Some)

pub bounds-area-k-in-Some : goal.bounds-area-k-in-Some
bounds-area-k-in-Some c = rw (length-set) (fits (goal.at.bounds-area-k-in-Some c).In-Some)

pub overflow_add-k : goal.overflow_add-k
overflow_add-k c = omega (arith, fits (goal.at.overflow_add-k c).In-Some)

pub loop-v-smaller : goal.loop-v-smaller
loop-v-smaller c = members_less c.loop-v.rest _ _ c.in-Some.ensures.0 c.in-Some.ensures.1

pub loop-v-preserved : goal.loop-v-preserved
loop-v-preserved c =
    let l = c.loop-v in
    let a = c.args in
    lined_next a.u a.at a.jobs a.area.now l.area l.k l.rest l.invariant _ c.in-Some.ensures.0 _ c.in-Some.ensures.1

pub shape_of-area : goal.shape_of-area
shape_of-area c = c.loop-v.invariant.size

pub returns : goal.returns
returns c =
    let l = c.loop-v in
    let a = c.args in
    let e = lined_end a.u a.at a.jobs a.area.now l.area l.k l.rest l.invariant c.in_default.ensures.0 in
    record { value = e.0; area_after = e.1 }
