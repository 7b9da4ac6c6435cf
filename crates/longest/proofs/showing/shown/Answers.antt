-- `showing::shown` meets its contract. The invariant: the jobs passed are written, and the run goes on from the present one.
use Prim.Native.Nat.{◌<◌}
use native.Mathlib.Omega.{arith}
use Rattle.longest.proofs.Listing.{showed_none, showed_more, showed_all, room, job_small}
use Rattle.longest.proofs.showing.shown.Goals.{At-loop-present}
use Rattle.longest.proofs.showing.shown.Goals as goal

in-room : (c : goal.At-loop-present) → c.loop-present.count < 128
in-room c = let (xs, l) = c.requires in room _ _ _ xs l _ _ _ (c.loop-present.invariant xs l)

pub loop-present-init : goal.loop-present-init
loop-present-init c = λ xs l. showed_none _ _ _ xs l

pub bounds-jobs-count : goal.bounds-jobs-count
bounds-jobs-count c = in-room (goal.at.bounds-jobs-count c).At-loop-present

pub bounds-next-from : goal.bounds-next-from
bounds-next-from c =
    let (xs, l) = c.requires in
    rw c.from.ensures (job_small _ _ _ xs l _ _ _ (c.loop-present.invariant xs l))

pub overflow_add-count : goal.overflow_add-count
overflow_add-count c = omega (arith, in-room (goal.at.overflow_add-count c).At-loop-present)

pub loop-present-smaller : goal.loop-present-smaller
loop-present-smaller c = omega (arith, in-room (goal.at.loop-present-smaller c).At-loop-present)

pub loop-present-preserved : goal.loop-present-preserved
loop-present-preserved c =
    λ xs l.
    rw c.from.ensures (showed_more _ _ _ xs l _ _ _ (c.loop-present.invariant xs l) c.loop-present-test.true)

pub bounds-jobs-count-2 : goal.bounds-jobs-count-2
bounds-jobs-count-2 c = in-room (goal.at.bounds-jobs-count-2 c).At-loop-present

pub overflow_add-result : goal.overflow_add-result
overflow_add-result c = omega (arith, in-room (goal.at.overflow_add-result c).At-loop-present)

pub returns : goal.returns
returns c = λ xs l. showed_all _ _ _ xs l _ _ _ (c.loop-present.invariant xs l) c.loop-present-test.false
