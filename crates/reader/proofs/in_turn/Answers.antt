-- `in_turn` meets its contract.
use Prim.Native.Nat.{ℕ, ◌+◌, ◌<◌}
use mathlib.Core.Path.{sym, subst}
use lib.ListN.{set}
use native.Mathlib.Omega.{arith}
use Rattle.reader.proofs.Walks.{Walked, walked_none, walked_all, job_below, walked_more}
use Rattle.reader.proofs.in_turn.Goals.{In-loop-i}
use Rattle.reader.proofs.in_turn.Goals as goal

-- the job to write is one of the walk
job-in : (c : goal.In-loop-i) → c.loop-i.job < 128
job-in c =
    job_below c.args.next.now c.args.first c.args.count
    c.loop-i.i c.loop-i.job c.loop-i.jobs c.loop-i.invariant c.requires.0 c.loop-i-test.true c.requires.1

pub loop-i-init : goal.loop-i-init
loop-i-init c = walked_none c.args.next.now c.args.first c.args.count

pub overflow_cast-jobs : goal.overflow_cast-jobs
overflow_cast-jobs c = omega (arith, job-in (goal.at.overflow_cast-jobs c).In-loop-i)

pub bounds-next-job : goal.bounds-next-job
bounds-next-job c = job-in (goal.at.bounds-next-job c).In-loop-i

pub loop-i-preserved : goal.loop-i-preserved
loop-i-preserved c =
    subst (λ (j : ℕ). Walked c.args.next.now c.args.first c.args.count (c.loop-i.i + 1) j (set c.loop-i.jobs c.loop-i.i c.loop-i.job))
    (sym c.from-job.ensures)
    (walked_more c.args.next.now c.args.first c.args.count
    c.loop-i.i c.loop-i.job c.loop-i.jobs c.loop-i.invariant c.requires.0 c.loop-i-test.true)

pub returns : goal.returns
returns c =
    walked_all c.args.next.now c.args.first c.args.count
    c.loop-i.i c.loop-i.job c.loop-i.jobs c.loop-i.invariant c.requires.0 c.loop-i-test.false
