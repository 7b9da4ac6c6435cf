-- `ahead::later` meets its contract.
use Prim.Native.Nat.{ℕ, ◌-◌, ◌<◌}
use mathlib.Core.Path.{◌≡◌, ap, subst, ◌∙◌}
use mathlib.Core.List.{[], ◌∷◌, ◌++◌}
use native.Mathlib.Omega.{arith}
use lib.ListN.{length, get_or, set, drop}
use Rattle.std.proofs.lemmas.Iterator.Adapters.{YieldsList-from_rev_slice}
use Rattle.std.proofs.lemmas.Iterator.Consumers.{YieldsList-turn, YieldsList-end}
use Rattle.std.proofs.lemmas.List.{length-reverse, length_push}
use Rattle.poset.specs.Lists.{ahead_in}
use Rattle.reader.proofs.Backward.{from_last}
use Rattle.reader.proofs.Later.{Passed, later_from, later_none, later_more}
use Rattle.reader.proofs.Walks.{below_at}
use Rattle.reader.proofs.ahead.later.Goals.{After-from-job}
use Rattle.reader.proofs.ahead.later.Goals as goal

pub loop-job-init : goal.loop-job-init
loop-job-init c = later_none c.args.jobs.now _ (omega arith)

-- the job that is taken
module _ (c : goal.After-from-job) where
  abbrev i : ℕ
  i = length c.args.jobs.now - length c.loop-job.yielded

  taken : (0 < i) × (c.from-job.result ≡ get_or c.args.jobs.now (i - 1) 0) × (c.from-job.result < 128)
  taken =
      let jobs = c.args.jobs.now in
      let (inside, is) =
      from_last 0 jobs _ _
      (YieldsList-turn (YieldsList-from_rev_slice jobs cc) c.loop-job.yielded _ c.loop-job.yielded_by _ _ c.in-Some.job c.in-Some.is
      c.next.ensures.steps) in
      let same : c.from-job.result ≡ get_or jobs (i - 1) 0 = c.from-job.ensures ∙ is in
      (omega arith, same, omega (arith, same, below_at 128 jobs (i - 1) c.requires (omega arith)))

pub listed : goal.listed
listed c = omega (arith, (taken (goal.at.listed c).After-from-job).2)

pub bounds-rows-job : goal.bounds-rows-job
bounds-rows-job c = (taken (goal.at.bounds-rows-job c).After-from-job).2

pub only-requires : goal.only-requires
only-requires c = (taken (goal.at.only-requires c).After-from-job).2

pub loop-job-preserved : goal.loop-job-preserved
loop-job-preserved c =
    let q = (goal.at.loop-job-preserved c).After-from-job in
    let jobs = c.args.jobs.now in
    let l = c.loop-job in
    let (some, same, small) = taken q in
    let place : i q - 1 ≡ length jobs - length (l.yielded ++ c.in-Some.job ∷ []) = omega (arith, length_push l.yielded c.in-Some.job) in
    subst (λ (n : ℕ). Passed (later_from jobs) jobs n (set l.rows c.from-job.result l.passed) c.union-passed.result) place
    (later_more jobs (i q) l.rows l.passed l.invariant some c.from-job.result same c.only.result c.union-passed.result small c.only.ensures
    c.union-passed.ensures)

pub returns : goal.returns
returns c =
    let jobs = c.args.jobs.now in
    let l = c.loop-job in
    let (_, all) = YieldsList-end (YieldsList-from_rev_slice jobs cc) l.yielded _ l.yielded_by _ _ c.in-None.is c.next.ensures.steps in
    let none : length jobs - length l.yielded ≡ 0 = omega (arith, all, length-reverse jobs) in
    (l.invariant.size, λ u v. l.invariant.held u v ∙ ap (λ (k : ℕ). ahead_in u v (drop k jobs)) none)
