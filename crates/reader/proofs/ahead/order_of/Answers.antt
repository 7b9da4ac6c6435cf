-- `ahead::order_of` meets its contract.
use Prim.Native.Nat.{ℕ, ◌-◌, ◌<◌}
use mathlib.Core.Path.{◌≡◌, sym, subst, ◌∙◌}
use mathlib.Core.List.{List, [], ◌∷◌, ◌++◌}
use native.Mathlib.Omega.{arith}
use lib.ListN.{length, get_or, set, take}
use lib.Seq.{length-take-le}
use Rattle.std.proofs.lemmas.Iterator.Adapters.{YieldsList-from_rev_slice}
use Rattle.std.proofs.lemmas.Iterator.Consumers.{YieldsList-turn, YieldsList-end}
use Rattle.std.proofs.lemmas.List.{length-reverse, length_push}
use Rattle.poset.specs.Lists.{ahead_in}
use Rattle.poset.specs.Order.{Rel}
use Rattle.poset.proofs.Laws.{same_count_mem}
use Rattle.relation.specs.Table.{holds}
use Rattle.relation.proofs.Tables.{row_read}
use Rattle.reader.proofs.Backward.{from_last}
use Rattle.reader.proofs.Later.{Passed, both_from, below_same, both_none, both_more, both_all, ahead_first}
use Rattle.reader.proofs.Walks.{below_at}
use Rattle.reader.proofs.ahead.order_of.Goals.{After-from-job}
use Rattle.reader.proofs.ahead.order_of.Goals as goal

-- the first n of the reverse sequence, and the order of the first n of the forward one

abbrev jobs : List ℕ → ℕ → List ℕ
jobs reverse n = take n reverse

abbrev first : List ℕ → ℕ → Rel
first forward n u v = ahead_in u v (take n forward)

pub loop-job-init : goal.loop-job-init
loop-job-init c =
    let size : length (jobs c.args.reverse.now c.args.n) ≡ c.args.n = length-take-le c.args.n c.args.reverse.now (omega arith) in
    both_none (first c.args.forward.now c.args.n) (jobs c.args.reverse.now c.args.n) _ c.later-rows.result
    (omega (arith, size)) c.later-rows.ensures.0 c.later-rows.ensures.1

-- the job that is taken
module _ (c : goal.After-from-job) where
  abbrev xs : List ℕ
  xs = jobs c.args.reverse.now c.args.n

  abbrev i : ℕ
  i = c.args.n - length c.loop-job.yielded

  taken : (0 < i) × (c.from-job.result ≡ get_or xs (i - 1) 0) × (c.from-job.result < 128)
  taken =
      let size : length xs ≡ c.args.n = length-take-le c.args.n c.args.reverse.now (omega arith) in
      let (inside, is) =
      from_last 0 xs _ _
      (YieldsList-turn (YieldsList-from_rev_slice xs cc) c.loop-job.yielded _ c.loop-job.yielded_by _ _ c.in-Some.job c.in-Some.is
      c.next.ensures.steps) in
      let place : length xs - length c.loop-job.yielded - 1 ≡ i - 1 = omega (arith, size) in
      let same : c.from-job.result ≡ get_or xs (i - 1) 0 = subst (λ (k : ℕ). c.from-job.result ≡ get_or xs k 0) place (c.from-job.ensures ∙ is) in
      let small = below_same 128 (take c.args.n c.args.forward.now) xs c.requires.all_below.0 c.requires.all_below.2 in
      (omega (arith, size), same, omega (arith, same, below_at 128 xs (i - 1) small (omega (arith, size))))

pub listed : goal.listed
listed c = omega (arith, (taken (goal.at.listed c).After-from-job).2)

pub bounds-rows-job : goal.bounds-rows-job
bounds-rows-job c = (taken (goal.at.bounds-rows-job c).After-from-job).2

pub listed-in-loop-job : goal.listed-in-loop-job
listed-in-loop-job c = omega (arith, (taken (goal.at.listed-in-loop-job c).After-from-job).2)

pub bounds-rows-job-in-loop-job : goal.bounds-rows-job-in-loop-job
bounds-rows-job-in-loop-job c = (taken (goal.at.bounds-rows-job-in-loop-job c).After-from-job).2

pub only-requires : goal.only-requires
only-requires c = (taken (goal.at.only-requires c).After-from-job).2

pub loop-job-preserved : goal.loop-job-preserved
unfolding holds
loop-job-preserved c =
    let q = (goal.at.loop-job-preserved c).After-from-job in
    let l = c.loop-job in
    let (some, same, small) = taken q in
    let row = row_read l.rows c.from-job.result c.index-rows-job.result (omega (arith, small)) in
    let place : i q - 1 ≡ c.args.n - length (l.yielded ++ c.in-Some.job ∷ []) = omega (arith, length_push l.yielded c.in-Some.job) in
    subst
    (λ (n : ℕ).
    Passed (both_from (first c.args.forward.now c.args.n) (xs q)) (xs q) n (set l.rows c.from-job.result c.intersection.result) c.union-behind.result)
    place
    (both_more (first c.args.forward.now c.args.n) (xs q) (λ u. omega (arith, c.requires.all_below.1 u, c.requires.all_below.2 u))
    (i q) l.rows l.behind l.invariant some c.from-job.result same c.only.result c.union-behind.result c.intersection.result
    small c.only.ensures c.union-behind.ensures (rw row at c.intersection.ensures))

pub returns : goal.returns
returns c =
    let l = c.loop-job in
    let xs = jobs c.args.reverse.now c.args.n in
    let size : length xs ≡ c.args.n = length-take-le c.args.n c.args.reverse.now (omega arith) in
    let (_, all) = YieldsList-end (YieldsList-from_rev_slice xs cc) l.yielded _ l.yielded_by _ _ c.in-None.is c.next.ensures.steps in
    both_all (first c.args.forward.now c.args.n) xs _ l.rows l.behind l.invariant
    (omega (arith, all, length-reverse xs, size))
    (λ u v h. same_count_mem (sym (c.requires.all_below.2 u)) (ahead_first u v (take c.args.n c.args.forward.now) h))
