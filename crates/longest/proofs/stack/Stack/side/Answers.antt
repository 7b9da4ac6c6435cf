-- `Stack::side` meets its contract. The invariant: the first run with the greatest total from the entry that was taken last on.
use Prim.Native.Nat.{◌+◌, ◌-◌, ◌<◌}
use mathlib.Core.Path.{◌≡◌, subst}
use mathlib.Core.List.{◌∷◌, [], ◌++◌}
use native.Mathlib.Omega.{arith}
use lib.ListN.{length}
use Rattle.std.proofs.lemmas.Iterator.Adapters.{YieldsList-from_rev_slice}
use Rattle.std.proofs.lemmas.Iterator.Consumers.{YieldsList-turn, YieldsList-end}
use Rattle.std.proofs.lemmas.List.{length-reverse, length_push}
use borrow.Rule.Slice.PartMut.{mid_of, mid_len}
use Rattle.reader.proofs.Backward.{part_from_last}
use Rattle.longest.specs.Stack.{no_run, run_at}
use Rattle.longest.proofs.Folding.{end_inside, Chosen, chosen_first, chosen_child, chosen_later, chosen_all}
use Rattle.longest.proofs.stack.Stack.side.Goals.{In-Some}
use Rattle.longest.proofs.stack.Stack.side.Goals as goal

-- which run is looked at
turn : (c : goal.In-Some)
    → (c.args.self.now.top + length c.loop-run.yielded < c.args.end) × (c.in-Some.run'.now ≡ run_at c.args.self.now (c.args.end - length c.loop-run.yielded - 1))
turn c =
    let s = c.args.self.now in
    let (rs, b) = c.requires in
    part_from_last no_run s.runs s.top c.args.end _ _ (end_inside rs _ _ b)
    (YieldsList-turn (YieldsList-from_rev_slice (mid_of s.top (c.args.end - s.top) s.runs) cc) c.loop-run.yielded _ c.loop-run.yielded_by _ _ c.in-Some.run'
    c.in-Some.is c.next.ensures.steps)

pub loop-run-init : goal.loop-run-init
loop-run-init c = λ rs b.
    let none : c.args.end ≡ c.args.end - 0 = omega arith in
    subst (Chosen rs _ _ b _) none (chosen_first rs _ _ b)

pub loop-run-preserved-then-best-run : goal.loop-run-preserved-then-best-run
loop-run-preserved-then-best-run c = λ rs b.
    let x = c.loop-run.invariant rs b in
    let (within, is) = turn (goal.at.loop-run-preserved-then-best-run c).In-Some in
    let k = c.args.end - length c.loop-run.yielded in
    let place : k - 1 ≡ c.args.end - length (c.loop-run.yielded ++ c.in-Some.run' ∷ []) = omega (arith, length_push c.loop-run.yielded c.in-Some.run') in
    subst (Chosen rs _ _ b _) place (rw is (chosen_child rs _ _ b k (omega arith) x.to_end _ x (rw is at c.if-best-run.true)))

pub loop-run-preserved : goal.loop-run-preserved
loop-run-preserved c = λ rs b.
    let x = c.loop-run.invariant rs b in
    let (within, is) = turn (goal.at.loop-run-preserved c).In-Some in
    let k = c.args.end - length c.loop-run.yielded in
    let place : k - 1 ≡ c.args.end - length (c.loop-run.yielded ++ c.in-Some.run' ∷ []) = omega (arith, length_push c.loop-run.yielded c.in-Some.run') in
    subst (Chosen rs _ _ b _) place (chosen_later rs _ _ b k (omega arith) x.to_end _ x (rw is at c.if-best-run.false))

pub returns-clause-joins : goal.returns-clause-joins
returns-clause-joins c = λ rs b.
    let s = c.args.self.now in
    let items = mid_of s.top (c.args.end - s.top) s.runs in
    let (_, all) = YieldsList-end (YieldsList-from_rev_slice items cc) c.loop-run.yielded _ c.loop-run.yielded_by _ _ c.in-None.is c.next.ensures.steps in
    chosen_all rs _ _ b _ _ (c.loop-run.invariant rs b)
    (omega (arith, all, length-reverse items, mid_len s.top c.args.end s.runs (end_inside rs _ _ b)))
