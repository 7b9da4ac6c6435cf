-- `limits::of_count` meets its contract: the counts decide 3 and 4, the hours 12 and 13, the arcs 5 and 6, and the order all others.
use mathlib.Core.Path.{◌≡◌, sym, ◌∙◌}
use mathlib.Core.List.{List, ◌++◌}
use native.Mathlib.Omega.{arith}
use Rattle.poset.specs.Order.{Arc}
use Rattle.relation.specs.Arcs.{pairs}
use Rattle.relation.proofs.Chain.{outside_none}
use Rattle.analysis.specs.Outcome.{roomy, arc_outcome, timed, listed}
use Rattle.analysis.proofs.Steps.{count_timed, timed_listed, listed_5, listed_6, listed_order}
use Rattle.analysis.proofs.Times.{large_below}
use Rattle.preview.proofs.Answering.{same_answer, told_refused, told_err}
use Rattle.preview.proofs.Joining.{pairs_count}
use Rattle.preview.proofs.limits.of_count.Goals as goal
use Rattle.preview.proofs.limits.of_count.Goals.{In_ok-counts, In_ok-hours}

-- the counts, then the hours too are within their limits

abbrev arcs : goal.In_ok-counts → List Arc
arcs c = pairs c.args.list.now ++ pairs c.args.last.now

counted : (c : goal.In_ok-counts) → arc_outcome roomy c.args.n c.args.hours.now (arcs c) ≡ timed roomy c.args.n c.args.hours.now (arcs c)
counted c =
    let h = c.in_ok-counts.ensures in
    count_timed _ _ _ _ h.0 h.1 (omega (arith, h.2, pairs_count c.args.list.now c.args.last.now))

clear : (c : goal.In_ok-hours) → arc_outcome roomy c.args.n c.args.hours.now (pairs c.args.list.now ++ pairs c.args.last.now)
    ≡ listed roomy c.args.n c.args.hours.now (pairs c.args.list.now ++ pairs c.args.last.now)
clear c =
    let h = c.in_ok-hours.ensures in
    counted (goal.at.In_ok-hours c).In_ok-counts ∙ timed_listed _ _ _ _ h.0 h.1

pub returns-in_err-counts : goal.returns-in_err-counts
returns-in_err-counts c =
    told_err _ _ c.from_residual.ensures.1 (c.in_err-counts.ensures _ _ _ (pairs_count c.args.list.now c.args.last.now))

pub returns-in_err-hours : goal.returns-in_err-hours
returns-in_err-hours c =
    told_err _ _ c.from_residual-in_err-hours.ensures.1 (counted (goal.at.returns-in_err-hours c).In_ok-counts ∙ c.in_err-hours.ensures _ _)

pub returns-in-Some : goal.returns-in-Some
returns-in-Some c = told_refused (clear (goal.at.returns-in-Some c).In_ok-hours ∙ listed_5 _ _ _ _ _ (sym c.in-Some.ensures))

pub returns-in-Some-first_loop : goal.returns-in-Some-first_loop
returns-in-Some-first_loop c =
    told_refused (clear (goal.at.returns-in-Some-first_loop c).In_ok-hours ∙ listed_6 _ _ _ _ _ (sym c.in_default.ensures) (sym c.in-Some-first_loop.ensures))

pub of_arcs-requires-clause-within : goal.of_arcs-requires-clause-within
of_arcs-requires-clause-within c =
    rw c.from.ensures (outside_none c.args.n (pairs c.args.list.now ++ pairs c.args.last.now) (sym c.in_default.ensures))

pub of_arcs-requires-clause-hours_len : goal.of_arcs-requires-clause-hours_len
of_arcs-requires-clause-hours_len c = let h = c.in_ok-hours.ensures in (h.0 ∙ sym c.from.ensures, large_below c.args.hours.now h.1)

pub returns : goal.returns
returns c =
    (rw c.from.ensures at c.of_arcs.ensures)
    ∙ same_answer (sym (clear (goal.at.returns c).In_ok-hours ∙ listed_order _ _ _ _ (sym c.in_default.ensures) (sym c.in_default-first_loop.ensures)))
