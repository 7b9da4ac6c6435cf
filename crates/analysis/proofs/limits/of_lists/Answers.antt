-- `limits::of_lists` meets its contract: the hours decide 12 and 13, the arcs one after the other 5 and 6, and the order all others.
use mathlib.Core.Path.{sym, ◌∙◌}
use Rattle.relation.specs.Arcs.{pairs}
use Rattle.relation.proofs.Chain.{outside_none}
use Rattle.analysis.proofs.Crossing.{gives_same, gives_refusal, gives_err}
use Rattle.analysis.proofs.Steps.{timed_listed, listed_5, listed_6, listed_order}
use Rattle.analysis.proofs.Times.{large_below}
use Rattle.analysis.proofs.limits.of_lists.Goals as goal

pub returns-in_err-hours : goal.returns-in_err-hours
returns-in_err-hours c = gives_err _ c.from_residual.ensures.1 (c.in_err-hours.ensures _ _)

pub returns-in-Some : goal.returns-in-Some
returns-in-Some c =
    let h = c.in_ok-hours.ensures in
    gives_refusal _ (timed_listed _ _ _ _ h.0 h.1 ∙ listed_5 _ _ _ _ _ (sym c.in-Some.ensures))

pub returns-in-Some-first_loop : goal.returns-in-Some-first_loop
returns-in-Some-first_loop c =
    let h = c.in_ok-hours.ensures in
    gives_refusal _ (timed_listed _ _ _ _ h.0 h.1 ∙ listed_6 _ _ _ _ _ (sym c.in_default.ensures) (sym c.in-Some-first_loop.ensures))

pub of_arcs-requires-clause-within : goal.of_arcs-requires-clause-within
of_arcs-requires-clause-within c =
    rw c.from.ensures (outside_none c.args.n (pairs c.args.list.now) (sym c.in_default.ensures))

pub of_arcs-requires-clause-hours_len : goal.of_arcs-requires-clause-hours_len
of_arcs-requires-clause-hours_len c = let h = c.in_ok-hours.ensures in (h.0 ∙ sym c.from.ensures, large_below c.args.hours.now h.1)

pub returns : goal.returns
returns c =
    let h = c.in_ok-hours.ensures in
    gives_same
    (sym (timed_listed _ _ _ _ h.0 h.1 ∙ listed_order _ _ _ _ (sym c.in_default.ensures) (sym c.in_default-first_loop.ensures)))
    (rw c.from.ensures at c.of_arcs.ensures)
