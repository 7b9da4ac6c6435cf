-- `analyse_pairs` meets its contract: an odd list decides 2, the counts 3 and 4, and the hours and the pairs all others.
use mathlib.Core.Path.{sym, ◌∙◌}
use native.Mathlib.Omega.{arith}
use Rattle.relation.specs.Arcs.{pairs}
use Rattle.analysis.proofs.Crossing.{gives_same, gives_refusal, gives_err}
use Rattle.analysis.proofs.Steps.{pairs_odd, pairs_even, pairs_length, count_timed}
use Rattle.analysis.proofs.analyse_pairs.Goals as goal

pub returns-then-list-ne0 : goal.returns-then-list-ne0
returns-then-list-ne0 c = gives_refusal _ (pairs_odd _ _ _ _ c.if-list-ne0.true)

pub returns-in_err-counts : goal.returns-in_err-counts
returns-in_err-counts c =
    let list = c.args.list.now in
    gives_err _ c.from_residual.ensures.1
    (pairs_even _ _ _ list c.if-list-ne0.false ∙ c.in_err-counts.ensures _ _ (pairs list) (pairs_length list))

pub returns : goal.returns
returns c =
    let list = c.args.list.now in
    let h = c.in_ok-counts.ensures in
    gives_same
    (sym (pairs_even _ _ _ list c.if-list-ne0.false ∙ count_timed _ _ _ (pairs list) h.0 h.1 (omega (arith, h.2, pairs_length list))))
    c.of_lists.ensures
