-- `preview::preview_order` meets its contract: an odd list is told at once, and with an even one the order is a list of its own.
use mathlib.Core.Path.{sym, ◌∙◌}
use native.Mathlib.Omega.{arith}
use Rattle.relation.specs.Arcs.{pairs}
use Rattle.preview.specs.Outcome.{previewed}
use Rattle.preview.proofs.Answering.{same_answer}
use Rattle.preview.proofs.Numbers.{preview_odd, preview_arcs}
use Rattle.preview.proofs.preview_order.Goals as goal

pub returns-then-list-ne0 : goal.returns-then-list-ne0
returns-then-list-ne0 c = sym (preview_odd _ _ _ _ _ (omega (arith, c.if-list-ne0.true)))

pub returns : goal.returns
unfolding previewed pairs
returns c =
    let a = c.args in
    c.of_count.ensures ∙ same_answer (sym (preview_arcs a.count a.hours.now a.list.now a.first a.second c.if-list-ne0.false))
