-- `hours::first_large` meets its contract: no job has more, or the first is looked for.
use mathlib.Core.Path.{sym, ◌∙◌}
use lib.Dec.{ltb}
use Rattle.std.proofs.Common.{rules, tests}
use Rattle.std.proofs.lemmas.Iterator.{YieldsList-from_slice}
use Rattle.std.proofs.lemmas.Iterator.Search.{position_from_yields_List}
use Rattle.record.specs.Layout.{most_hours}
use Rattle.analysis.proofs.Firsts.{position_is, none_passes}
use Rattle.analysis.proofs.hours.first_large.Goals as goal

pub returns-then-not-some_large : goal.returns-then-not-some_large
returns-then-not-some_large c = none_passes (ltb most_hours) c.args.hours.now (sym c.some_large.ensures ∙ c.if-not-some_large.true)

pub returns : goal.returns
returns c =
    position_from_yields_List (ltb most_hours) _ _ _ c.position.ensures.ran (YieldsList-from_slice c.args.hours.now cc)
    (λ x b q k. search (rules, tests))
    ∙ position_is (ltb most_hours) c.args.hours.now
