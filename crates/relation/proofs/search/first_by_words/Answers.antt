-- `relation::search::first_by_words` meets its contract.
use mathlib.Core.Path.{sym, ◌∙◌}
use Rattle.relation.specs.Table.{holds}
use Rattle.relation.proofs.Sought.{by_words_here, by_words_later, meeting}
use Rattle.relation.proofs.search.first_by_words.Goals as goal

pub returns-in-Some : goal.returns-in-Some
returns-in-Some c =
    let a = c.args in
    by_words_here (meeting (holds a.t.now) a.ds) a.cs _ c.low.ensures (sym c.first_meeting.ensures ∙ c.in-Some.is)

pub returns : goal.returns
returns c =
    let a = c.args in
    c.first_meeting-2.ensures
    ∙ by_words_later (meeting (holds a.t.now) a.ds) a.cs _ c.low.ensures _ c.high.ensures
    (sym c.first_meeting.ensures ∙ c.in_default.is)
