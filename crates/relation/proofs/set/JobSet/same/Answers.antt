-- `relation::set::JobSet::same` meets its contract.
use borrow.Author.Rules.{rules}
use mathlib.Core.Path.{◌∙◌}
use Rattle.relation.proofs.Sets.{Row, equal_rows}
use Rattle.relation.proofs.set.JobSet.same.Goals as goal

pub returns : goal.returns
returns c =
    let row : Row c.args.self = record { two = search rules; low = search rules; high = search rules } in
    let other : Row c.args.other = record { two = search rules; low = search rules; high = search rules } in
    c.eq.ensures ∙ equal_rows c.args.self c.args.other row other
