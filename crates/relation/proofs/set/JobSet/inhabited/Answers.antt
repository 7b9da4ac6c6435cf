-- `relation::set::JobSet::inhabited` meets its contract.
use borrow.Author.Rules.{rules}
use Rattle.relation.proofs.Sets.{inhabited}
use Rattle.relation.proofs.set.JobSet.inhabited.Goals as goal

pub returns : goal.returns
returns c =
    rw (← c.self.view_is)
    (inhabited c.self.inside.words (record { two = search rules; low = search rules; high = search rules }))
