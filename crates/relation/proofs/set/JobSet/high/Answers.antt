-- `relation::set::JobSet::high` meets its contract.
use Rattle.relation.proofs.Sets.{high_half}
use borrow.Author.Rules.{rules}
use Rattle.relation.proofs.set.JobSet.high.Goals as goal

pub returns : goal.returns
returns c = rw (← c.self.view_is) (high_half c.self.inside.words (search rules))
