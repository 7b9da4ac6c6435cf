-- `relation::set::JobSet::low` meets its contract.
use Rattle.relation.proofs.Sets.{low_half}
use borrow.Author.Rules.{rules}
use Rattle.relation.proofs.set.JobSet.low.Goals as goal

pub returns : goal.returns
returns c = rw (← c.self.view_is) (low_half c.self.inside.words (search rules))
