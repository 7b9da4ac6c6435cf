-- `relation::set::JobSet::intersection` meets its contract.
use borrow.Author.Rules.{rules}
use mathlib.Core.Path.{refl}
use mathlib.Core.Bool.{◌&&◌}
use lib.ListN.{get_or}
use Rattle.relation.proofs.Words.{bit_and_lem}
use Rattle.relation.proofs.Sets.{pointwise}
use Rattle.relation.proofs.set.JobSet.intersection.Goals as goal

pub returns : goal.returns
returns c =
    let a = c.self.inside.words in
    let b = c.other.inside.words in
    rw (← c.self.view_is, ← c.other.view_is)
    (pointwise ◌&&◌ refl a b (search rules) (search rules) _ _ (λ i _. bit_and_lem (get_or a 0 0) (get_or b 0 0) i)
    (λ i _. bit_and_lem (get_or a 1 0) (get_or b 1 0) i))
