-- `relation::set::JobSet::difference` meets its contract.
use borrow.Author.Rules.{rules}
use mathlib.Core.Path.{refl}
use mathlib.Core.Bool.{◌&&◌, not}
use lib.ListN.{get_or}
use Rattle.relation.proofs.Sets.{pointwise, bit_but}
use Rattle.relation.proofs.set.JobSet.difference.Goals as goal

pub returns : goal.returns
returns c =
    let a = c.self.inside.words in
    let b = c.other.inside.words in
    rw (← c.self.view_is, ← c.other.view_is)
    (pointwise (λ x y. x && not y) refl a b (search rules) (search rules) _ _
    (λ i l. bit_but (get_or a 0 0) (get_or b 0 0) i l (search rules))
    (λ i l. bit_but (get_or a 1 0) (get_or b 1 0) i l (search rules)))
