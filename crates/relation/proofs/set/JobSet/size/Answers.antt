-- `relation::set::JobSet::size` meets its contract.
use borrow.Author.Rules.{rules}
use native.Mathlib.Omega.{arith}
use Rattle.relation.proofs.Sets.{Row, size, size_small}
use Rattle.relation.proofs.set.JobSet.size.Goals as goal

pub overflow_add-result : goal.overflow_add-result
overflow_add-result c =
    let row : Row c.self.inside.words = record { two = search rules; low = search rules; high = search rules } in
    omega (arith, size_small c.self.inside.words row)

pub overflow_cast-result : goal.overflow_cast-result
overflow_cast-result c =
    let row : Row c.self.inside.words = record { two = search rules; low = search rules; high = search rules } in
    omega (arith, size_small c.self.inside.words row)

pub returns : goal.returns
returns c =
    let s = c.self.inside.words in
    let row : Row s = record { two = search rules; low = search rules; high = search rules } in
    rw (← c.self.view_is) (size s row, size_small s row)
