-- `relation::set::JobSet::smallest` meets its contract.
use borrow.Author.Rules.{rules}
use native.Mathlib.Omega.{arith}
use lib.ListN.{get_or}
use lib.Count.{trailing_le}
use Rattle.relation.proofs.Sets.{Row, smallest_low, smallest_second}
use Rattle.relation.proofs.set.JobSet.smallest.Goals as goal

pub overflow_cast-result : goal.overflow_cast-result
overflow_cast-result c = omega (arith, trailing_le 64 (get_or c.self.inside.words 0 0))

pub overflow_cast-result-else-self-ne0 : goal.overflow_cast-result-else-self-ne0
overflow_cast-result-else-self-ne0 c = omega (arith, trailing_le 64 (get_or c.self.inside.words 1 0))

pub overflow_add-result : goal.overflow_add-result
overflow_add-result c = omega (arith, trailing_le 64 (get_or c.self.inside.words 1 0))

pub returns-then-self-ne0 : goal.returns-then-self-ne0
returns-then-self-ne0 c =
    let s = c.self.inside.words in
    let row : Row s = record { two = search rules; low = search rules; high = search rules } in
    rw (← c.self.view_is) (smallest_low s row c.if-self-ne0.true)

pub returns-else-self-ne0 : goal.returns-else-self-ne0
returns-else-self-ne0 c =
    let s = c.self.inside.words in
    let row : Row s = record { two = search rules; low = search rules; high = search rules } in
    let some = rw (← c.self.view_is) at c.requires in
    rw (← c.self.view_is) (smallest_second s row some c.if-self-ne0.false)
