-- `relation::set::JobSet::without_smallest` meets its contract.
use borrow.Author.Rules.{rules}
use native.Mathlib.Omega.{arith}
use Rattle.relation.proofs.Sets.{Row, rest_low, rest_second, second_some}
use Rattle.relation.proofs.set.JobSet.without_smallest.Goals as goal

pub overflow_sub-result : goal.overflow_sub-result
overflow_sub-result c =
    let s = c.self.inside.words in
    let row : Row s = record { two = search rules; low = search rules; high = search rules } in
    let some = rw (← c.self.view_is) at c.requires in
    omega (arith, second_some s row some c.if-self-ne0.false)

pub returns-then-self-ne0 : goal.returns-then-self-ne0
returns-then-self-ne0 c =
    let s = c.self.inside.words in
    let row : Row s = record { two = search rules; low = search rules; high = search rules } in
    rw (← c.self.view_is) (rest_low s row c.if-self-ne0.true)

pub returns-else-self-ne0 : goal.returns-else-self-ne0
returns-else-self-ne0 c =
    let s = c.self.inside.words in
    let row : Row s = record { two = search rules; low = search rules; high = search rules } in
    let some = rw (← c.self.view_is) at c.requires in
    rw (← c.self.view_is) (rest_second s row some c.if-self-ne0.false)
