-- `relation::set::JobSet::largest` meets its contract.
use mathlib.Core.Path.{◌≡◌}
use borrow.Author.Rules.{rules}
use native.Mathlib.Omega.{arith}
use lib.ListN.{get_or}
use lib.Count.{leading_le}
use Rattle.relation.proofs.Words.{highest}
use Rattle.relation.proofs.Sets.{Row, largest_high, largest_low, second_some}
use Rattle.relation.proofs.set.JobSet.largest.Goals as goal

pub overflow_cast-result : goal.overflow_cast-result
overflow_cast-result c = omega (arith, leading_le 64 (get_or c.self.inside.words 1 0))

pub overflow_sub-result : goal.overflow_sub-result
overflow_sub-result c = omega (arith, leading_le 64 (get_or c.self.inside.words 1 0))

pub overflow_cast-result-else-self-ne0 : goal.overflow_cast-result-else-self-ne0
overflow_cast-result-else-self-ne0 c = omega (arith, leading_le 64 (get_or c.self.inside.words 0 0))

pub overflow_sub-result-else-self-ne0 : goal.overflow_sub-result-else-self-ne0
overflow_sub-result-else-self-ne0 c =
    let s = c.self.inside.words in
    let row : Row s = record { two = search rules; low = search rules; high = search rules } in
    let inhabited = rw (← c.self.view_is) at c.requires in
    let some : get_or s 0 0 ≡ 0 → ⊥ = λ e. second_some s row inhabited e c.if-self-ne0.false in
    omega (arith, (highest 64 (get_or s 0 0) (omega (arith, some)) row.low.fits).0)

pub returns-then-self-ne0 : goal.returns-then-self-ne0
returns-then-self-ne0 c =
    let s = c.self.inside.words in
    let row : Row s = record { two = search rules; low = search rules; high = search rules } in
    rw (← c.self.view_is) (largest_high s row c.if-self-ne0.true)

pub returns-else-self-ne0 : goal.returns-else-self-ne0
returns-else-self-ne0 c =
    let s = c.self.inside.words in
    let row : Row s = record { two = search rules; low = search rules; high = search rules } in
    let inhabited = rw (← c.self.view_is) at c.requires in
    rw (← c.self.view_is) (largest_low s row c.if-self-ne0.false (λ e. second_some s row inhabited e c.if-self-ne0.false))
