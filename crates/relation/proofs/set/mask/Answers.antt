-- `relation::set::mask` meets its contract.
use mathlib.Core.Path.{sym, ◌∙◌}
use borrow.Author.Tests.{lt-ltb}
use Rattle.relation.proofs.Words.{bit_zero, bit_ones}
use Rattle.relation.proofs.set.mask.Goals as goal

pub returns-then-test : goal.returns-then-test
returns-then-test c = λ i l. bit_ones 64 i ∙ lt-ltb i 64 l ∙ sym c.if-test.true

pub returns-else-test : goal.returns-else-test
returns-else-test c = λ i l. bit_zero i ∙ sym c.if-test.false
