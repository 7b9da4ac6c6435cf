-- `relation::set::JobSet::only` meets its contract.
use borrow.Author.Rules.{rules}
use Prim.Native.Nat.{◌-◌}
use native.Mathlib.Omega.{arith}
use Rattle.relation.proofs.Words.{one_shifted}
use Rattle.relation.proofs.Sets.{only_low, only_high}
use Rattle.relation.proofs.set.JobSet.only.Goals as goal

pub returns-then-v-lt64 : goal.returns-then-v-lt64
returns-then-v-lt64 c = λ x. rw (one_shifted c.args.v (search rules)) (only_low c.args.v (search rules) x)

pub returns-else-v-lt64 : goal.returns-else-v-lt64
returns-else-v-lt64 c = λ x. rw (one_shifted (c.args.v - 64) (omega arith)) (only_high c.args.v (search rules) (search rules) x)
