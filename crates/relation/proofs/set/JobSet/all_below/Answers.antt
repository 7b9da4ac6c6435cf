-- `relation::set::JobSet::all_below` meets its contract.
use Prim.Native.Nat.{◌-◌}
use native.Mathlib.Omega.{arith}
use lib.Pow.{pow_pos}
use Rattle.relation.proofs.Words.{one_shifted}
use Rattle.relation.proofs.Sets.{all_below_lem}
use Rattle.relation.proofs.set.JobSet.all_below.Goals as goal
use Rattle.relation.proofs.set.JobSet.all_below.Goals.{then-n-lt128, else-n-lt128}

pub overflow_sub-n : goal.overflow_sub-n
overflow_sub-n c = rw (one_shifted c.args.n (omega arith)) (pow_pos c.args.n)

pub overflow_sub-n-then-n-lt128-2 : goal.overflow_sub-n-then-n-lt128-2
overflow_sub-n-then-n-lt128-2 c = rw (one_shifted (c.args.n - 64) (omega arith)) (pow_pos (c.args.n - 64))

pub returns-then-n-lt64 : goal.returns-then-n-lt64
returns-then-n-lt64 c = λ v. let n = c.args.n in rw (one_shifted n (omega arith)) (all_below_lem n n 0 (omega arith) (omega arith) (omega arith) v)

pub returns-after-n-lt128 : goal.returns-after-n-lt128
returns-after-n-lt128 c =
    λ v.
    let n = c.args.n in
    elim c.if-n-lt128.branch [
      | then-n-lt128 w ↦
          rw (c.result.view_is, w.result-is, one_shifted (n - 64) (omega arith))
          (all_below_lem n 64 (n - 64) (omega arith) (omega arith) (omega arith) v)
      | else-n-lt128 w ↦ rw (c.result.view_is, w.result-is) (all_below_lem n 64 64 (omega arith) (omega arith) (omega arith) v)
    ]
