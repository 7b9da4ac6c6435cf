-- `relation::set::JobSet::insert` meets its contract.
use borrow.Author.Rules.{rules}
use native.Mathlib.Omega.{arith}
use Prim.Native.Nat.{◌%◌}
use Rattle.relation.proofs.Words.{one_shifted}
use Rattle.relation.proofs.Sets.{put_in}
use Rattle.relation.proofs.set.JobSet.insert.Goals as goal

pub returns : goal.returns
returns c =
    let v = c.args.v in
    λ x. rw (← c.self.view_is, one_shifted (v % 64) (omega arith)) (put_in c.self.inside.words v (search rules) c.requires x)
