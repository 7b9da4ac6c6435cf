-- `relation::set::JobSet::contains` meets its contract.
use mathlib.Core.Logic.{inl, inr}
use Rattle.relation.proofs.Sets.{has_tested}
use borrow.Author.Rules.{rules}
use Rattle.relation.proofs.set.JobSet.contains.Goals as goal
use Rattle.relation.proofs.set.JobSet.contains.Goals.{then-v-lt64, else-v-lt64}

pub returns : goal.returns
returns c =
    rw (← c.self.view_is)
    (has_tested c.self.inside.words c.args.v c.if-v-lt64.word (search rules)
    (elim c.if-v-lt64.branch [ then-v-lt64 w ↦ inl (w.if-v-lt64.true, w.word-is) | else-v-lt64 w ↦ inr (w.if-v-lt64.false, w.word-is) ]))
