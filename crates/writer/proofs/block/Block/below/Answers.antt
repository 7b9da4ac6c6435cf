-- `block::Block::below`: so many jobs.
use mathlib.Core.Path.{sym, ap, ◌∙◌}
use native.Mathlib.Omega.{arith}
use lib.ListN.{length}
use Rattle.poset.proofs.Laws.{ltb-true}
use Rattle.poset.proofs.Sums.{length_below}
use Rattle.writer.proofs.Roots.{members_all}
use Rattle.writer.proofs.block.Block.below.Goals as goal

pub invariant_of-result : goal.invariant_of-result
invariant_of-result c =
    let all = c.all_below in
    record {
      small = (λ v q. omega (arith, ltb-true v c.args.n (sym (all.ensures v) ∙ q), c.requires));
      counted = sym (ap length (members_all all.result c.args.n c.requires all.ensures) ∙ length_below c.args.n);
    }
