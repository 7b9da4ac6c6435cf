-- `block::Block::without`: the jobs of the part are jobs of the block.
use Prim.Native.Nat.{ℕ, ◌+◌}
use mathlib.Core.Path.{◌≡◌, sym, ap, ◌∙◌}
use mathlib.Core.List.{List}
use mathlib.Core.Bool.{not}
use native.Mathlib.Omega.{arith}
use Rattle.poset.proofs.Laws.{and_left}
use Rattle.relation.specs.Table.{has}
use Rattle.writer.specs.Parts.{size_of}
use Rattle.writer.proofs.Counting.{cut_size}
use Rattle.writer.proofs.block.Block.without.Goals.{After-difference}
use Rattle.writer.proofs.block.Block.without.Goals as goal

-- what is left and the part are all
fewer : (c : After-difference) → size_of c.difference.result + size_of c.part.inside.jobs ≡ size_of c.self.inside.jobs
fewer c =
    cut_size c.self.inside.jobs c.difference.result c.part.inside.jobs
    (λ v p. ap (λ (s : List ℕ). has s v) c.self.view_is ∙ c.requires v (sym (ap (λ (s : List ℕ). has s v) c.part.view_is) ∙ p))
    c.difference.ensures

pub overflow_sub-result : goal.overflow_sub-result
overflow_sub-result c = omega (arith, fewer (goal.at.overflow_sub-result c).After-difference, c.self.invariant.counted, c.part.invariant.counted)

pub invariant_of-result : goal.invariant_of-result
invariant_of-result c =
    record {
      small = λ v q. c.self.invariant.small v (and_left (has c.self.inside.jobs v) (not (has c.part.inside.jobs v)) (sym (c.difference.ensures v) ∙ q));
      counted = omega (arith, fewer (goal.at.invariant_of-result c).After-difference, c.self.invariant.counted, c.part.invariant.counted);
    }
