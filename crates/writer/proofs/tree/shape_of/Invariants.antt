-- `tree::shape_of`: from the root on, turn after turn.
use Prim.Native.Nat.{◌-◌}
use Rattle.relation.specs.Table.{holds}
use Rattle.writer.specs.Compared.{transpose}
use Rattle.writer.specs.Turns.{state}
use Rattle.writer.proofs.Shaping.{Shaping}
use Rattle.writer.proofs.tree.shape_of.Given as goal

abbrev pub invariant-loop-p : goal.invariant-loop-p
invariant-loop-p l =
    let s = state l.draft l.p in
    Shaping l.order.n (transpose (holds l.order.under.now)) (holds l.order.tied.now) (holds l.order.free.now) s.shape s.placed s.stack

abbrev pub decreases-loop-p : goal.decreases-loop-p
decreases-loop-p l = 512 - l.p.count
