-- `Row::take` meets its contract: a law for a leaf, and one for a group.
use mathlib.Core.Path.{refl}
use native.Mathlib.Omega.{arith}
use Rattle.record.proofs.Tokens.{tells_group}
use Rattle.reason.proofs.Rows.{row_few, leaf_taken, group_taken}
use Rattle.reason.proofs.seeking.Row.take.Goals as goal

pub overflow_add-height : goal.overflow_add-height
overflow_add-height c =
    let (ts, us, step, fits, r) = c.requires in
    omega (arith, row_few _ _ _ _ ts us step fits r)

pub returns-in-Leaf : goal.returns-in-Leaf
returns-in-Leaf c = λ ts us step fits r.
    let mark = rw (c.from-in-Leaf.ensures, c.in-Leaf.ensures.1) at c.with.ensures in
    leaf_taken _ _ _ _ ts us step fits r c.in-Leaf.ensures.0 _ refl c.raised.ensures mark

pub overflow_sub-height : goal.overflow_sub-height
overflow_sub-height c =
    let (ts, us, step, fits, r) = c.requires in
    let told = tells_group _ c.from.ensures c.in-Chain.is in
    rw (c.from-in-Chain.ensures, told.1) (group_taken _ _ _ _ ts us step fits r told.0).0

pub returns-in-Chain : goal.returns-in-Chain
returns-in-Chain c = λ ts us step fits r.
    let told = tells_group _ c.from.ensures c.in-Chain.is in
    rw (c.min.ensures, c.from-in-Chain.ensures, told.1) (group_taken _ _ _ _ ts us step fits r told.0).1
