-- `pack::moved_if_full`: nothing, or the byte.
use native.Mathlib.Omega.{arith}
use Rattle.writer.proofs.Packs.{puts_none, puts_moved}
use Rattle.writer.proofs.pack.moved_if_full.Goals as goal

pub returns-then-p-lt8 : goal.returns-then-p-lt8
returns-then-p-lt8 c = puts_none c.if-p-lt8.true

pub moved-requires : goal.moved-requires
moved-requires c =
    (c.if-p-lt8.false, omega (arith, c.requires.0), c.requires.1 c.if-p-lt8.false)

pub returns : goal.returns
returns c = puts_moved c.moved.ensures c.requires.0
