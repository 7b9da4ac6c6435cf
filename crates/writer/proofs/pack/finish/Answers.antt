-- `pack::finish`: the bits in hand and zeros are the last byte.
use native.Mathlib.Omega.{arith}
use Rattle.writer.proofs.Packs.{holds_none, holds_last}
use Rattle.writer.proofs.pack.finish.Goals as goal

pub returns-then-have-eq0 : goal.returns-then-have-eq0
returns-then-have-eq0 c bs h = holds_none bs c.args.bytes.now c.args.p c.if-have-eq0.true h

pub returns : goal.returns
returns c bs h =
    holds_last bs c.args.bytes.now c.args.p (omega (arith, c.requires.room, c.if-have-eq0.false)) c.requires.few c.if-have-eq0.false h
