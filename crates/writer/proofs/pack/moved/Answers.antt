-- `pack::moved`: the first byte in hand.
use Rattle.writer.proofs.Packs.{moves}
use Rattle.writer.proofs.pack.moved.Goals as goal

pub returns : goal.returns
returns c = moves c.args.bytes.now c.args.p c.requires.0 c.requires.2
