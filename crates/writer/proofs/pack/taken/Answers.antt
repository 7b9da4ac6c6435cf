-- `pack::taken`: what is shifted out was not in hand.
use Rattle.writer.proofs.Packs.{value_fits, takes}
use Rattle.writer.proofs.pack.taken.Goals as goal

pub overflow_add-result-2 : goal.overflow_add-result-2
overflow_add-result-2 c = record { fits = value_fits c.args.p c.args.width c.args.field c.requires.0 c.requires.1 }

pub returns : goal.returns
returns c = takes c.args.p c.args.width c.args.field c.requires.0 c.requires.1
