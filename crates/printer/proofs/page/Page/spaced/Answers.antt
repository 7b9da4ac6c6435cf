-- The space, then the digits.
use Rattle.std.proofs.Common.{arith}
use Rattle.printer.proofs.Buffers.{join}
use Rattle.printer.proofs.page.Page.spaced.Goals as goal

pub returns : goal.returns
unfolding Rattle.sheet.specs.Text.space
returns t c = record { text = join (omega arith) c.word.ensures c.number.ensures.text; most = omega arith }
