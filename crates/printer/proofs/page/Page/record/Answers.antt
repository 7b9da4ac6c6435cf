-- The word, the digits, then the line end.
use Rattle.std.proofs.Common.{arith}
use Rattle.printer.specs.Text.{ascii}
use Rattle.printer.proofs.Buffers.{join, writes_of}
use Rattle.printer.proofs.Lines.{record_parts, hexes_long}
use Rattle.printer.proofs.page.Page.record.Goals as goal

pub word-requires-2 : goal.word-requires-2
word-requires-2 c = omega (arith, hexes_long c.args.bytes.now)

pub returns : goal.returns
unfolding ascii
returns c =
    writes_of (record_parts c.args.bytes.now) (join (omega arith) (join (omega arith) c.word.ensures c.hexadecimal.ensures) c.word-2.ensures)
