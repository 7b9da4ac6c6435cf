-- The digits stand behind the text so far.
use Rattle.std.proofs.Common.{refl, arith}
use Rattle.printer.proofs.Buffers.{writes_part}
use Rattle.printer.proofs.Lines.{hexes_long}
use Rattle.printer.proofs.page.Page.hexadecimal.Goals as goal

pub returns : goal.returns
returns c =
    let long = hexes_long c.args.bytes.now in
    writes_part _ _ (omega arith) c.digits.ensures (omega arith) (omega arith) refl refl
