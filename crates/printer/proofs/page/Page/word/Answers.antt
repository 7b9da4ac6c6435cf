-- The word is what was copied.
use Rattle.std.proofs.Common.{refl, arith}
use Rattle.printer.proofs.Buffers.{writes_part}
use Rattle.printer.proofs.page.Page.word.Goals as goal

pub returns : goal.returns
returns c = writes_part _ _ c.requires c.copy_from_slice.ensures.after (omega arith) refl refl refl
