-- `desk::ordersheet_read` meets its contract: the reading does, and its answer is narrow.
use Rattle.reader.proofs.Whole.{slice_below}
use mathlib.Core.Path.{ap, ◌∙◌}
use Rattle.desk.specs.Packed.{packed, cut}
use Rattle.desk.proofs.Bounds.{record_narrow}
use Rattle.desk.proofs.Telling.{gives_told}
use Rattle.desk.proofs.ordersheet_read.Goals as goal

pub returns : goal.returns
returns c =
    let bytes = c.args.bytes.now in
    gives_told c.analyse_record-found.ensures
    (record_narrow _ bytes (slice_below bytes c.type_inv.bytes))
    (c.packed.ensures ∙ ap (λ x. packed (cut x)) c.from.ensures)
