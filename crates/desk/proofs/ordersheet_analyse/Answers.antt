-- `desk::ordersheet_analyse` meets its contract: the analysis does, and its answer is narrow.
use mathlib.Core.Path.{ap, ◌∙◌}
use Rattle.desk.specs.Packed.{packed, cut}
use Rattle.desk.proofs.Bounds.{sheet_narrow}
use Rattle.desk.proofs.Telling.{gives_told}
use Rattle.desk.proofs.ordersheet_analyse.Goals as goal

pub returns : goal.returns
returns c = gives_told c.analyse_sheet-found.ensures (sheet_narrow _ _) (c.packed.ensures ∙ ap (λ x. packed (cut x)) c.from.ensures)
