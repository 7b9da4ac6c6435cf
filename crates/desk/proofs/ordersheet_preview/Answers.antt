-- `desk::ordersheet_preview` meets its contract: the preview does, and its answer is narrow.
use mathlib.Core.Path.{◌∙◌}
use Rattle.desk.proofs.Bounds.{preview_narrow}
use Rattle.desk.proofs.Telling.{answer_told}
use Rattle.desk.proofs.ordersheet_preview.Goals as goal

pub returns : goal.returns
returns c = answer_told (c.from.ensures ∙ c.preview_order-found.ensures) (preview_narrow _ _ _ _ _) c.packed.ensures
